-- The words of a line: what stands between its spaces.
use Rattle.std.specs.Prelude.{ℕ, Bool, cond, List, [], ◌∷◌, eqb, Option, position}
use Rattle.std.specs.Str.{bytes_eq}

-- the bytes before the first b, or all where there is none
abbrev pub up_to : ℕ → List ℕ → List ℕ
up_to b [] = []
up_to b (x ∷ l) = cond (eqb x b) [] (x ∷ up_to b l)

-- a line's first word ends at its first space (32)
abbrev pub first_word : List ℕ → List ℕ
first_word l = up_to 32 l

-- its other words: after each space stands one
abbrev pub later_words : List ℕ → List (List ℕ)
later_words [] = []
later_words (b ∷ l) = cond (eqb b 32) (first_word l ∷ later_words l) (later_words l)

-- all its words
abbrev pub words_of : List ℕ → List (List ℕ)
words_of l = first_word l ∷ later_words l

-- whether two texts are the same, byte for byte
abbrev pub same : List ℕ → List ℕ → Bool
same = bytes_eq

-- the place of a text among others
abbrev pub place_in : List ℕ → List (List ℕ) → Option ℕ
place_in w = position (λ v. same v w)
