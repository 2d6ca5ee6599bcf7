-- Text in pieces, put one after the other: a number in its column, a handle, and a list of entries.
use Rattle.std.specs.Prelude.{ℕ, cond, List, [], ◌∷◌, ◌++◌, eqb, length, drop, Option, None, Some}
use Rattle.answer_text.specs.Decimal.{decimal}
use Rattle.answer_text.specs.Put.{put}
use Rattle.handles.specs.declared.GenerationalHandle.{GenerationalHandle}

-- a buffer and a place in it, once each piece is put behind the one before it
abbrev pub put_all : List (List ℕ) → List ℕ × ℕ → List ℕ × ℕ
put_all [] s = s
put_all (piece ∷ l) s = put_all l (put piece s)

-- a text at the front of a buffer, what stood behind it, and the place behind it
abbrev pub text_then : List ℕ → List ℕ → List ℕ × ℕ
text_then text buf = (text ++ drop (length text) buf, length text)

-- a space (32)
abbrev pub space_pieces : List (List ℕ)
space_pieces = (32 ∷ []) ∷ []

-- `-` (45) is none
abbrev pub none_pieces : List (List ℕ)
none_pieces = (45 ∷ []) ∷ []

-- a number and the space behind it
abbrev pub cell_pieces : ℕ → List (List ℕ)
cell_pieces n = decimal n ∷ space_pieces

-- two numbers with a dot (46) between
abbrev pub pair_pieces : ℕ → ℕ → List (List ℕ)
pair_pieces m n = decimal m ∷ (46 ∷ []) ∷ decimal n ∷ []

-- three numbers with dots between
abbrev pub triple_pieces : ℕ → ℕ → ℕ → List (List ℕ)
triple_pieces m n k = decimal m ∷ (46 ∷ []) ∷ decimal n ∷ (46 ∷ []) ∷ decimal k ∷ []

-- a handle is index.generation
abbrev pub handle_pieces : GenerationalHandle → List (List ℕ)
handle_pieces h = pair_pieces h.index h.generation

abbrev pub optional_pieces : Option GenerationalHandle → List (List ℕ)
optional_pieces None = none_pieces
optional_pieces (Some h) = handle_pieces h

-- what stands before the entry at an index: a comma (44), but nothing before the first
abbrev pub comma_pieces : ℕ → List (List ℕ)
comma_pieces i = cond (eqb i 0) [] ((44 ∷ []) ∷ [])

module _ {E : Type 0} (text : E → List (List ℕ)) where
  -- entries that stand behind another
  unfoldable pub later_pieces : List E → List (List ℕ)
  later_pieces [] = []
  later_pieces (e ∷ l) = (44 ∷ []) ∷ (text e ++ later_pieces l)

  -- entries with commas between
  unfoldable pub entry_pieces : List E → List (List ℕ)
  entry_pieces [] = []
  entry_pieces (e ∷ l) = text e ++ later_pieces l

  -- a list with commas, or `-` where there is no entry
  unfoldable pub list_pieces : List E → List (List ℕ)
  list_pieces [] = none_pieces
  list_pieces (e ∷ l) = entry_pieces (e ∷ l)
