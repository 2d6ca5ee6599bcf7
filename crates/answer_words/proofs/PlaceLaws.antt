-- Words in a buffer: numbers taken into a sink of words are put one by one, and with room for all they are their bytes.
use Rattle.std.specs.Prelude.{Option, None, Some}
use Prim.Native.Nat.{ℕ, ◌*◌, ◌≤◌}
use mathlib.Core.Bool.{Bool, false}
use mathlib.Core.List.{List, [], ◌∷◌, ◌++◌, flatten, map}
use mathlib.Core.Path.{◌≡◌, refl, sym, ap, ◌∙◌}
use native.Mathlib.Omega.{arith}
use lib.ListN.{length, length-append}
use Rattle.lists.proofs.ListLaws.{map_append}
use Rattle.answer_text.specs.Put.{put}
use Rattle.answer_text.specs.declared.digest.Digest.{Digest}
use Rattle.answer_numbers.specs.declared.sink.SinkKind.TheVariants.{Words}
use Rattle.answer_numbers.specs.Numbers.{Number, dumped_number, low_bytes, word, number_taken, numbers_taken}
use Rattle.answer_numbers.specs.Writers.{place_of, placed}
use Rattle.answer_more.specs.Place.{more_placed}
use Rattle.answer_columns.specs.Pieces.{put_all}
use Rattle.answer_columns.proofs.ClaimLaws as columns
use Rattle.answer_columns.proofs.PieceLaws.{chain}
use Rattle.answer_words.specs.Answers.{shown_numbers, bytes_of}
use Rattle.answer_words.specs.Claims.{bytes_then}

-- the pieces that numbers are put as
abbrev pieces : List Number → List (List ℕ)
pieces l = map word (map dumped_number l)

taken : (l : List Number) (buf : List ℕ) (at : ℕ) (f : Bool) (d : Digest)
    → place_of (numbers_taken l (buf, record { kind = Words; at = at; is_first = f; digest = d }))
    ≡ put_all (pieces l) (buf, at)
unfolding numbers_taken number_taken
taken [] buf at f d = refl
taken (n ∷ l) buf at f d =
    let t : List ℕ × ℕ = put (word (dumped_number n)) (buf, at) in
    taken l t.0 t.1 false d

numbers_put : (l : List Number) (s : List ℕ × ℕ) → placed Words l s ≡ put_all (pieces l) s
numbers_put l s = taken l s.0 s.1 _ _

shown_put : (o : Option (List Number)) (s : List ℕ × ℕ) → more_placed Words o s ≡ put_all (pieces (shown_numbers o)) s
shown_put None s = refl
shown_put (Some l) s = numbers_put l s

-- what is put as numbers and then as what is shown is put as one list of words
pub words_put : (l : List Number) (o : Option (List Number)) (s : List ℕ × ℕ)
    → more_placed Words o (placed Words l s) ≡ put_all (map word (map dumped_number (l ++ shown_numbers o))) s
words_put l o s =
    let more = shown_numbers o in
    let both : pieces (l ++ more) ≡ pieces l ++ pieces more =
    ap (map word) (map_append dumped_number l more) ∙ map_append word (map dumped_number l) (map dumped_number more) in
    chain (pieces l) (pieces more) s (shown_put o (placed Words l s)) (numbers_put l s)
    ∙ ap (λ (x : List (List ℕ)). put_all x s) (sym both)

pub bytes_long : (l : List ℕ) → length (bytes_of l) ≡ 8 * length l
unfolding bytes_of flatten low_bytes
bytes_long [] = omega arith
bytes_long (n ∷ l) = length-append (word n) (bytes_of l) ∙ omega (arith, bytes_long l)

-- with room for all their bytes, words stand at the front of a buffer, and behind them what stood there
pub words_whole : (l buf : List ℕ) → length (bytes_of l) ≤ length buf → put_all (map word l) (buf, 0) ≡ bytes_then l buf
unfolding bytes_of
words_whole l buf h = (columns.claims).whole_text (map word l) buf h
