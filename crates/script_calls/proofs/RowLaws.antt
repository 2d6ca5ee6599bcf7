-- The letters of a row read one by one: the numbers so far, and those of the letters to come.
use Rattle.std.proofs.Common.{◌≡◌, ℕ, ◌+◌, ◌<◌, List, ◌∷◌, length, drop, get_or, refl, sym, ap, ◌∙◌, arith, add-one, drop-cons}
use mathlib.Core.List.{foldl, foldl-append}
use Rattle.std.specs.Option.{option_map, option_and_then}
use Rattle.std.specs.Prelude.{Option, None, Some}
use Rattle.lists.specs.Tables.{pushed_within}
use Rattle.script.specs.Lines.{Fields}
use Rattle.script_calls.specs.Groups.{number_at}
use Rattle.script_calls.specs.Rows.{words, words_of, both_parts, row_words, read_behind, with_row}
use Rattle.script_calls.specs.declared.rows.Asked.{Asked}
use Rattle.script_calls.specs.declared.rows.Words.{Words}

-- the numbers of a row behind those so far
abbrev pub read_row : Words → List ℕ → Fields → ℕ → Option Words
read_row w row fs i = option_map (foldl (pushed_within words) w) (row_words row fs i)

read_parts : (w : Words) (o p : Option (List ℕ)) → option_map (foldl (pushed_within words) w) (both_parts o p) ≡ option_and_then (λ v. option_map (foldl (pushed_within words) v) p) (option_map (foldl (pushed_within words) w) o)
read_parts w None p = refl
read_parts w (Some k) None = refl
read_parts w (Some k) (Some l) = ap Some (foldl-append (pushed_within words) w k l)

-- one letter more
pub letter_next : (w : Words) (row : List ℕ) (fs : Fields) (i k : ℕ) → k < length row
    → read_row w (drop k row) fs (i + k)
    ≡ option_and_then (λ v. read_row v (drop (k + 1) row) fs (i + (k + 1))) (option_map (foldl (pushed_within words) w) (words_of (get_or row k 0) (number_at fs (i + k))))
unfolding row_words
letter_next w row fs i k h =
    let e : i + k + 1 ≡ i + (k + 1) = omega arith in
    ap (λ r. read_row w r fs (i + k)) (drop-cons row k 0 h ∙ ap (λ (n : ℕ). get_or row k 0 ∷ drop n row) (sym (add-one k)))
    ∙ read_parts w (words_of (get_or row k 0) (number_at fs (i + k))) (row_words (drop (k + 1) row) fs (i + k + 1))
    ∙ ap (λ (n : ℕ). option_and_then (λ v. read_row v (drop (k + 1) row) fs n) (option_map (foldl (pushed_within words) w) (words_of (get_or row k 0) (number_at fs (i + k))))) e

-- a row as what stands behind the numbers so far
pub with_row_is : (asked : Asked) (row : List ℕ) (fs : Fields) (i : ℕ) → with_row asked row fs i ≡ option_map (λ w. record { words = w; end = i + length row }) (read_row asked.words row fs i)
unfolding with_row
with_row_is asked row fs i = step (row_words row fs i)
  where
    step : (o : Option (List ℕ)) → option_map (read_behind asked (i + length row)) o ≡ option_map (λ w. record { words = w; end = i + length row }) (option_map (foldl (pushed_within words) asked.words) o)
    step None = refl
    step (Some l) = refl
