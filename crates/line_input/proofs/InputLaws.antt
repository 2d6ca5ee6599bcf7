-- Laws of a line taken out of a chunk, by where its line feed stands.
use Rattle.std.proofs.Common.{◌≡◌, ℕ, ◌+◌, ◌-◌, ◌≤◌, ◌<◌, List, [], length, take, drop, Bor, ap, ◌∙◌, arith, length-drop}
use Rattle.std.proofs.lemmas.Bool.Decides.{nat_tests}
use Rattle.std.specs.Option.{unwrap_or}
use Rattle.std.specs.Prelude.{Option, None, Some}
use Rattle.std.specs.Slice.{IsGetRangeResult}
use lib.ListN.{drop_of_length-le}
use mathlib.Core.Logic.{inl, inr}
use Rattle.line_input.specs.LineInput.{next_place}
use Rattle.script.proofs.WordLaws.{up_to_take, up_to_within}
use Rattle.script.specs.Words.{up_to}

-- the bytes up to a line feed are a part of the chunk, or none where the chunk is used up
module _ (chunk : List ℕ) (from e : ℕ) (end : e ≡ from + length (up_to 10 (drop from chunk))) where
  used_up : length chunk < from → [] ≡ up_to 10 (drop from chunk)
  used_up h = let past : length chunk ≤ from = omega arith in rw (drop_of_length-le chunk past)

  pub bytes_taken : (r : Option (Bor (List ℕ))) (d : Bor (List ℕ)) → IsGetRangeResult chunk from e r → d.now ≡ [] → (unwrap_or r d).now ≡ up_to 10 (drop from chunk)
  bytes_taken None d (inl h, k) n = absurd (omega arith)
  bytes_taken None d (inr h, k) n = n ∙ used_up (past h)
    where
      past : length chunk < e → length chunk < from
      past h = omega (arith, up_to_within 10 (drop from chunk), length-drop from chunk)
  bytes_taken (Some x) d h n = let m : e - from ≡ length (up_to 10 (drop from chunk)) = omega arith in h.0.2 ∙ ap (λ k. take k (drop from chunk)) m ∙ up_to_take 10 (drop from chunk)

-- a chunk that is not used up goes on further
pub advances : (chunk : List ℕ) (from : ℕ) → from < length chunk → from < next_place chunk from
advances chunk from h = grind (arith, nat_tests)
