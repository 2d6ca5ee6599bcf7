-- `put_word` meets its contract: the eight bytes are put as one text.
use Rattle.std.proofs.Common.{◌≡◌, ℕ, w64}
use Rattle.std.proofs.Math.Nat.{div-div-eq-div-mul}
use Rattle.std.specs.Int.{to_le_bytes}
use Rattle.answer_numbers.specs.Numbers.{word, low_bytes}
use Rattle.answer_numbers.proofs.word.put_word.Goals as goal

low_first : (n : ℕ) → to_le_bytes w64 n ≡ word n
unfolding low_bytes
low_first n = simp div-div-eq-div-mul

pub returns : goal.returns
returns c = rw (c.to_le_bytes.ensures, low_first c.args.n) at c.put_bytes.ensures
