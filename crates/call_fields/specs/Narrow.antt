-- Numbers in the range of a field; one out of range is read as 0.
use Rattle.std.specs.Prelude.{ℕ, Bool, cond, eqb, ltb, ℤ}
use Rattle.std.specs.Int.{w16, w32}
use Rattle.std.proofs.Common.{to_z}

-- an unsigned field of fewer bits
unfoldable pub within : ℕ → ℕ → ℕ
within top n = cond (ltb n top) n 0

-- a flag is 0 or 1
abbrev pub is_one : ℕ → Bool
is_one n = eqb n 1

abbrev pub one_if : Bool → ℕ
one_if f = cond f 1 0

-- a signed field of 32 or of 16 bits: its two's complement
unfoldable pub signed_of : ℕ → ℤ
signed_of n = to_z w32 (within 4294967296 n)

unfoldable pub short_of : ℕ → ℤ
short_of n = to_z w16 (within 65536 n)
