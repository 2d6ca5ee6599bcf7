-- An `i32` or a `u32` cast to an `i64` is the same integer, since what fits is read back from its bits, and a corner plus a size fits.
use Rattle.std.proofs.Common.{◌≡◌, ℕ, zero, suc, ◌-◌, ◌^◌, ◌<◌, ◌≤◌, Bool, true, false, cond, ltb, ℤ, pos, negsuc, ◌+ℤ◌, neg_ℤ, ap, ◌∙◌, arith, to_z-of_z, w32, w64, Fits, SFits, to_z, of_z}
use lib.Signed.{mag}
use mir.Facts.{to_z_pos, sfits_widen}

-- a signed field is an `i32`
pub i32_fits : (z : ℤ) → mag z < 2 ^ 31 → SFits w32 z
i32_fits z h = record { sfits = h }

-- a signed field in a local
pub i32_back : (z : ℤ) → mag z < 2 ^ 31 → to_z w32 (of_z w32 z) ≡ z
i32_back z h = to_z-of_z {w = w32} {z = z} (i32_fits z h)

pub widens : {z : ℤ} → SFits w32 z → SFits w64 z
widens f = sfits_widen tt f

pub cast_fits : {z : ℤ} → SFits w32 z → SFits w64 (to_z w32 (of_z w32 z))
cast_fits f = rw (to_z-of_z f) (widens f)

-- an `i32` in a local, cast to an `i64` in a local
pub as_i64 : {z : ℤ} → SFits w32 z → to_z w64 (of_z w64 (to_z w32 (of_z w32 z))) ≡ z
as_i64 f = ap (λ (y : ℤ). to_z w64 (of_z w64 y)) (to_z-of_z f) ∙ to_z-of_z (widens f)

-- a `u32` in a local, cast to an `i64` in a local
pub u32_as_i64 : {n : ℕ} → Fits w32 n → to_z w64 n ≡ pos n
u32_as_i64 f = to_z_pos w64 (omega arith)

-- of two integers that are small enough, either one is
pub either_mag : (b : Bool) (x y : ℤ) (k : ℕ) → mag x < k → mag y < k → mag (cond b x y) < k
either_mag true x y k p q = p
either_mag false x y k p q = q

pub neg_mag : (n k : ℕ) → 0 < k → n ≤ k → mag (neg_ℤ (pos n)) < k
neg_mag zero k p h = p
neg_mag (suc n) k p h = h

pub sum_fits : (z : ℤ) (n : ℕ) → SFits w32 z → Fits w32 n → SFits w64 (z +ℤ pos n)
sum_fits (pos a) n f g = record { sfits = omega arith }
sum_fits (negsuc a) n f g = record {
  sfits = either_mag (ltb n (suc a)) (negsuc (suc a - suc n)) (pos (n - suc a)) (2 ^ 63) (omega arith) (omega arith);
}
