-- The determinant of four `i32` fits an `i64`: a product lies above -2 ^ 62 and at 2 ^ 62 at most, since only equal signs make the largest.
use Rattle.std.proofs.Common.{◌≡◌, ℕ, zero, suc, ◌-◌, ◌*◌, ◌^◌, ◌<◌, ◌≤◌, cond, eqb, ltb, ℤ, pos, negsuc, ◌-ℤ◌, ◌*ℤ◌, neg_ℤ, refl, zero-le, lt_of_le_of_lt, le_of_lt, mul-le-mul, arith, lit<, w32, w64, SFits, of_z, ne_eqb}
use lib.Signed.{mag}
use Rattle.geometry.specs.Surface.{integer_determinant, is_zero}
use Rattle.geometry.specs.Claims.{I32Entries}
use Rattle.geometry.specs.declared.transform.SurfaceTransform.{SurfaceTransform}
use Rattle.geometry.proofs.Integers.{either_mag}

-- -2 ^ 62 < z ≤ 2 ^ 62
abbrev Product : ℤ → Type 0
Product (pos n) = n ≤ 2 ^ 62
Product (negsuc n) = suc n < 2 ^ 62

negated : (n : ℕ) → n < 2 ^ 62 → Product (neg_ℤ (pos n))
negated zero h = zero-le
negated (suc n) h = h

at_most : {n : ℕ} → SFits w32 (pos n) → n ≤ 2 ^ 31 - 1
at_most f = omega arith

product : (x y : ℤ) → SFits w32 x → SFits w32 y → Product (x *ℤ y)
product (pos a) (pos b) f g = mul-le-mul (le_of_lt f.sfits) (le_of_lt g.sfits)
product (pos a) (negsuc b) f g = negated (a * suc b) (lt_of_le_of_lt (mul-le-mul (at_most f) g.sfits) (lit< tt))
product (negsuc a) (pos b) f g = negated (suc a * b) (lt_of_le_of_lt (mul-le-mul f.sfits (at_most g)) (lit< tt))
product (negsuc a) (negsuc b) f g = mul-le-mul f.sfits g.sfits

product_fits : (z : ℤ) → Product z → SFits w64 z
product_fits (pos n) h = record { sfits = omega arith }
product_fits (negsuc n) h = record { sfits = omega arith }

-- a - b of two naturals
gap : (a b : ℕ) → a ≤ 2 ^ 62 → b ≤ 2 ^ 62 → mag (cond (ltb a b) (negsuc (b - suc a)) (pos (a - b))) < 2 ^ 63
gap a b h k = either_mag (ltb a b) (negsuc (b - suc a)) (pos (a - b)) (2 ^ 63) (omega arith) (omega arith)

difference_fits : (x y : ℤ) → Product x → Product y → SFits w64 (x -ℤ y)
difference_fits (pos a) (pos zero) f g = record { sfits = omega arith }
difference_fits (negsuc a) (pos zero) f g = record { sfits = gap 0 (suc a) (omega arith) (omega arith) }
difference_fits (pos a) (pos (suc b)) f g = record { sfits = gap a (suc b) f g }
difference_fits (negsuc a) (pos (suc b)) f g = record { sfits = omega arith }
difference_fits (pos a) (negsuc b) f g = record { sfits = omega arith }
difference_fits (negsuc a) (negsuc b) f g = record { sfits = gap (suc b) (suc a) (omega arith) (omega arith) }

pub mul_fits : {x y : ℤ} → SFits w32 x → SFits w32 y → SFits w64 (x *ℤ y)
mul_fits {x} {y} f g = product_fits (x *ℤ y) (product x y f g)

pub determinant_fits : (t : SurfaceTransform) → I32Entries t → SFits w64 (integer_determinant t)
determinant_fits t f =
    difference_fits (t.m11_q16 *ℤ t.m22_q16) (t.m12_q16 *ℤ t.m21_q16)
    (product t.m11_q16 t.m22_q16 f.m11 f.m22)
    (product t.m12_q16 t.m21_q16 f.m12 f.m21)

-- the test on the bits is the test on the integer
pub zero_bits : (z : ℤ) → SFits w64 z → eqb (of_z w64 z) 0 ≡ is_zero z
zero_bits (pos n) f = refl
zero_bits (negsuc n) f = ne_eqb (2 ^ 64 - suc n) 0 (λ e. some n f e)
  where
    some : (n : ℕ) → SFits w64 (negsuc n) → 2 ^ 64 - suc n ≡ 0 → ⊥
    some n f e = omega arith
