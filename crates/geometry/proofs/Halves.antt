-- Half of an integer of at most 33 binary digits, away from zero, is the quotient of one more or one less by two, with no overflow.
use Rattle.std.proofs.Common.{◌≡◌, ℕ, suc, ◌+◌, ◌-◌, ◌/◌, ◌^◌, ◌<◌, true, false, ltb, ℤ, pos, negsuc, ◌+ℤ◌, ◌-ℤ◌, neg_ℤ, sym, refl, ap, ◌∙◌, true≢false, arith, w64, SFits}
use lib.Dec.{leb-zero}
use lib.Signed.{mag, le_z, quot_z}
use Rattle.geometry.specs.Rounding.{half_away}
use Rattle.geometry.proofs.Integers.{either_mag, neg_mag}

pub more_fits : (t : ℤ) → mag t < 2 ^ 33 → SFits w64 (t +ℤ pos 1)
more_fits (pos n) h = record { sfits = omega arith }
more_fits (negsuc n) h = record {
  sfits = either_mag (ltb 1 (suc n)) (negsuc (suc n - suc 1)) (pos (1 - suc n)) (2 ^ 63) (omega arith) (omega arith);
}

pub less_fits : (t : ℤ) → mag t < 2 ^ 33 → SFits w64 (t -ℤ pos 1)
less_fits (pos n) h = record {
  sfits = either_mag (ltb n 1) (negsuc (1 - suc n)) (pos (n - 1)) (2 ^ 63) (omega arith) (omega arith);
}
less_fits (negsuc n) h = record { sfits = omega arith }

pub half_fits : (z : ℤ) → SFits w64 z → SFits w64 (quot_z z (pos 2))
half_fits (pos n) f = record { sfits = omega arith }
half_fits (negsuc n) f = record { sfits = neg_mag (suc n / 2) (2 ^ 63) (omega arith) (omega arith) }

pub half_of_more : (t : ℤ) → le_z (pos 0) t ≡ true → quot_z (t +ℤ pos 1) (pos 2) ≡ half_away t
half_of_more (pos n) h = refl
half_of_more (negsuc n) h = absurd (true≢false (sym h))

pub half_of_less : (t : ℤ) → le_z (pos 0) t ≡ false → quot_z (t -ℤ pos 1) (pos 2) ≡ half_away t
half_of_less (pos n) h = absurd (true≢false (sym (leb-zero n) ∙ h))
half_of_less (negsuc n) h = ap (λ (k : ℕ). neg_ℤ (pos (k / 2))) (two n)
  where
    two : (n : ℕ) → suc (suc (n + 0)) ≡ n + 2
    two n = omega arith
