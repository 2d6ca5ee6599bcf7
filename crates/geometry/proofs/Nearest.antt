-- The whole part of twice a float in range, halved away from zero, is the nearest `i32`: doubling is exact, and halving rounds.
use Rattle.std.specs.Prelude.{None, Some}
use Rattle.std.proofs.Common.{◌≡◌, ℕ, zero, suc, ◌+◌, ◌*◌, ◌/◌, ◌^◌, ◌<◌, ◌≤◌, Bool, true, false, T, ℤ, pos, neg_ℤ, sym, refl, ap, ◌∙◌, subst, true≢false, le_of_suc-le-suc, lt_of_le_of_lt, mul_assoc, suc-mul, div-lt_iff_lt-mul, mul-pos, arith, lit<, w32, SFits, leb-true}
use native.Mathlib.Nat.{add-div_right, div-div-eq-div-mul}
use lib.Signed.{mag}
use lib.Ieee.{Float, nan, inf, fin, binary64, up, down, lt, le, fits, to_signed}
use lib.Ieee.Fits.{down_pos}
use lib.Ieee.Exact.{HasValue}
use Rattle.geometry.specs.Rounding.{signed, nearest, in_i32_range, round_i32, half_away}
use Rattle.geometry.proofs.Logic.{cond_true}
use Rattle.geometry.proofs.Integers.{neg_mag}
use Rattle.geometry.proofs.RangeTests.{lowest, highest, in_range}
use Rattle.geometry.proofs.Truncated.{top, bottom, cut_is, below_top, above_bottom, quotient_le}
use Rattle.geometry.proofs.Doubled.{twice, doubled}

-- half of the whole part of twice a / d is the whole number nearest to a / d
halved : (a d : ℕ) → 0 < d → (a * 2 / d + 1) / 2 ≡ nearest a d
halved a d D = ap (λ (x : ℕ). x / 2) (sym (add-div_right (a * 2) D)) ∙ div-div-eq-div-mul (a * 2 + d) d 2

half_signed : (s : Bool) (q : ℕ) → half_away (signed s q) ≡ signed s ((q + 1) / 2)
half_signed false q = refl
half_signed true zero = refl
half_signed true (suc q) = ap (λ (x : ℕ). neg_ℤ (pos (x / 2))) (step q)
  where
    step : (q : ℕ) → q + 2 ≡ suc q + 1
    step q = omega arith

looser : (a d : ℕ) → a ≤ 2147483647 * d → a ≤ 2147483648 * d
looser a d h = omega arith

bound : (s : Bool) (a d : ℕ) → in_i32_range s a d ≡ true → a ≤ 2147483648 * d
bound true a d r = leb-true a (2147483648 * d) r
bound false a d r = looser a d (leb-true a (2147483647 * d) r)

double_bound : (a d : ℕ) → a ≤ 2147483648 * d → a * 2 ≤ 2 ^ 32 * d
double_bound a d h = omega arith

-- a size of at most k rounds to at most k
nearest_le : (k a d : ℕ) → 0 < d → a ≤ k * d → nearest a d ≤ k
nearest_le k a d D h =
    let room : suc k * (d * 2) ≡ (k * d + d) * 2 = sym (mul_assoc (suc k) d 2) ∙ ap (λ (x : ℕ). x * 2) (suc-mul k d) in
    le_of_suc-le-suc ((div-lt_iff_lt-mul (mul-pos D (lit< tt))).1 (subst (λ (x : ℕ). a * 2 + d < x) (sym room) (below (k * d) a d D h)))
  where
    below : (n a d : ℕ) → 0 < d → a ≤ n → a * 2 + d < (n + d) * 2
    below n a d D h = omega arith

nearest_fits : (s : Bool) (a d : ℕ) → 0 < d → in_i32_range s a d ≡ true → SFits w32 (signed s (nearest a d))
nearest_fits true a d D r = record {
  sfits = neg_mag (nearest a d) 2147483648 (lit< tt) (nearest_le 2147483648 a d D (leb-true a (2147483648 * d) r));
}
nearest_fits false a d D r = record {
  sfits = lt_of_le_of_lt (nearest_le 2147483647 a d D (leb-true a (2147483647 * d) r)) (lit< tt);
}

narrow_enough : (s : Bool) (q : ℕ) → q ≤ 2 ^ 32 → mag (signed s q) < 2 ^ 33
narrow_enough true zero h = lit< tt
narrow_enough true (suc q) h = omega arith
narrow_enough false q h = omega arith

-- what `round_i32` needs of a float in range
pub record Facts (x : Float) : Type 0 where
  pub above : T (le bottom (twice x))
  pub below : T (lt (twice x) top)
  pub narrow : mag (to_signed 63 (twice x)) < 2 ^ 33
  pub fit : SFits w32 (half_away (to_signed 63 (twice x)))
  pub is : Some (half_away (to_signed 63 (twice x))) ≡ round_i32 x

finite_facts : (s : Bool) (m : ℕ) (e : ℤ) → T (fits binary64 (fin s m e)) → in_i32_range s (m * up e) (down e) ≡ true → Facts (fin s m e)
finite_facts s m e f r =
    let a = m * up e in
    let d = down e in
    let D = down_pos e in
    let h = bound s a d r in
    let k = double_bound a d h in
    let y = twice (fin s m e) in
    let v : HasValue y s (a * 2) d = doubled s m e f h in
    let cut : to_signed 63 y ≡ signed s (a * 2 / d) = cut_is y s (a * 2) d D k v in
    let half : half_away (to_signed 63 y) ≡ signed s (nearest a d) =
    ap half_away cut ∙ half_signed s (a * 2 / d) ∙ ap (signed s) (halved a d D) in
    record {
      above = above_bottom y s (a * 2) d D k v;
      below = below_top y s (a * 2) d D k v;
      narrow = subst (λ (z : ℤ). mag z < 2 ^ 33) (sym cut) (narrow_enough s (a * 2 / d) (quotient_le (a * 2) d D k));
      fit = subst (λ (z : ℤ). SFits w32 z) (sym half) (nearest_fits s a d D r);
      is = ap Some half ∙ sym (cond_true (in_i32_range s a d) (Some (signed s (nearest a d))) None r);
    }

pub facts : (x : Float) → T (fits binary64 x) → le lowest x ≡ true → le x highest ≡ true → Facts x
unfolding le
facts nan f p q = absurd (true≢false (sym p))
facts (inf true) f p q = absurd (true≢false (sym p))
facts (inf false) f p q = absurd (true≢false (sym q))
facts (fin s m e) f p q = finite_facts s m e f (in_range s m e p q)
