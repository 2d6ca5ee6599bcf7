-- The tests of the `i32` range on floats are the definition's on fractions: finite floats compare as their cross products do.
use Rattle.std.specs.Prelude.{None}
use Rattle.std.proofs.Common.{◌≡◌, ℕ, ◌+◌, ◌*◌, ◌<◌, Bool, true, false, cond, ◌&&◌, ◌||◌, T, eqb, ltb, leb, ℤ, pos, sym, refl, ap, ◌∙◌, subst, inl, inr, true≢false, le_of_eq, le_of_lt, eq-or-lt_of_le, mul-one, arith, le→leb, eqb→eq, ltb→lt, lt→ltb, leb→le}
use lib.Dec.{eqb_refl}
use lib.Ieee.{Float, nan, inf, fin, up, down, le}
use lib.Ieee.Fits.{down_pos, and_l, and_i}
use Rattle.geometry.specs.Rounding.{in_i32_range, round_i32}
use Rattle.geometry.proofs.Logic.{bool_ext, is_true, or_l, or_r, or_split, ltb_or, cond_false}

-- x ≤ y, as `le` tests it; the equality's test may stand either way round
le_test : (x y u v : ℕ) → (u ≡ v → x ≡ y) → (x ≡ y → u ≡ v) → (ltb x y || (eqb u v && true)) ≡ leb x y
le_test x y u v f g =
    bool_ext (ltb x y || (eqb u v && true)) (leb x y)
    (λ t. elim (or_split (ltb x y) (eqb u v && true) t) [
      | inl a ↦ le→leb x y (le_of_lt (ltb→lt x y a))
      | inr b ↦ le→leb x y (le_of_eq (f (eqb→eq u v (and_l (eqb u v) true b))))
    ])
    (λ t. elim (eq-or-lt_of_le (leb→le x y t)) [
      | inl e ↦
          or_r (ltb x y) (eqb u v && true) (and_i (eqb u v) true (subst (λ (z : ℕ). T (eqb u z)) (g e) (eqb_refl u)) tt)
      | inr l ↦ or_l (ltb x y) (eqb u v && true) (lt→ltb x y l)
    ])

-- -2147483648 and 2147483647
abbrev pub lowest : Float
lowest = fin true 1 (pos 31)

abbrev pub highest : Float
highest = fin false 2147483647 (pos 0)

-- numbers on the two sides of zero
apart : (a d : ℕ) → 0 < d → 0 < 2147483648 * d + a * 1
apart a d h = omega arith

apart' : (a d : ℕ) → 0 < d → 0 < a * 1 + 2147483647 * d
apart' a d h = omega arith

low_is : (s : Bool) (m : ℕ) (e : ℤ) → le lowest (fin s m e) ≡ cond s (leb (m * up e) (2147483648 * down e)) true
unfolding le
low_is true m e =
    let a = m * up e in
    let b = 2147483648 * down e in
    le_test (a * 1) b b (a * 1) sym sym ∙ ap (λ (x : ℕ). leb x b) (mul-one a)
low_is false m e = is_true _ (ltb_or _ (apart (m * up e) (down e) (down_pos e)))

high_is : (s : Bool) (m : ℕ) (e : ℤ) → le (fin s m e) highest ≡ cond s true (leb (m * up e) (2147483647 * down e))
unfolding le
high_is false m e =
    let a = m * up e in
    let b = 2147483647 * down e in
    le_test (a * 1) b (a * 1) b (λ h. h) (λ h. h) ∙ ap (λ (x : ℕ). leb x b) (mul-one a)
high_is true m e = is_true _ (ltb_or _ (apart' (m * up e) (down e) (down_pos e)))

pub in_range : (s : Bool) (m : ℕ) (e : ℤ)
    → le lowest (fin s m e) ≡ true
    → le (fin s m e) highest ≡ true
    → in_i32_range s (m * up e) (down e) ≡ true
in_range true m e p q = sym (low_is true m e) ∙ p
in_range false m e p q = sym (high_is false m e) ∙ q

pub under_low : (x : Float) → le lowest x ≡ false → None ≡ round_i32 x
under_low nan p = refl
under_low (inf s) p = refl
under_low (fin true m e) p = sym (cond_false _ _ _ (sym (low_is true m e) ∙ p))
under_low (fin false m e) p = absurd (true≢false (sym (low_is false m e) ∙ p))

pub over_high : (x : Float) → le x highest ≡ false → None ≡ round_i32 x
over_high nan p = refl
over_high (inf s) p = refl
over_high (fin false m e) p = sym (cond_false _ _ _ (sym (high_is false m e) ∙ p))
over_high (fin true m e) p = absurd (true≢false (sym (high_is true m e) ∙ p))
