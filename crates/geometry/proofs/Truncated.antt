-- A float of the value b / c, at most 2 ^ 32 in size, can be truncated to an `i64`, which is b / c cut: the value alone decides.
use Rattle.std.proofs.Common.{◌≡◌, ℕ, ◌+◌, ◌-◌, ◌*◌, ◌/◌, ◌^◌, ◌<◌, ◌≤◌, min, Bool, true, false, T, ℤ, pos, neg_ℤ, ap, ◌∙◌, le_trans, le_of_eq, mul-le-mul_right, mul_comm, mul_right_comm, le_of_mul-le-mul_right, arith, lt→ltb}
use native.Mathlib.Nat.{div-le_of_le-mul}
use lib.Ieee.{Float, nan, inf, fin, up, down, lt, le, to_signed}
use lib.Ieee.Fits.{down_pos}
use lib.Ieee.Exact.{HasValue}
use lib.Ieee.Nearest.{div_same}
use Rattle.geometry.specs.Rounding.{signed}
use Rattle.geometry.proofs.Logic.{ltb_or}

-- 2 ^ 63 and its negative, between which a float can be truncated
abbrev pub top : Float
top = fin false 1 (pos 63)

abbrev pub bottom : Float
bottom = fin true 1 (pos 63)

module _ (m : ℕ) (e : ℤ) (b c : ℕ) (C : 0 < c) (v : m * up e * c ≡ b * down e) (h : b ≤ 2 ^ 32 * c) where
  cut : m * up e / down e ≡ b / c
  cut = div_same (m * up e) (down e) b c (down_pos e) C v

  size_at_most : m * up e ≤ 2 ^ 32 * down e
  size_at_most =
      le_of_mul-le-mul_right
      (le_trans (le_of_eq v) (le_trans (mul-le-mul_right (down e) h) (le_of_eq (mul_right_comm (2 ^ 32) c (down e)))))
      C

pub quotient_le : (b c : ℕ) → 0 < c → b ≤ 2 ^ 32 * c → b / c ≤ 2 ^ 32
quotient_le b c C h = div-le_of_le-mul c (le_trans h (le_of_eq (mul_comm (2 ^ 32) c)))

capped : (x q : ℕ) → x ≡ q → q ≤ 2 ^ 32 → min x (2 ^ 63) ≡ q
capped x q e h = omega arith

capped' : (x q : ℕ) → x ≡ q → q ≤ 2 ^ 32 → min x (2 ^ 63 - 1) ≡ q
capped' x q e h = omega arith

pub cut_is : (y : Float) (s : Bool) (b c : ℕ) → 0 < c → b ≤ 2 ^ 32 * c → HasValue y s b c → to_signed 63 y ≡ signed s (b / c)
unfolding to_signed
cut_is nan s b c C h v = absurd v
cut_is (inf t) s b c C h v = absurd v
cut_is (fin true m e) s b c C h v =
    ap (λ (n : ℕ). neg_ℤ (pos n)) (capped _ (b / c) (cut m e b c C v.1 h) (quotient_le b c C h))
    ∙ ap (λ (t : Bool). signed t (b / c)) v.0
cut_is (fin false m e) s b c C h v =
    ap pos (capped' _ (b / c) (cut m e b c C v.1 h) (quotient_le b c C h)) ∙ ap (λ (t : Bool). signed t (b / c)) v.0

under : (a d : ℕ) → 0 < d → a ≤ 2 ^ 32 * d → a * 1 < 9223372036854775808 * d
under a d D h = omega arith

apart : (a d : ℕ) → 0 < d → 0 < a * 1 + 9223372036854775808 * d
apart a d D = omega arith

apart' : (a d : ℕ) → 0 < d → 0 < 9223372036854775808 * d + a * 1
apart' a d D = omega arith

pub below_top : (y : Float) (s : Bool) (b c : ℕ) → 0 < c → b ≤ 2 ^ 32 * c → HasValue y s b c → T (lt y top)
unfolding lt
below_top nan s b c C h v = absurd v
below_top (inf t) s b c C h v = absurd v
below_top (fin true m e) s b c C h v = lt→ltb 0 _ (apart (m * up e) (down e) (down_pos e))
below_top (fin false m e) s b c C h v =
    lt→ltb _ _ (under (m * up e) (down e) (down_pos e) (size_at_most m e b c C v.1 h))

pub above_bottom : (y : Float) (s : Bool) (b c : ℕ) → 0 < c → b ≤ 2 ^ 32 * c → HasValue y s b c → T (le bottom y)
unfolding le
above_bottom nan s b c C h v = absurd v
above_bottom (inf t) s b c C h v = absurd v
above_bottom (fin true m e) s b c C h v =
    ltb_or _ (under (m * up e) (down e) (down_pos e) (size_at_most m e b c C v.1 h))
above_bottom (fin false m e) s b c C h v = ltb_or _ (apart' (m * up e) (down e) (down_pos e))
