-- Twice a float of at most 2 ^ 31 in size is exact: its significand still has 53 binary digits at most.
use Rattle.std.proofs.Common.{◌≡◌, ℕ, suc, ◌*◌, ◌^◌, ◌<◌, ◌≤◌, Bool, true, false, T, ℤ, pos, negsuc, sym, refl, ap, ◌∙◌, subst, mul_assoc, mul_comm, mul-pos, pow-suc, mul-one, arith, lit<, lit≤}
use lib.Ieee.{Float, fin, binary64, up, down, round, mul, fits, of_bits}
use lib.Ieee.Fits.{down_pos}
use lib.Ieee.Exact.{HasValue}
use Rattle.geometry.proofs.Exact.{exact_at, few_digits, low_enough}

-- what the code multiplies: 2.0 by its bits
abbrev pub twice : Float → Float
twice x = mul binary64 x (of_bits binary64 4611686018427387904)

two_is : of_bits binary64 4611686018427387904 ≡ fin false 1 (pos 1)
unfolding of_bits
two_is = refl

times_two : (s : Bool) (m : ℕ) (e : ℤ) → mul binary64 (fin s m e) (fin false 1 (pos 1)) ≡ round binary64 s (m * up e * 2) (down e * 1)
unfolding mul
times_two true m e = refl
times_two false m e = refl

fits_53 : (a : ℕ) → a ≤ 2147483648 * 1 → a * 2 < 2 ^ 53
fits_53 a h = omega arith

one_less : (k : ℕ) → suc k ≤ 1074 → k ≤ 1074
one_less k h = omega arith

rounds_to : (s : Bool) (m : ℕ) (e : ℤ)
    → T (fits binary64 (fin s m e))
    → m * up e ≤ 2147483648 * down e
    → HasValue (round binary64 s (m * up e * 2) (down e * 1)) s (m * up e * 2) (down e * 1)
rounds_to s m (pos k) f h =
    let a = m * 2 ^ k in
    exact_at s (a * 2) 1 (a * 2) 0 (lit< tt) (fits_53 a h) (lit≤ tt) refl
rounds_to s m (negsuc k) f h =
    let few = few_digits s m (negsuc k) f in
    let low = one_less k (low_enough s m k f) in
    let two : 2 * 2 ^ k ≡ 2 ^ suc k * 1 = mul_comm 2 (2 ^ k) ∙ sym (pow-suc 2 k) ∙ sym (mul-one (2 ^ suc k)) in
    exact_at s (m * 1 * 2) (2 ^ suc k * 1) m k (mul-pos (down_pos (negsuc k)) (lit< tt)) few low
    (ap (λ (x : ℕ). x * 2 * 2 ^ k) (mul-one m) ∙ mul_assoc m 2 (2 ^ k) ∙ ap (λ (x : ℕ). m * x) two)

pub doubled : (s : Bool) (m : ℕ) (e : ℤ)
    → T (fits binary64 (fin s m e))
    → m * up e ≤ 2147483648 * down e
    → HasValue (twice (fin s m e)) s (m * up e * 2) (down e)
doubled s m e f h =
    subst (λ (t : Float). HasValue (mul binary64 (fin s m e) t) s (m * up e * 2) (down e)) (sym two_is)
    (subst (λ (y : Float). HasValue y s (m * up e * 2) (down e)) (sym (times_two s m e))
    (subst (λ (d : ℕ). HasValue (round binary64 s (m * up e * 2) (down e * 1)) s (m * up e * 2) d) (mul-one (down e))
    (rounds_to s m e f h)))
