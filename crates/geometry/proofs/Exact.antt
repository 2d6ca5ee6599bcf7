-- A fraction that is q / 2 ^ j, with q of 53 binary digits at most, is an `f64`, so rounding leaves it as it is.
use Rattle.std.proofs.Common.{◌≡◌, ℕ, zero, suc, ◌+◌, ◌-◌, ◌*◌, ◌%◌, ◌^◌, ◌<◌, ◌≤◌, Bool, ◌&&◌, T, eqb, ltb, leb, ℤ, negsuc, sym, ap, ◌∙◌, le_trans, le_of_eq, lt_of_lt_of_le, le_of_suc-le-suc, mul-le-mul_right, mul_assoc, add-sub_of_le, one-mul, lt_of_not-le, mul_right_comm, not-le_of_lt, arith, lit<, lit≤, eqb→eq, ltb→lt, leb→le, pow_mono, pow-add, shl_lt}
use lib.Pow.{pow-lt}
use lib.Ieee.{fin, binary64, up, down, round, fits}
use lib.Ieee.Fits.{up_pos, and_l, and_r}
use lib.Ieee.Exact.{HasValue, round_exact}

pub exact_at : (s : Bool) (num den q j : ℕ)
    → 0 < den
    → q < 2 ^ 53
    → j ≤ 1074
    → num * 2 ^ j ≡ q * den
    → HasValue (round binary64 s num den) s num den
exact_at s num den q j D Q J h =
    let rest = 2 ^ (1074 - j) in
    let split : 2 ^ 1074 ≡ 2 ^ j * rest = ap (λ (x : ℕ). 2 ^ x) (sym (add-sub_of_le J)) ∙ pow-add 2 j (1074 - j) in
    round_exact binary64 s num den q (1074 - j) D Q
    (lt_of_lt_of_le (shl_lt 53 (1074 - j) Q) (pow_mono (room j)))
    (ap (λ (x : ℕ). num * x) split
    ∙ sym (mul_assoc num (2 ^ j) rest)
    ∙ ap (λ (x : ℕ). x * rest) h
    ∙ mul_right_comm q den rest)
  where
    room : (j : ℕ) → 53 + (1074 - j) ≤ 2098
    room j = omega arith

-- an `f64` has a significand of 53 digits at most
pub few_digits : (s : Bool) (m : ℕ) (e : ℤ) → T (fits binary64 (fin s m e)) → m < 2 ^ 53
unfolding fits
few_digits s zero e t = lit< tt
few_digits s (suc m) e t =
    let odd = eqb (suc m % 2) 1 in
    let short = ltb (suc m) (2 ^ 53) in
    let fine = leb (down e) (2 ^ 1074) in
    let small = ltb (suc m * up e) (2 ^ 1024 * down e) in
    ltb→lt (suc m) (2 ^ 53) (and_r odd short (and_l (odd && short) fine (and_l (odd && short && fine) small t)))

-- an `f64` has a denominator of 2 ^ 1074 at most
not_low : (s : Bool) (m : ℕ) (e : ℤ) → T (fits binary64 (fin s m e)) → down e ≤ 2 ^ 1074
unfolding fits
not_low s zero e t =
    let part : 1 * down e ≤ up e * down e = mul-le-mul_right (down e) (up_pos e) in
    let one : up e * down e ≡ 1 = eqb→eq (up e * down e) 1 t in
    le_trans (le_of_eq (sym (one-mul (down e)))) (le_trans part (le_trans (le_of_eq one) (lit≤ tt)))
not_low s (suc m) e t =
    let odd = eqb (suc m % 2) 1 in
    let short = ltb (suc m) (2 ^ 53) in
    let fine = leb (down e) (2 ^ 1074) in
    let small = ltb (suc m * up e) (2 ^ 1024 * down e) in
    leb→le (down e) (2 ^ 1074) (and_r (odd && short) fine (and_l (odd && short && fine) small t))

pow_back : (i j : ℕ) → 2 ^ i ≤ 2 ^ j → i ≤ j
pow_back i j h = le_of_suc-le-suc (lt_of_not-le (λ (g : suc j ≤ i). not-le_of_lt (pow-lt g) h))

-- an `f64` has an exponent of -1074 at least
pub low_enough : (s : Bool) (m k : ℕ) → T (fits binary64 (fin s m (negsuc k))) → suc k ≤ 1074
low_enough s m k t = pow_back (suc k) 1074 (not_low s m (negsuc k) t)
