-- Decimal digits read back: one digit more on each side, and the first is 0 only in 0.
use Prim.Native.Nat.{ℕ, zero, suc, ◌+◌, ◌*◌, ◌-◌, ◌/◌, ◌%◌, ◌^◌, ◌≤◌, ◌<◌}
use mathlib.Core.Bool.{true}
use mathlib.Core.List.{List, [], ◌∷◌, foldl-append}
use mathlib.Core.Path.{◌≡◌, ap, ◌∙◌}
use native.Mathlib.Nat.{le_refl}
use native.Mathlib.Omega.{arith}
use lib.Dec.{eqb, ltb}
use lib.ListN.{length, get_or, get_or-append}
use borrow.Author.Tests.{ltb-true, ltb-false, ne_eqb}
use Rattle.lists.proofs.ListLaws.{by_test}
use Rattle.std.proofs.lemmas.Bool.Decides.{nat_tests}
use Rattle.std.specs.Prelude.{Some}
use Rattle.script.specs.Numbers.{push_digit, digits_of, is_led, magnitude_of, number_of}
use Rattle.answer_text.proofs.DecimalLaws.{decimal_one, decimal_more, length_one, length_more, shorter}
use Rattle.answer_text.specs.Decimal.{decimal}
use Rattle.line_input.specs.Claims.{RoundTripClaims}

-- ---- the digits make the number
digit_read : (q d : ℕ) → d < 10 → q * 10 + d < 2 ^ 64 → push_digit q (48 + d) ≡ Some (q * 10 + d)
unfolding push_digit
digit_read q d h b = let less : 48 + d - 48 ≡ d = omega arith in rw less (grind (arith, nat_tests))

digits_one : (n : ℕ) → n < 10 → digits_of (decimal n) ≡ Some n
unfolding digits_of
digits_one n h = rw (decimal_one n h) (digit_read 0 n h (omega arith) ∙ ap Some (zero_times n))
  where
    zero_times : (n : ℕ) → 0 * 10 + n ≡ n
    zero_times n = omega arith

digits_within : (f n : ℕ) → n ≤ f → n < 2 ^ 64 → digits_of (decimal n) ≡ Some n
unfolding digits_of
digits_within zero n h b = digits_one n (small n h)
  where
    small : (n : ℕ) → n ≤ 0 → n < 10
    small n h = omega arith
digits_within (suc f) n h b =
    by_test (ltb n 10)
    (λ t. digits_one n (ltb-true n 10 t))
    (λ t. more n f h b (ltb-false n 10 t) (digits_within f (n / 10) (shorter n f h (ltb-false n 10 t)) (omega arith)))
  where
    parts : (n : ℕ) → n / 10 * 10 + n % 10 ≡ n
    parts n = omega arith

    more : (n f : ℕ) → n ≤ suc f → n < 2 ^ 64 → 10 ≤ n → digits_of (decimal (n / 10)) ≡ Some (n / 10) → digits_of (decimal n) ≡ Some n
    more n f h b t ih = rw (decimal_more n (omega arith) t, foldl-append, ih) (digit_read (n / 10) (n % 10) (omega arith) (omega arith) ∙ ap Some (parts n))

-- ---- the first digit
-- the first byte of decimal digits is one of `0` to `9`, and `0` only in 0
record First (n : ℕ) : Type 0 where
  some : 0 < length (decimal n)
  digit : 48 ≤ get_or (decimal n) 0 0
  led : 0 < n → 48 < get_or (decimal n) 0 0

first_one : (n : ℕ) → n < 10 → First n
first_one n h = record {
  some = rw (length_one n h) (omega arith);
  digit = rw (decimal_one n h) (omega arith);
  led = λ p. rw (decimal_one n h) (omega arith);
}

first_within : (f n : ℕ) → n ≤ f → n < 2 ^ 64 → First n
first_within zero n h b = first_one n (small n h)
  where
    small : (n : ℕ) → n ≤ 0 → n < 10
    small n h = omega arith
first_within (suc f) n h b =
    by_test (ltb n 10)
    (λ t. first_one n (ltb-true n 10 t))
    (λ t. more n (omega arith) (ltb-false n 10 t) (first_within f (n / 10) (shorter n f h (ltb-false n 10 t)) (omega arith)))
  where
    more : (n : ℕ) → n < 10 ^ 20 → 10 ≤ n → First (n / 10) → First n
    more n b t r =
        let same : get_or (decimal n) 0 0 ≡ get_or (decimal (n / 10)) 0 0 = ap (λ (l : List ℕ). get_or l 0 0) (decimal_more n b t) ∙ get_or-append (decimal (n / 10)) ((48 + n % 10) ∷ []) 0 0 r.some in
        record {
          some = omega (arith, length_more n b t);
          digit = omega (arith, same, r.digit);
          led = λ p. omega (arith, same, r.led (omega arith));
        }

led_is : (n : ℕ) → n < 2 ^ 64 → is_led (decimal n) ≡ true
led_is zero b = rw (length_one 0 (omega arith))
led_is (suc n) b =
    let r = first_within (suc n) (suc n) (le_refl (suc n)) b in
    rw (ne_eqb (length (decimal (suc n))) 0 (above _ r.some), ne_eqb (get_or (decimal (suc n)) 0 0) 48 (over _ (r.led (omega arith))))
    (by_test (eqb (length (decimal (suc n))) 1) (λ t. rw t) (λ t. rw t))
  where
    above : (k : ℕ) → 0 < k → k ≡ 0 → ⊥
    above k h e = omega arith

    over : (k : ℕ) → 48 < k → k ≡ 48 → ⊥
    over k h e = omega arith

magnitude_is : (n : ℕ) → n < 2 ^ 64 → magnitude_of (decimal n) ≡ Some n
unfolding magnitude_of
magnitude_is n b = rw (led_is n b) (digits_within n n (le_refl n) b)

no_minus : (n : ℕ) → n < 2 ^ 64 → get_or (decimal n) 0 0 ≡ 45 → ⊥
no_minus n b e = omega (arith, (first_within n n (le_refl n) b).digit)

not_zero : (n : ℕ) → 0 < n → n ≡ 0 → ⊥
not_zero n h e = omega arith

pub claims : RoundTripClaims
unfolding number_of
claims = record {
  read_back = λ n b. rw (ne_eqb (get_or (decimal n) 0 0) 45 (no_minus n b), magnitude_is n b);
  read_back_negative = λ n p b. rw (magnitude_is n b, ne_eqb n 0 (not_zero n p));
}
