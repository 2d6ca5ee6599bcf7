-- Laws of decimal text: any number of steps that is enough gives the same digits.
use Prim.Native.Nat.{ℕ, zero, suc, ◌+◌, ◌/◌, ◌%◌, ◌^◌, ◌≤◌, ◌<◌}
use mathlib.Core.List.{[], ◌∷◌, ◌++◌}
use mathlib.Core.Path.{◌≡◌, refl, ap, ◌∙◌}
use native.Mathlib.Nat.{mod-eq_of_lt, pow-suc}
use native.Mathlib.Numerals.{add-one}
use native.Mathlib.Omega.{arith}
use lib.Dec.{ltb}
use lib.ListN.{length, length-append}
use borrow.Author.Tests.{ltb-true, ltb-false, lt-ltb, le-ltb}
use Rattle.lists.proofs.ListLaws.{by_test}
use Rattle.answer_text.specs.Decimal.{decimal_in, decimal, last_digits}

pub shorter : (n f : ℕ) → n ≤ suc f → 10 ≤ n → n / 10 ≤ f
shorter n f h t = omega arith

-- a digit less
below : (n f : ℕ) → n < 10 ^ suc (suc f) → n / 10 < 10 ^ suc f
below n f h = omega (arith, pow-suc 10 (suc f))

single : (n : ℕ) → n < 10 ^ 1 → n < 10
single n h = h

-- enough steps are as good as more
enough : (f g n : ℕ) → n < 10 ^ suc f → n < 10 ^ suc g → decimal_in f n ≡ decimal_in g n
unfolding decimal_in
enough zero zero n h k = refl
enough zero (suc g) n h k = rw (lt-ltb n 10 (single n h))
enough (suc f) zero n h k = rw (lt-ltb n 10 (single n k))
enough (suc f) (suc g) n h k =
    by_test (ltb n 10)
    (λ t. rw t)
    (λ t. rw (t, enough f g (n / 10) (below n f h) (below n g k)))

-- n steps are always enough
all_enough : (n : ℕ) → n < 10 ^ suc n
all_enough zero = omega arith
all_enough (suc n) = omega (arith, pow-suc 10 (suc n), all_enough n)

pub decimal_all : (n : ℕ) → n < 10 ^ 20 → decimal n ≡ decimal_in n n
unfolding decimal
decimal_all n h = enough 19 n n h (all_enough n)

pub decimal_one : (n : ℕ) → n < 10 → decimal n ≡ (48 + n) ∷ []
unfolding decimal decimal_in
decimal_one n h = rw (lt-ltb n 10 h)

pub decimal_more : (n : ℕ) → n < 10 ^ 20 → 10 ≤ n → decimal n ≡ decimal (n / 10) ++ ((48 + n % 10) ∷ [])
unfolding decimal decimal_in
decimal_more n b h = rw (le-ltb n 10 h) (ap (λ l. l ++ ((48 + n % 10) ∷ [])) (enough 18 19 (n / 10) (below n 18 b) (omega arith)))

-- ---- how many digits
pub length_one : (n : ℕ) → n < 10 → length (decimal n) ≡ 1
length_one n h = ap length (decimal_one n h)

pub length_more : (n : ℕ) → n < 10 ^ 20 → 10 ≤ n → length (decimal n) ≡ length (decimal (n / 10)) + 1
length_more n b h = ap length (decimal_more n b h) ∙ length-append (decimal (n / 10)) ((48 + n % 10) ∷ [])

-- a digit a step, and one at the end
steps_long : (f n : ℕ) → length (decimal_in f n) ≤ suc f
unfolding decimal_in
steps_long zero n = omega arith
steps_long (suc f) n = by_test (ltb n 10) (λ t. rw t (omega arith)) (λ t. rw t (simp length-append (omega (arith, steps_long f (n / 10)))))

pub decimal_short : (n : ℕ) → length (decimal n) ≤ 20
unfolding decimal
decimal_short n = steps_long 19 n

-- the last digits, as many as there are, are all
one_digit : (n : ℕ) → n < 10 → last_digits (length (decimal n)) n ≡ decimal n
unfolding last_digits
one_digit n h = rw (decimal_one n h, mod-eq_of_lt h)

digits_within : (f n : ℕ) → n ≤ f → n < 10 ^ 20 → last_digits (length (decimal n)) n ≡ decimal n
unfolding last_digits
digits_within zero n h b = one_digit n (small n h)
  where
    small : (n : ℕ) → n ≤ 0 → n < 10
    small n h = omega arith
digits_within (suc f) n h b =
    by_test (ltb n 10)
    (λ t. one_digit n (ltb-true n 10 t))
    (λ t. rw (decimal_more n b (ltb-false n 10 t), length-append, add-one, digits_within f (n / 10) (shorter n f h (ltb-false n 10 t)) (omega arith)))

pub all_digits : (n : ℕ) → n < 10 ^ 20 → last_digits (length (decimal n)) n ≡ decimal n
all_digits n b = digits_within n n (omega arith) b
