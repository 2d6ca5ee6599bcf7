-- A 64-bit and is not 0 exactly if some bit stands in both numbers, by induction on the number of bits.
use mathlib.Core.Path.{◌≡◌, sym, ap, ◌∙◌}
use mathlib.Core.Bool.{true, not}
use Prim.Native.Nat.{ℕ, zero, suc, ◌<◌, ◌/◌, ◌%◌, ◌^◌}
use native.Mathlib.Nat.{div-one, zero-div, mod-lt, div-lt_iff_lt-mul, div-div-eq-div-mul, pow-suc, pow-succ', min_comm, min-zero, zero-add}
use native.Mathlib.Omega.{arith}
use lib.Dec.{eqb}
use lib.Bits.{bit_and, and_step, and_zero_l, and_shr, and_mod}
use borrow.Author.Tests.{eqb-true, eqb-false, eq-eqb}
use Rattle.lists.proofs.ListLaws.{by_test, clash}
use Rattle.composition_shortcuts.specs.Scope.{shares_bit}
use Rattle.composition_shortcuts.specs.Claims.{Shared}

-- one of the first n bits stands in both
abbrev Both : ℕ → ℕ → ℕ → Type 0
Both n a b = (k : ℕ) × (k < n) × (a / 2 ^ k % 2 ≡ 1) × (b / 2 ^ k % 2 ≡ 1)

half_of : (a k : ℕ) → a / 2 / 2 ^ k ≡ a / 2 ^ suc k
half_of a k = div-div-eq-div-mul a 2 (2 ^ k) ∙ ap (λ (x : ℕ). a / x) (sym (pow-succ' 2 k))

even : (a : ℕ) → (a % 2 ≡ 1 → ⊥) → a % 2 ≡ 0
even a h = let l : a % 2 < 2 = mod-lt a (omega arith) in pick (a % 2) l h
  where
    pick : (x : ℕ) → x < 2 → (x ≡ 1 → ⊥) → x ≡ 0
    pick x l h = omega arith

in_both : (n a b : ℕ) → a < 2 ^ n → (bit_and a b ≡ 0 → ⊥) → Both n a b
in_both zero a b l h = let z : a ≡ 0 = omega arith in absurd (h (rw z (and_zero_l b)))
in_both (suc n) a b l h =
    let half : a / 2 < 2 ^ n = (div-lt_iff_lt-mul {k = 2} {x = a} {y = 2 ^ n} (omega arith)).1 (rw (sym (pow-suc 2 n)) l) in
    let below : (bit_and (a / 2) (b / 2) ≡ 0 → bit_and a b ≡ 0) → Both (suc n) a b = λ f.
    let r = in_both n (a / 2) (b / 2) half (λ z. h (f z)) in
    (suc r.0, omega arith, rw (sym (half_of a r.0)) r.2, rw (sym (half_of b r.0)) r.3) in
    by_test (eqb (a % 2) 1)
    (λ t. by_test (eqb (b % 2) 1)
    (λ u. (0, omega arith, rw div-one (eqb-true (a % 2) 1 t), rw div-one (eqb-true (b % 2) 1 u)))
    (λ u. below (λ z. and_step a b ∙ rw (z, even b (eqb-false (b % 2) 1 u), eqb-true (a % 2) 1 t))))
    (λ t. below (λ z. and_step a b ∙ rw (z, even a (eqb-false (a % 2) 1 t)) (zero-add _ ∙ min_comm 0 (b % 2) ∙ min-zero (b % 2))))

pub bit_shared : (a b : ℕ) → a < 2 ^ 64 → shares_bit a b ≡ true → (k : ℕ) × Shared a b k
unfolding shares_bit
bit_shared a b l t =
    let r = in_both 64 a b l (λ z. clash t (ap not (eq-eqb (bit_and a b) 0 z))) in
    (r.0, record { below = r.1; left = r.2; right = r.3 })

pub shared_bit : (a b k : ℕ) → Shared a b k → shares_bit a b ≡ true
unfolding shares_bit
shared_bit a b k s = by_test (eqb (bit_and a b) 0)
    (λ t.
    let z : bit_and a b / 2 ^ k % 2 ≡ 0 = rw (eqb-true (bit_and a b) 0 t, zero-div) in
    let o : bit_and a b / 2 ^ k % 2 ≡ 1 = ap (λ (x : ℕ). x % 2) (and_shr a b k) ∙ and_mod (a / 2 ^ k) (b / 2 ^ k) 1 ∙ rw (s.left, s.right) in
    absurd (omega arith))
    (λ t. rw t)
