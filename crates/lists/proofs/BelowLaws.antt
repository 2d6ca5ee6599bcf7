-- Laws of the tests, counts and iterations over the indices below a bound, by induction on the bound.
use Prim.Native.Nat.{ℕ, zero, suc, ◌+◌, ◌≤◌, ◌<◌}
use mathlib.Core.Path.{◌≡◌, refl, sym, ap, ◌∙◌}
use mathlib.Core.Logic.{⊎_elim}
use mathlib.Core.Bool.{Bool, true, false, cond, not, ◌&&◌}
use native.Mathlib.Nat.{eq-or-lt_of_le}
use native.Mathlib.Numerals.{add-one}
use native.Mathlib.Omega.{arith}
use Rattle.lists.specs.Below.{all_below, count_below, iter_below}
use Rattle.lists.proofs.ListLaws.{by_test, clash, and_left, and_right, and_both}

-- ---- a test
pub all_none : (p : ℕ → Bool) → all_below p 0 ≡ true
unfolding all_below
all_none p = refl

pub all_more : (p : ℕ → Bool) (n : ℕ) → all_below p (n + 1) ≡ (all_below p n && p n)
unfolding all_below
all_more p n = ap (all_below p) (add-one n)

-- what holds of all indices below n holds of each
pub all_at : (p : ℕ → Bool) (n i : ℕ) → all_below p n ≡ true → i < n → p i ≡ true
unfolding all_below
all_at p zero i h l = absurd (none i l)
  where
    none : (i : ℕ) → i < 0 → ⊥
    none i l = omega arith
all_at p (suc n) i h l = ⊎_elim
    (λ (e : i ≡ n). rw e (and_right (all_below p n) (p n) h))
    (λ (g : i < n). all_at p n i (and_left (all_below p n) (p n) h) g)
    (eq-or-lt_of_le (below i n l))
  where
    below : (i n : ℕ) → i < suc n → i ≤ n
    below i n l = omega arith

-- what holds of each index below n holds of all
pub all_of : (p : ℕ → Bool) (n : ℕ) → ((i : ℕ) → i < n → p i ≡ true) → all_below p n ≡ true
unfolding all_below
all_of p zero f = refl
all_of p (suc n) f = and_both (all_of p n (λ i l. f i (up i n l))) (f n (top n))
  where
    up : (i n : ℕ) → i < n → i < suc n
    up i n l = omega arith

    top : (n : ℕ) → n < suc n
    top n = omega arith

-- ---- a count
pub count_none : (p : ℕ → Bool) → count_below p 0 ≡ 0
unfolding count_below
count_none p = refl

pub count_more : (p : ℕ → Bool) (n : ℕ) → count_below p (n + 1) ≡ cond (p n) (count_below p n + 1) (count_below p n)
unfolding count_below
count_more p n = ap (count_below p) (add-one n)

pub count_le : (p : ℕ → Bool) (n : ℕ) → count_below p n ≤ n
unfolding count_below
count_le p zero = omega arith
count_le p (suc n) = let h = count_le p n in by_test (p n) (λ t. simp t (omega arith)) (λ t. simp t (omega arith))

-- tests that agree below n count the same
pub count_same : (p q : ℕ → Bool) (n : ℕ) → ((i : ℕ) → i < n → p i ≡ q i) → count_below p n ≡ count_below q n
unfolding count_below
count_same p q zero f = refl
count_same p q (suc n) f = rw (f n (top n), count_same p q n (λ i l. f i (up i n l)))
  where
    up : (i n : ℕ) → i < n → i < suc n
    up i n l = omega arith

    top : (n : ℕ) → n < suc n
    top n = omega arith

-- what is counted and what is not
pub count_split : (p : ℕ → Bool) (n : ℕ) → count_below p n + count_below (λ i. not (p i)) n ≡ n
unfolding count_below
count_split p zero = refl
count_split p (suc n) = let h = count_split p n in by_test (p n) (λ t. simp t (omega arith)) (λ t. simp t (omega arith))

-- a test that changes from false to true at one index below n counts one more
pub count_flip : (p q : ℕ → Bool) (n k : ℕ) → k < n → p k ≡ false → q k ≡ true → ((i : ℕ) → (i ≡ k → ⊥) → p i ≡ q i) → count_below q n ≡ count_below p n + 1
unfolding count_below
count_flip p q zero k l f t o = absurd (none k l)
  where
    none : (k : ℕ) → k < 0 → ⊥
    none k l = omega arith
count_flip p q (suc n) k l f t o = ⊎_elim
    (λ (e : k ≡ n).
    let same : count_below p n ≡ count_below q n = count_same p q n (λ i g. o i (apart i n k g e)) in
    rw (sym e, f, t) (omega (arith, rw (sym e) at same)))
    (λ (g : k < n).
    let ih = count_flip p q n k g f t o in
    let at : p n ≡ q n = o n (over k n g) in
    by_test (q n) (λ u. let v : p n ≡ true = at ∙ u in simp (u, v) (omega arith)) (λ u. let v : p n ≡ false = at ∙ u in simp (u, v) (omega arith)))
    (eq-or-lt_of_le (below k n l))
  where
    below : (i n : ℕ) → i < suc n → i ≤ n
    below i n l = omega arith

    apart : (i n k : ℕ) → i < n → k ≡ n → i ≡ k → ⊥
    apart i n k g e h = omega arith

    over : (k n : ℕ) → k < n → n ≡ k → ⊥
    over k n g e = omega arith

-- an index that passes is counted
pub count_some : (p : ℕ → Bool) (n k : ℕ) → k < n → p k ≡ true → 0 < count_below p n
unfolding count_below
count_some p zero k l t = absurd (none k l)
  where
    none : (k : ℕ) → k < 0 → ⊥
    none k l = omega arith
count_some p (suc n) k l t = by_test (p n)
    (λ u. simp u (omega arith))
    (λ u. simp u (⊎_elim
    (λ (e : k ≡ n). clash t (rw e u))
    (λ (g : k < n). count_some p n k g t)
    (eq-or-lt_of_le (below k n l))))
  where
    below : (i n : ℕ) → i < suc n → i ≤ n
    below i n l = omega arith

-- ---- an iteration
pub iter_none : {S : Type 0} (f : ℕ → S → S) (s : S) → iter_below f 0 s ≡ s
unfolding iter_below
iter_none f s = refl

pub iter_more : {S : Type 0} (f : ℕ → S → S) (n : ℕ) (s : S) → iter_below f (n + 1) s ≡ f n (iter_below f n s)
unfolding iter_below
iter_more f n s = ap (λ (m : ℕ). iter_below f m s) (add-one n)

-- ---- a loop that stops at the first index that fails
pub all_next : (p : ℕ → Bool) (i : ℕ) → all_below p i ≡ true → p i ≡ true → all_below p (i + 1) ≡ true
all_next p i h t = rw (all_more p i) (and_both h t)

pub all_fails : (p : ℕ → Bool) (n i : ℕ) → i < n → p i ≡ false → all_below p n ≡ false
all_fails p n i l f = by_test (all_below p n) (λ t. clash (all_at p n i t l) f) (λ g. g)
