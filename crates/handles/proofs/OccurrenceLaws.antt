-- How often an index stands in a free list: in one more entry, in a list that is put together, and in all of it.
use Prim.Native.Nat.{ℕ, zero, suc, ◌+◌, ◌≤◌, ◌<◌}
use mathlib.Core.Path.{◌≡◌, refl, ap, ◌∙◌}
use mathlib.Core.Bool.{Bool, true, false, cond, not}
use mathlib.Core.List.{List, [], ◌∷◌, ◌++◌}
use native.Mathlib.Omega.{arith}
use lib.ListN.{length, take, get_or, length-append, length-take}
use lib.Dec.{eqb}
use borrow.Author.Tests.{ltb-true, lt-ltb, eqb-true, eqb-false, eq-eqb, ne_eqb, not-true}
use Rattle.lists.specs.Lists.{keep, all}
use Rattle.lists.specs.Below.{count_below}
use Rattle.lists.proofs.ListLaws.{by_test, clash, and_left, and_right, and_both, keep_append, length_keep, keep_split, keep_yes, keep_no}
use Rattle.handles.specs.WellFormed.{is_below, occurrences_of}

-- ---- what two tests keep
module _ (p q : ℕ → Bool) where
  keep_in : ((x : ℕ) → p x ≡ true → q x ≡ true) → (l : List ℕ) → keep p (keep q l) ≡ keep p l
  keep_in i [] = refl
  keep_in i (x ∷ l) = by_test (q x)
      (λ t. by_test (p x) (λ u. simp (t, u, keep_in i l)) (λ u. simp (t, u, keep_in i l)))
      (λ t. by_test (p x) (λ u. clash (i x u) t) (λ u. simp (t, u, keep_in i l)))

  keep_all : (r : ℕ → Bool) → ((x : ℕ) → p x ≡ true → q x ≡ true → r x ≡ true) → (l : List ℕ) → all p l ≡ true → all r (keep q l) ≡ true
  keep_all r i [] h = refl
  keep_all r i (x ∷ l) h =
      let rest = keep_all r i l (and_right (p x) (all p l) h) in
      by_test (q x) (λ t. simp t (and_both (i x (and_left (p x) (all p l) h) t) rest)) (λ t. simp t rest)

pub occurs_none : (i : ℕ) → occurrences_of i [] ≡ 0
unfolding occurrences_of
occurs_none i = refl

pub occurs_append : (i : ℕ) (l m : List ℕ) → occurrences_of i (l ++ m) ≡ occurrences_of i l + occurrences_of i m
unfolding occurrences_of
occurs_append i l m = rw (keep_append, length-append)

-- an entry of its own
pub occurs_here : (i : ℕ) → occurrences_of i (i ∷ []) ≡ 1
unfolding occurrences_of
occurs_here i = rw (eq-eqb i i refl)

pub occurs_apart : (i j : ℕ) → (i ≡ j → ⊥) → occurrences_of i (j ∷ []) ≡ 0
unfolding occurrences_of
occurs_apart i j n = rw (ne_eqb i j n)

pub occurs_few : (i : ℕ) (l : List ℕ) (k : ℕ) → occurrences_of i (take k l) ≤ k
unfolding occurrences_of
occurs_few i l k = omega (arith, length_keep (eqb i) (take k l), length-take k l)

-- ---- one entry more
module _ (i : ℕ) (l : List ℕ) (k : ℕ) (within : k < length l) where
  pub occurs_yes : eqb i (get_or l k 0) ≡ true → occurrences_of i (take (k + 1) l) ≡ occurrences_of i (take k l) + 1
  unfolding occurrences_of
  occurs_yes t = ap length (keep_yes (eqb i) l k 0 within t) ∙ length-append (keep (eqb i) (take k l)) (get_or l k 0 ∷ [])

  pub occurs_no : eqb i (get_or l k 0) ≡ false → occurrences_of i (take (k + 1) l) ≡ occurrences_of i (take k l)
  unfolding occurrences_of
  occurs_no t = ap length (keep_no (eqb i) l k 0 within t)

-- ---- the whole list: indices below n, each never or once by a test, are as many as fail the test
others_once : (n : ℕ) (l : List ℕ) (i : ℕ) → i < n → occurrences_of i (keep (λ x. not (eqb n x)) l) ≡ occurrences_of i l
unfolding occurrences_of
others_once n l i h = ap length (keep_in (eqb i) (λ x. not (eqb n x)) apart l)
  where
    differ : (x : ℕ) → i ≡ x → n ≡ x → ⊥
    differ x e f = omega arith

    apart : (x : ℕ) → eqb i x ≡ true → not (eqb n x) ≡ true
    apart x t = by_test (eqb n x) (λ u. absurd (differ x (eqb-true i x t) (eqb-true n x u))) (λ u. simp u)

others_below : (n : ℕ) (l : List ℕ) → all (is_below (suc n)) l ≡ true → all (is_below n) (keep (λ x. not (eqb n x)) l) ≡ true
others_below n l h = keep_all (is_below (suc n)) (λ x. not (eqb n x)) (is_below n) lower l h
  where
    less : (x : ℕ) → x < suc n → (n ≡ x → ⊥) → x < n
    less x l d = omega arith

    lower : (x : ℕ) → is_below (suc n) x ≡ true → not (eqb n x) ≡ true → is_below n x ≡ true
    lower x t u = lt-ltb x n (less x (ltb-true x (suc n) t) (eqb-false n x (not-true (eqb n x) u)))

pub each_once : (p : ℕ → Bool) (n : ℕ) (l : List ℕ) → all (is_below n) l ≡ true → ((i : ℕ) → i < n → occurrences_of i l ≡ cond (p i) 0 1) → length l + count_below p n ≡ n
unfolding count_below occurrences_of
each_once p zero [] b o = refl
each_once p zero (x ∷ l) b o = absurd (none x (ltb-true x 0 (and_left (is_below 0 x) (all (is_below 0) l) b)))
  where
    none : (x : ℕ) → x < 0 → ⊥
    none x h = omega arith
each_once p (suc n) l b o =
    let ih = each_once p n (keep (λ x. not (eqb n x)) l) (others_below n l b) (λ i h. others_once n l i h ∙ o i (up i n h)) in
    let parts = keep_split (eqb n) l in
    let here = o n (top n) in
    by_test (p n) (λ t. let here₀ = simp t at here in simp t (omega arith)) (λ t. let here₁ = simp t at here in simp t (omega arith))
  where
    up : (i n : ℕ) → i < n → i < suc n
    up i n l = omega arith

    top : (n : ℕ) → n < suc n
    top n = omega arith
