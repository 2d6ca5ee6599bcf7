-- A test of the first n entries of an array is the same test of the indices below n, and so is a count: by induction on n.
use Prim.Native.Nat.{ℕ, zero, suc, ◌≤◌}
use mathlib.Core.Path.{◌≡◌, refl}
use mathlib.Core.Bool.{Bool}
use mathlib.Core.List.{List}
use native.Mathlib.Numerals.{add-one}
use native.Mathlib.Omega.{arith}
use lib.ListN.{length, take, get_or, length-append}
use Rattle.lists.specs.Lists.{keep, all}
use Rattle.lists.specs.Below.{all_below, count_below}
use Rattle.lists.proofs.ListLaws.{by_test, all_take, keep_yes, keep_no}

module _ {E : Type 0} (p : E → Bool) (l : List E) (d : E) where
  pub all_places : (n : ℕ) → n ≤ length l → all p (take n l) ≡ all_below (λ i. p (get_or l i d)) n
  unfolding all_below
  all_places zero h = refl
  all_places (suc n) h = rw (← add-one n, all_take p l n d (omega arith), all_places n (omega arith))

  pub count_places : (n : ℕ) → n ≤ length l → length (keep p (take n l)) ≡ count_below (λ i. p (get_or l i d)) n
  unfolding count_below
  count_places zero h = refl
  count_places (suc n) h = by_test (p (get_or l n d))
      (λ t. simp (t, ← add-one n, keep_yes p l n d (omega arith) t, length-append, count_places n (omega arith)))
      (λ t. simp (t, ← add-one n, keep_no p l n d (omega arith) t, count_places n (omega arith)))
