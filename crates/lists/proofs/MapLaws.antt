-- The claims of `specs/MapClaims.antt`, over any strict order: searches in the two parts of an insertion, and sorted lists told by their lookups.
use mathlib.Core.Path.{◌≡◌, refl, sym, ap, ◌∙◌}
use mathlib.Core.Bool.{Bool, true, false, not}
use mathlib.Core.List.{List, [], ◌∷◌}
use Rattle.std.specs.Prelude.{None, Some}
use Prim.Native.Nat.{ℕ, ◌+◌, ◌≤◌, ◌<◌}
use native.Mathlib.Omega.{arith}
use lib.ListN.{length, length-append}
use Rattle.lists.specs.Lists.{keep, first, passed}
use Rattle.lists.specs.Orders.{Ordered}
use Rattle.lists.specs.Maps.{insert, rising, lookup, remove}
use Rattle.lists.specs.MapClaims.{MapClaims}
use Rattle.lists.proofs.ListLaws.{by_test, clash, some≢none, keep_passes, keep_split, keep_swap, first_append, first_stop, first_keep_in, first_keep_out}
use Rattle.lists.proofs.RisingLaws.{Over, Sorted, over_keep, over_less, sorted_at, rising_sorted, rising_keep, rising_insert}

module _ {E K : Type 0} (key : E → K) {lt same : K → K → Bool} (o : Ordered lt same) where
  asym : {a b : K} → lt a b ≡ true → lt b a ≡ false
  asym {a} {b} t = by_test (lt b a) (λ u. clash (o.trans a b a t u) (o.irrefl a)) (λ u. u)

  apart : {a b : K} → same a b ≡ false → same b a ≡ false
  apart {a} {b} f = by_test (same b a) (λ u. clash (rw (o.same_eq b a u) (o.same_refl a)) f) (λ u. u)

  -- ---- find after insert and after remove
  lookup_insert_same : (e : E) (l : List E) → lookup key same (key e) (insert key lt e l) ≡ Some e
  lookup_insert_same e l =
      first_append (λ f. same (key e) (key f)) (keep (λ f. lt (key f) (key e)) l) (e ∷ keep (λ f. lt (key e) (key f)) l)
      (first_keep_out (λ f. same (key e) (key f)) (λ f. lt (key f) (key e)) (λ f t. rw (o.same_eq (key e) (key f) t) (o.irrefl (key f))) l)
      ∙ simp (o.same_refl (key e))

  lookup_insert_other : (k : K) (e : E) (l : List E) → same k (key e) ≡ false → lookup key same k (insert key lt e l) ≡ lookup key same k l
  lookup_insert_other k e l h =
      let is : E → Bool = λ f. same k (key f) in
      let low : E → Bool = λ f. lt (key f) (key e) in
      let high : E → Bool = λ f. lt (key e) (key f) in
      by_test (lt k (key e))
      (λ t.
      let none_above : first is (e ∷ keep high l) ≡ None = simp h (first_keep_out is high (λ f u. rw (sym (o.same_eq k (key f) u)) (asym t)) l) in
      first_stop is (keep low l) (e ∷ keep high l) none_above ∙ first_keep_in is low (λ f u. rw (sym (o.same_eq k (key f) u)) t) l)
      (λ t.
      let all_above : first is (e ∷ keep high l) ≡ first is l = simp h (first_keep_in is high (λ f u. rw (sym (o.same_eq k (key f) u)) (o.connex k (key e) h t)) l) in
      first_append is (keep low l) (e ∷ keep high l) (first_keep_out is low (λ f u. rw (sym (o.same_eq k (key f) u)) t) l) ∙ all_above)

  lookup_remove_same : (k : K) (l : List E) → lookup key same k (remove key same k l) ≡ None
  lookup_remove_same k l = first_keep_out (λ f. same k (key f)) (λ f. not (same k (key f))) (λ f t. ap not t) l

  lookup_remove_other : (j k : K) (l : List E) → same j k ≡ false → lookup key same j (remove key same k l) ≡ lookup key same j l
  lookup_remove_other j k l h = first_keep_in (λ f. same j (key f)) (λ f. not (same k (key f))) (λ f t. rw (sym (o.same_eq j (key f) t)) (ap not (apart h))) l

  -- ---- a sorted list is told by its lookups
  over_none : (k : K) (l : List E) → Over key lt k l → lookup key same k l ≡ None
  over_none k [] h = refl
  over_none k (f ∷ l) h = by_test (same k (key f))
      (λ t. clash h.0 (rw (o.same_eq k (key f) t) (o.irrefl (key f))))
      (λ t. simp t (over_none k l h.1))

  here : (e : E) (l : List E) → lookup key same (key e) (e ∷ l) ≡ Some e
  here e l = simp (o.same_refl (key e))

  less_none : (e f : E) (m : List E) → lt (key e) (key f) ≡ true → Over key lt (key f) m → lookup key same (key e) (f ∷ m) ≡ None
  less_none e f m t h = over_none (key e) (f ∷ m) (t, over_less key o t m h)

  sorted_ext : (l m : List E) → Sorted key lt l → Sorted key lt m → ((k : K) → lookup key same k l ≡ lookup key same k m) → l ≡ m
  sorted_ext [] [] sl sm h = refl
  sorted_ext [] (f ∷ m) sl sm h = some≢none (here f m) (sym (h (key f)))
  sorted_ext (e ∷ l) [] sl sm h = some≢none (here e l) (h (key e))
  sorted_ext (e ∷ l) (f ∷ m) sl sm h = by_test (same (key e) (key f))
      (λ t.
      let k-is = o.same_eq (key e) (key f) t in
      let at : Some e ≡ Some f = sym (here e l) ∙ h (key e) ∙ simp t in
      let e-is : e ≡ f = cc in
      let rest : (k : K) → lookup key same k l ≡ lookup key same k m = λ k. by_test (same k (key e))
      (λ u. let k-e = o.same_eq k (key e) u in rw (k-e, over_none (key e) l sl.0, k-is, over_none (key f) m sm.0))
      (λ u. let v : same k (key f) ≡ false = rw (sym k-is) u in simp (u, v) at (h k)) in
      λ i. e-is i ∷ sorted_ext l m sl.1 sm.1 rest i)
      (λ t. by_test (lt (key e) (key f))
      (λ u. some≢none (here e l) (h (key e) ∙ less_none e f m u sm.0))
      (λ u. some≢none (here f m) (sym (h (key f)) ∙ less_none f e l (o.connex (key e) (key f) t u) sl.0)))

  rising_ext : (l m : List E) → rising key lt l ≡ true → rising key lt m ≡ true → ((k : K) → lookup key same k l ≡ lookup key same k m) → l ≡ m
  rising_ext l m hl hm h = sorted_ext l m (rising_sorted key o l hl) (rising_sorted key o m hm) h

  -- ---- what commutes
  insert_insert : (e f : E) (l : List E) → same (key e) (key f) ≡ false → rising key lt l ≡ true → insert key lt e (insert key lt f l) ≡ insert key lt f (insert key lt e l)
  insert_insert e f l h r =
      rising_ext _ _ (rising_insert key o e (insert key lt f l) (rising_insert key o f l r)) (rising_insert key o f (insert key lt e l) (rising_insert key o e l r)) (λ k.
      by_test (same k (key e))
      (λ t. let k-e = o.same_eq k (key e) t in
      rw (k-e, lookup_insert_same e (insert key lt f l), lookup_insert_other (key e) f (insert key lt e l) h, lookup_insert_same e l))
      (λ t. lookup_insert_other k e (insert key lt f l) t ∙ by_test (same k (key f))
      (λ u. let k-f = o.same_eq k (key f) u in rw (k-f, lookup_insert_same f l, lookup_insert_same f (insert key lt e l)))
      (λ u. rw (lookup_insert_other k f l u, lookup_insert_other k f (insert key lt e l) u, lookup_insert_other k e l t))))

  remove_insert : (k : K) (e : E) (l : List E) → same k (key e) ≡ false → rising key lt l ≡ true → remove key same k (insert key lt e l) ≡ insert key lt e (remove key same k l)
  remove_insert k e l h r =
      rising_ext _ _ (rising_keep key o (λ f. not (same k (key f))) (insert key lt e l) (rising_insert key o e l r)) (rising_insert key o e (remove key same k l) (rising_keep key o (λ f. not (same k (key f))) l r)) (λ j.
      by_test (same j k)
      (λ t. let j-k = o.same_eq j k t in
      rw (j-k, lookup_remove_same k (insert key lt e l), lookup_insert_other k e (remove key same k l) h, lookup_remove_same k l))
      (λ t. lookup_remove_other j k (insert key lt e l) t ∙ by_test (same j (key e))
      (λ u. let j-e = o.same_eq j (key e) u in rw (j-e, lookup_insert_same e l, lookup_insert_same e (remove key same k l)))
      (λ u. rw (lookup_insert_other j e l u, lookup_insert_other j e (remove key same k l) u, lookup_remove_other j k l t))))

  -- ---- what a test of the whole entry keeps, by its lookups
  lookup_keep : (p : E → Bool) (k : K) (l : List E) → Sorted key lt l → lookup key same k (keep p l) ≡ passed p (lookup key same k l)
  lookup_keep p k [] s = refl
  lookup_keep p k (e ∷ l) s = by_test (same k (key e))
      (λ t. let k-e = o.same_eq k (key e) t in by_test (p e)
      (λ u. simp (t, u))
      (λ u. simp (t, u) (rw k-e (over_none (key e) (keep p l) (over_keep key lt p (key e) l s.0)))))
      (λ t. by_test (p e) (λ u. simp (t, u) (lookup_keep p k l s.1)) (λ u. simp (t, u) (lookup_keep p k l s.1)))

  -- ---- how long a list is after an insertion: each entry is below the key, above it, or has it
  abbrev parts : K → List E → ℕ
  parts k l = length (keep (λ f. lt (key f) k) l) + length (keep (λ f. lt k (key f)) l)

  parts_le : (k : K) (l : List E) → parts k l ≤ length l
  parts_le k [] = omega arith
  parts_le k (f ∷ l) = by_test (lt (key f) k)
      (λ t. simp (t, asym t) (omega (arith, parts_le k l)))
      (λ t. by_test (lt k (key f)) (λ u. simp (t, u) (omega (arith, parts_le k l))) (λ u. simp (t, u) (omega (arith, parts_le k l))))

  parts_found : (k : K) (l : List E) (e : E) → lookup key same k l ≡ Some e → parts k l < length l
  parts_found k [] e h = some≢none {x = lookup key same k []} h refl
  parts_found k (f ∷ l) e h = by_test (same k (key f))
      (λ s. let k-f = o.same_eq k (key f) s in
      let t : lt (key f) k ≡ false = rw k-f (o.irrefl (key f)) in
      let u : lt k (key f) ≡ false = rw k-f (o.irrefl (key f)) in
      simp (t, u) (omega (arith, parts_le k l)))
      (λ s. let ih = parts_found k l e (simp s at h) in by_test (lt (key f) k)
      (λ t. simp (t, asym t) (omega arith))
      (λ t. by_test (lt k (key f)) (λ u. simp (t, u) (omega arith)) (λ u. simp (t, u) (omega arith))))

  parts_new : (k : K) (l : List E) → lookup key same k l ≡ None → parts k l ≡ length l
  parts_new k [] h = refl
  parts_new k (f ∷ l) h = by_test (same k (key f))
      (λ s. some≢none {e = f} refl (simp s at h))
      (λ s. let ih = parts_new k l (simp s at h) in by_test (lt k (key f))
      (λ t. simp (t, asym t) (omega arith))
      (λ t. simp (t, o.connex k (key f) s t) (omega arith)))

  parts_over : (k : K) (l : List E) → Over key lt k l → parts k l ≡ length l
  parts_over k l h = parts_new k l (over_none k l h)

  parts_sorted : (k : K) (l : List E) (e : E) → Sorted key lt l → lookup key same k l ≡ Some e → parts k l + 1 ≡ length l
  parts_sorted k [] e s h = some≢none {x = lookup key same k []} h refl
  parts_sorted k (f ∷ l) e s h = by_test (same k (key f))
      (λ c. let k-f = o.same_eq k (key f) c in
      let t : lt (key f) k ≡ false = rw k-f (o.irrefl (key f)) in
      let u : lt k (key f) ≡ false = rw k-f (o.irrefl (key f)) in
      let rest : parts k l ≡ length l = parts_over k l (rw k-f s.0) in
      simp (t, u) (omega arith))
      (λ c. let ih = parts_sorted k l e s.1 (simp c at h) in by_test (lt k (key f))
      (λ t. simp (t, asym t) (omega arith))
      (λ t. simp (t, o.connex k (key f) c t) (omega arith)))

  -- an insertion fits where the key is found, or where there is a place more
  pub insert_fits_found : (e f : E) (l : List E) → lookup key same (key e) l ≡ Some f → length (insert key lt e l) ≤ length l
  insert_fits_found e f l h = simp length-append (omega (arith, parts_found (key e) l f h))

  pub insert_fits : (e : E) (l : List E) → length (insert key lt e l) ≤ length l + 1
  insert_fits e l = simp length-append (omega (arith, parts_le (key e) l))

  pub claims : MapClaims key lt same
  claims = record {
    find_inserted = lookup_insert_same;
    find_insert_other = lookup_insert_other;
    find_removed = lookup_remove_same;
    find_remove_other = lookup_remove_other;
    insert_rises = rising_insert key o;
    keep_rises = rising_keep key o;
    inserts_commute = insert_insert;
    removals_commute = λ j k l. keep_swap (λ f. not (same j (key f))) (λ f. not (same k (key f))) l;
    remove_insert = remove_insert;
    equal_finds = rising_ext;
    in_order = λ l d i j r g h. sorted_at key lt l d i j (rising_sorted key o l r) g h;
    find_kept = λ p k l r. lookup_keep p k l (rising_sorted key o l r);
    kept_pass = keep_passes;
    left_or_taken = keep_split;
    insert_new = λ e l h. simp length-append (omega (arith, parts_new (key e) l h));
    insert_replaces = λ e f l r h. simp length-append (omega (arith, parts_sorted (key e) l f (rising_sorted key o l r) h));
  }
