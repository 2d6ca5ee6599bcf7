-- What a test keeps of a list where it is known of every element, of a list's image and of an insertion into that: by induction on the list.
use Rattle.std.specs.Prelude.{Some}
use mathlib.Core.Path.{◌≡◌, refl, ap, ◌∙◌}
use mathlib.Core.Bool.{Bool, true, not, ◌&&◌}
use mathlib.Core.List.{List, [], ◌∷◌, ◌++◌, append_assoc, map}
use native.Mathlib.Omega.{arith}
use borrow.Author.Tests.{not-true}
use lib.ListN.{length}
use Rattle.lists.specs.Lists.{keep, all}
use Rattle.lists.specs.Maps.{insert, rising, lookup, remove}
use Rattle.lists.specs.Orders.{Ordered}
use Rattle.lists.proofs.ListLaws.{by_test, clash, and_left, and_right, and_both, map_append, keep_append}
use Rattle.lists.proofs.RisingLaws.{Over, Sorted, rising_sorted}

module _ {E : Type 0} where
  pub all_every : (p : E → Bool) → ((e : E) → p e ≡ true) → (l : List E) → all p l ≡ true
  all_every p f [] = refl
  all_every p f (e ∷ l) = and_both (f e) (all_every p f l)

  pub keep_every : (p : E → Bool) (l : List E) → all p l ≡ true → keep p l ≡ l
  keep_every p [] h = refl
  keep_every p (e ∷ l) h = rw (and_left (p e) (all p l) h, keep_every p l (and_right (p e) (all p l) h))

  pub keep_nothing : (p : E → Bool) (l : List E) → all (λ e. not (p e)) l ≡ true → keep p l ≡ []
  keep_nothing p [] h = refl
  keep_nothing p (e ∷ l) h =
      rw (not-true (p e) (and_left (not (p e)) (all (λ e. not (p e)) l) h)) (keep_nothing p l (and_right (not (p e)) (all (λ e. not (p e)) l) h))

  pub no_length : (l : List E) → length l ≡ 0 → l ≡ []
  no_length [] h = refl
  no_length (e ∷ l) h = absurd (omega arith)

  -- where a test keeps nothing, its opposite keeps all
  pub keep_rest : (p : E → Bool) (l : List E) → length (keep p l) ≡ 0 → keep (λ e. not (p e)) l ≡ l
  keep_rest p [] h = refl
  keep_rest p (e ∷ l) h = by_test (p e) (λ t. absurd (omega (arith, simp t at h))) (λ t. simp t (ap (λ (m : List E). e ∷ m) (keep_rest p l (simp t at h))))

  -- tests that agree where a third one passes
  keep_as : (p q s : E → Bool) → ((e : E) → s e ≡ true → p e ≡ q e) → (l : List E) → all s l ≡ true → keep p l ≡ keep q l
  keep_as p q s f [] h = refl
  keep_as p q s f (e ∷ l) h = rw (f e (and_left (s e) (all s l) h), keep_as p q s f l (and_right (s e) (all s l) h))

  -- a test that no element passes
  pub none_left : (p : E → Bool) → ((e : E) → p e ≡ true → ⊥) → (l : List E) → all p l ≡ true → l ≡ []
  none_left p f [] h = refl
  none_left p f (e ∷ l) h = absurd (f e (and_left (p e) (all p l) h))

  -- ---- an insertion between elements that are all less and elements that are all greater
  module _ {K : Type 0} (key : E → K) (lt : K → K → Bool) (e : E) where
    abbrev pub low : List E → List E
    low l = keep (λ f. lt (key f) (key e)) l

    abbrev pub high : List E → List E
    high l = keep (λ f. lt (key e) (key f)) l

    pub insert_right : (a b : List E) → low a ≡ a → high a ≡ [] → insert key lt e (a ++ b) ≡ a ++ insert key lt e b
    insert_right a b p q = rw (keep_append (λ f. lt (key f) (key e)) a b, keep_append (λ f. lt (key e) (key f)) a b, p, q) (append_assoc a (low b) (e ∷ high b))

    pub insert_left : (a b : List E) → low b ≡ [] → high b ≡ b → insert key lt e (a ++ b) ≡ insert key lt e a ++ b
    insert_left a b p q = simp (keep_append, p, q, append_assoc)

module _ {E F : Type 0} (g : E → F) where
  pub keep_map : (p : F → Bool) (l : List E) → keep p (map g l) ≡ map g (keep (λ e. p (g e)) l)
  keep_map p [] = refl
  keep_map p (e ∷ l) = by_test (p (g e)) (λ t. simp (t, keep_map p l)) (λ t. simp (t, keep_map p l))

  pub all_map : (p : F → Bool) (l : List E) → all p (map g l) ≡ all (λ e. p (g e)) l
  all_map p [] = refl
  all_map p (e ∷ l) = rw (all_map p l)

  pub map_back : (f : F → E) → ((e : E) → f (g e) ≡ e) → (l : List E) → map f (map g l) ≡ l
  map_back f h [] = refl
  map_back f h (e ∷ l) = λ i. h e i ∷ map_back f h l i

  -- an insertion into the image, where the orders agree
  pub insert_map : {K L : Type 0} (key : E → K) (lt : K → K → Bool) (name : F → L) (lu : L → L → Bool) → ((a b : E) → lu (name (g a)) (name (g b)) ≡ lt (key a) (key b))
      → (e : E) (l : List E) → insert name lu (g e) (map g l) ≡ map g (insert key lt e l)
  insert_map key lt name lu same e l = simp (keep_map, same, map_append)

-- ---- a removal by key and a further test that the one entry with the key passes
module _ {E K : Type 0} (key : E → K) {lt same : K → K → Bool} (o : Ordered lt same) (q : E → Bool) (k : K) where
  abbrev is_taken : E → Bool
  is_taken e = same k (key e) && q e

  over_other : (l : List E) → Over key lt k l → all (λ e. not (same k (key e))) l ≡ true
  over_other [] h = refl
  over_other (e ∷ l) h = and_both
      (by_test (same k (key e)) (λ t. clash h.0 (ap (λ (j : K). lt j (key e)) (o.same_eq k (key e) t) ∙ o.irrefl (key e))) (λ t. ap not t))
      (over_other l h.1)

  sorted_removed : (e : E) (l : List E) → Sorted key lt l → lookup key same k l ≡ Some e → q e ≡ true → remove key same k l ≡ keep (λ f. not (is_taken f)) l
  sorted_removed e [] s h y = refl
  sorted_removed e (f ∷ l) s h y = by_test (same k (key f))
      (λ t. let here : Some f ≡ Some e = simp t at h in
      let is : f ≡ e = cc in
      let z : q f ≡ true = ap q is ∙ y in
      simp (t, z) (keep_as (λ x. not (same k (key x))) (λ x. not (is_taken x)) (λ x. not (same k (key x))) (λ x u. rw (not-true (same k (key x)) u)) l
      (over_other l (rw (o.same_eq k (key f) t) s.0))))
      (λ t. simp t (ap (λ (m : List E). f ∷ m) (sorted_removed e l s.1 (simp t at h) y)))

  pub found_removed : (e : E) (l : List E) → rising key lt l ≡ true → lookup key same k l ≡ Some e → q e ≡ true → remove key same k l ≡ keep (λ f. not (same k (key f) && q f)) l
  found_removed e l r h y = sorted_removed e l (rising_sorted key o l r) h y
