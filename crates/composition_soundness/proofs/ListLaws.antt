-- One place of an array is written, and tests of a whole list are carried over to other tests: by cases and by induction on the list.
use Prim.Native.Nat.{ℕ, ◌≤◌}
use mathlib.Core.Path.{◌≡◌, refl, sym, ap, ◌∙◌, subst}
use mathlib.Core.Bool.{Bool, true, ◌&&◌}
use mathlib.Core.List.{List, [], ◌∷◌}
use native.Mathlib.Omega.{arith}
use borrow.Author.Tests.{ltb-true, ltb-false}
use lib.Dec.{ltb}
use lib.ListN.{length, take, drop, get_or, set, take-append-drop, length-take}
use lib.Seq.{get_or-set_same, get_or-set_other, set_out}
use Rattle.lists.specs.Lists.{keep, all}
use Rattle.lists.specs.Maps.{rising, rising_from}
use Rattle.lists.specs.Tables.{Shape, entries_of, packed}
use Rattle.lists.proofs.ListLaws.{by_test, and_left, and_right, and_both, all_append, length_keep}
use Rattle.lists.proofs.TableLaws.{len_packed}
use Rattle.handles.proofs.SlotLaws.{by_same}

module _ {E : Type 0} where
  -- what holds at a place still holds after a write that keeps it at its own place
  pub set_keeps : (P : E → Type 0) (l : List E) (i j : ℕ) (e d : E) → (j ≡ i → P (get_or l i d) → P e) → P (get_or l j d) → P (get_or (set l i e) j d)
  set_keeps P l i j e d f x = by_same j i
      (λ q. by_test (ltb i (length l))
      (λ t. subst P (sym (ap (λ (k : ℕ). get_or (set l i e) k d) q ∙ get_or-set_same l i e d (ltb-true i (length l) t))) (f q (subst P (ap (λ (k : ℕ). get_or l k d) q) x)))
      (λ t. subst P (sym (ap (λ (m : List E). get_or m j d) (set_out l i e (ltb-false i (length l) t)))) x))
      (λ n. subst P (sym (get_or-set_other l i j e d n)) x)

  -- a write that keeps a field of its place keeps it at every place
  pub field_kept : {X : Type 0} (f : E → X) (l : List E) (i j : ℕ) (e d : E) → f e ≡ f (get_or l i d) → f (get_or (set l i e) j d) ≡ f (get_or l j d)
  field_kept f l i j e d same = set_keeps (λ (x : E). f x ≡ f (get_or l j d)) l i j e d (λ k q. same ∙ q) refl

  -- ---- tests of a whole list
  pub all_as : (p q : E → Bool) → ((e : E) → p e ≡ true → q e ≡ true) → (l : List E) → all p l ≡ true → all q l ≡ true
  all_as p q f [] h = refl
  all_as p q f (e ∷ l) h = and_both (f e (and_left (p e) (all p l) h)) (all_as p q f l (and_right (p e) (all p l) h))

  pub all_both : (p q : E → Bool) (l : List E) → all p l ≡ true → all q l ≡ true → all (λ e. p e && q e) l ≡ true
  all_both p q [] h k = refl
  all_both p q (e ∷ l) h k =
      and_both (and_both (and_left (p e) (all p l) h) (and_left (q e) (all q l) k)) (all_both p q l (and_right (p e) (all p l) h) (and_right (q e) (all q l) k))

  pub all_keep : (p q : E → Bool) (l : List E) → all p l ≡ true → all p (keep q l) ≡ true
  all_keep p q [] h = refl
  all_keep p q (e ∷ l) h =
      let rest = all_keep p q l (and_right (p e) (all p l) h) in
      by_test (q e) (λ t. rw t (and_both (and_left (p e) (all p l) h) rest)) (λ t. rw t rest)

  pub all_drop : (p : E → Bool) (n : ℕ) (l : List E) → all p l ≡ true → all p (drop n l) ≡ true
  all_drop p n l h = and_right (all p (take n l)) (all p (drop n l)) (sym (all_append p (take n l) (drop n l)) ∙ ap (all p) (take-append-drop n l) ∙ h)

  -- ---- a list that rises by one order rises by another that agrees on it
  module _ {K : Type 0} (key : E → K) (lt lu : K → K → Bool) (p : E → Bool)
      (agree : (a b : E) → p a ≡ true → p b ≡ true → lt (key a) (key b) ≡ true → lu (key a) (key b) ≡ true) where
    from_as : (e : E) (l : List E) → p e ≡ true → all p l ≡ true → rising_from key lt e l ≡ true → rising_from key lu e l ≡ true
    from_as e [] y h r = refl
    from_as e (f ∷ l) y h r =
        let z = and_left (p f) (all p l) h in
        and_both (agree e f y z (and_left (lt (key e) (key f)) (rising_from key lt f l) r))
        (from_as f l z (and_right (p f) (all p l) h) (and_right (lt (key e) (key f)) (rising_from key lt f l) r))

    pub rising_as : (l : List E) → all p l ≡ true → rising key lt l ≡ true → rising key lu l ≡ true
    rising_as [] h r = refl
    rising_as (e ∷ l) h r = from_as e l (and_left (p e) (all p l) h) (and_right (p e) (all p l) h) r

-- ---- how many entries a table has, and has left
module _ {E T : Type 0} (s : Shape E T) where
  pub entries_few : (t : T) → length (entries_of s t) ≤ s.len t
  unfolding entries_of
  entries_few t = simp length-take (omega arith)

  pub kept_few : (p : E → Bool) (t : T) (n : ℕ) → s.len t ≤ n → s.len (packed s (keep p (entries_of s t))) ≤ n
  kept_few p t n h = rw (len_packed s (keep p (entries_of s t))) (omega (arith, length_keep p (entries_of s t), entries_few t))
