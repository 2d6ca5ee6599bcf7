-- A rising list is sorted, each key less than all after it; what a test keeps, and an insertion, stay sorted. By induction on the list.
use mathlib.Core.Path.{◌≡◌, refl, sym}
use mathlib.Core.Bool.{Bool, true, false, ◌&&◌}
use mathlib.Core.List.{List, [], ◌∷◌, ◌++◌}
use Prim.Native.Nat.{ℕ, zero, suc, ◌+◌, ◌≤◌, ◌<◌}
use native.Mathlib.Numerals.{add-one}
use native.Mathlib.Omega.{arith}
use lib.ListN.{length, drop, get_or, length-drop}
use lib.Seq.{drop-cons}
use Rattle.std.specs.List.{IsAllAdjacentAnswer}
use Rattle.lists.specs.Lists.{keep}
use Rattle.lists.specs.Orders.{Ordered}
use Rattle.lists.specs.Maps.{insert, rising, rising_from}
use Rattle.lists.proofs.ListLaws.{by_test, clash, and_left, and_right, and_both}

module _ {E K : Type 0} (key : E → K) (lt : K → K → Bool) where
  -- ---- the test from a place on
  pub rising_next : (l : List E) (i : ℕ) (d : E) → i + 1 < length l → rising key lt (drop i l) ≡ (lt (key (get_or l i d)) (key (get_or l (i + 1) d)) && rising key lt (drop (i + 1) l))
  rising_next l i d h =
      let h₀ : i < length l = omega arith in
      let h₁ : suc i < length l = omega arith in
      rw (add-one, drop-cons l i d h₀, drop-cons l (suc i) d h₁)

  short : (l : List E) → length l ≤ 1 → rising key lt l ≡ true
  short [] h = refl
  short (e ∷ []) h = refl
  short (e ∷ f ∷ l) h = absurd (omega arith)

  pub rising_end : (l : List E) (i : ℕ) → length l ≤ i + 1 → rising key lt (drop i l) ≡ true
  rising_end l i h = short (drop i l) (simp length-drop (omega arith))

  -- ---- each key is greater than k; less than k; less than all after it
  abbrev pub Over : K → List E → Type 0
  Over k [] = Unit {0}
  Over k (f ∷ l) = (lt k (key f) ≡ true) × Over k l

  abbrev pub Under : K → List E → Type 0
  Under k [] = Unit {0}
  Under k (f ∷ l) = (lt (key f) k ≡ true) × Under k l

  abbrev pub Sorted : List E → Type 0
  Sorted [] = Unit {0}
  Sorted (e ∷ l) = Over (key e) l × Sorted l

  pub over_keep : (p : E → Bool) (k : K) (l : List E) → Over k l → Over k (keep p l)
  over_keep p k [] h = tt
  over_keep p k (f ∷ l) h = by_test (p f) (λ t. simp t (h.0, over_keep p k l h.1)) (λ t. simp t (over_keep p k l h.1))

  pub sorted_keep : (p : E → Bool) (l : List E) → Sorted l → Sorted (keep p l)
  sorted_keep p [] h = tt
  sorted_keep p (e ∷ l) h = by_test (p e) (λ t. simp t (over_keep p (key e) l h.0, sorted_keep p l h.1)) (λ t. simp t (sorted_keep p l h.1))

  over_self : (k : K) (l : List E) → Over k (keep (λ f. lt k (key f)) l)
  over_self k [] = tt
  over_self k (f ∷ l) = by_test (lt k (key f)) (λ t. simp t (refl, over_self k l)) (λ t. simp t (over_self k l))

  under_self : (k : K) (l : List E) → Under k (keep (λ f. lt (key f) k) l)
  under_self k [] = tt
  under_self k (f ∷ l) = by_test (lt (key f) k) (λ t. simp t (refl, under_self k l)) (λ t. simp t (under_self k l))

  over_append : (k : K) (a b : List E) → Over k a → Over k b → Over k (a ++ b)
  over_append k [] b h g = g
  over_append k (e ∷ a) b h g = (h.0, over_append k a b h.1 g)

  -- the key at a place
  over_at : (k : K) (l : List E) (d : E) (j : ℕ) → Over k l → j < length l → lt k (key (get_or l j d)) ≡ true
  over_at k [] d j h l = absurd (omega arith)
  over_at k (e ∷ l) d zero h g = h.0
  over_at k (e ∷ l) d (suc j) h g = over_at k l d j h.1 (omega arith)

  pub sorted_at : (l : List E) (d : E) (i j : ℕ) → Sorted l → i < j → j < length l → lt (key (get_or l i d)) (key (get_or l j d)) ≡ true
  sorted_at [] d i j s g h = absurd (omega arith)
  sorted_at (e ∷ l) d i zero s g h = absurd (omega arith)
  sorted_at (e ∷ l) d zero (suc j) s g h = over_at (key e) l d j s.0 (omega arith)
  sorted_at (e ∷ l) d (suc i) (suc j) s g h = sorted_at l d i j s.1 (omega arith) (omega arith)

  pub sorted_rising : (l : List E) → Sorted l → rising key lt l ≡ true
  sorted_rising [] s = refl
  sorted_rising (e ∷ []) s = refl
  sorted_rising (e ∷ f ∷ l) s = and_both s.0.0 (sorted_rising (f ∷ l) s.1)

module _ {E K : Type 0} (key : E → K) {lt same : K → K → Bool} (o : Ordered lt same) where
  pub over_less : {a b : K} → lt a b ≡ true → (l : List E) → Over key lt b l → Over key lt a l
  over_less t [] h = tt
  over_less {a} {b} t (f ∷ l) h = (o.trans a b (key f) t h.0, over_less t l h.1)

  pub rising_sorted : (l : List E) → rising key lt l ≡ true → Sorted key lt l
  rising_sorted [] h = tt
  rising_sorted (e ∷ []) h = (tt, tt)
  rising_sorted (e ∷ f ∷ l) h =
      let t = and_left (lt (key e) (key f)) (rising_from key lt f l) h in
      let s = rising_sorted (f ∷ l) (and_right (lt (key e) (key f)) (rising_from key lt f l) h) in
      ((t, over_less t l s.0), s)

  sorted_mid : (a : List E) (e : E) (b : List E) → Sorted key lt a → Under key lt (key e) a → Over key lt (key e) b → Sorted key lt b → Sorted key lt (a ++ (e ∷ b))
  sorted_mid [] e b sa u v sb = (v, sb)
  sorted_mid (f ∷ a) e b sa u v sb = (over_append key lt (key f) a (e ∷ b) sa.0 (u.0, over_less u.0 b v), sorted_mid a e b sa.1 u.1 v sb)

  pub rising_keep : (p : E → Bool) (l : List E) → rising key lt l ≡ true → rising key lt (keep p l) ≡ true
  rising_keep p l h = sorted_rising key lt (keep p l) (sorted_keep key lt p l (rising_sorted l h))

  pub rising_insert : (e : E) (l : List E) → rising key lt l ≡ true → rising key lt (insert key lt e l) ≡ true
  rising_insert e l h =
      let s = rising_sorted l h in
      sorted_rising key lt (insert key lt e l)
      (sorted_mid (keep (λ f. lt (key f) (key e)) l) e (keep (λ f. lt (key e) (key f)) l) (sorted_keep key lt _ l s) (under_self key lt (key e) l) (over_self key lt (key e) l) (sorted_keep key lt _ l s))

-- what std answers of each entry and the next
module _ {E K : Type 0} (key : E → K) (lt : K → K → Bool) where
  abbrev Adjacent : List E → ℕ → E → Type 0
  Adjacent l k d = lt (key (get_or l k d)) (key (get_or l (suc k) d)) ≡ true

  all_adjacent : (l : List E) → ((k : ℕ) (d : E) → suc k < length l → Adjacent l k d) → rising key lt l ≡ true
  all_adjacent [] h = refl
  all_adjacent (e ∷ []) h = refl
  all_adjacent (e ∷ f ∷ l) h = and_both (h 0 e (omega arith)) (all_adjacent (f ∷ l) (λ k d w. h (suc k) d (omega arith)))

  adjacent_all : (l : List E) → rising key lt l ≡ true → (k : ℕ) (d : E) → suc k < length l → Adjacent l k d
  adjacent_all [] r k d w = absurd (omega arith)
  adjacent_all (e ∷ []) r k d w = absurd (omega arith)
  adjacent_all (e ∷ f ∷ l) r zero d w = and_left (lt (key e) (key f)) (rising_from key lt f l) r
  adjacent_all (e ∷ f ∷ l) r (suc k) d w = adjacent_all (f ∷ l) (and_right (lt (key e) (key f)) (rising_from key lt f l) r) k d (omega arith)

  pub rising_answer : (l : List E) (r : Bool) → IsAllAdjacentAnswer (λ x y b. b ≡ lt (key x) (key y)) l r → r ≡ rising key lt l
  rising_answer l true h = sym (all_adjacent l (λ k d w. sym (rw add-one at (h k d (omega arith)))))
  rising_answer [] false h = absurd (omega (arith, h.1))
  rising_answer (e ∷ l) false h =
      let w : suc h.0 < length (e ∷ l) = omega (arith, h.1) in
      let f : false ≡ lt (key (get_or (e ∷ l) h.0 e)) (key (get_or (e ∷ l) (suc h.0) e)) = rw add-one at (h.2 e) in
      by_test (rising key lt (e ∷ l)) (λ t. clash (adjacent_all (e ∷ l) t h.0 e w) (sym f)) (λ g. sym g)
