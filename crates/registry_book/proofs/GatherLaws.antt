-- The lists of the indices below a bound, one after the other: what is done to the whole is done to each, by induction on the bound.
use Prim.Native.Nat.{ℕ, zero, suc, ◌≤◌, ◌<◌}
use mathlib.Core.Path.{◌≡◌, refl, sym, ap, ◌∙◌}
use mathlib.Core.Logic.{⊎_elim}
use mathlib.Core.Bool.{Bool, true}
use mathlib.Core.List.{List, [], ◌++◌, append-nil, map}
use native.Mathlib.Nat.{eq-or-lt_of_le}
use native.Mathlib.Omega.{arith}
use Rattle.lists.specs.Below.{iter_below}
use Rattle.lists.specs.Lists.{keep, all}
use Rattle.lists.specs.Maps.{insert}
use Rattle.lists.proofs.ListLaws.{and_left, and_right, map_append, keep_append, all_append}
use Rattle.registry_book.proofs.ListLaws.{low, high, insert_right, insert_left}

none : {i : ℕ} → i < 0 → ⊥
none {i} l = omega arith

up : {i n : ℕ} → i < n → i < suc n
up {i} {n} l = omega arith

top : {n : ℕ} → n < suc n
top {n} = omega arith

down : {i n : ℕ} → i < suc n → i ≤ n
down {i} {n} l = omega arith

abbrev pub gathered : {E : Type 0} → (ℕ → List E) → ℕ → List E
gathered f n = iter_below (λ i l. l ++ f i) n []

module _ {E : Type 0} where
  pub gather_same : (f g : ℕ → List E) (n : ℕ) → ((i : ℕ) → i < n → f i ≡ g i) → gathered f n ≡ gathered g n
  unfolding iter_below
  gather_same f g zero h = refl
  gather_same f g (suc n) h = λ k. gather_same f g n (λ i l. h i (up l)) k ++ h n top k

  gather_none : (f : ℕ → List E) (n : ℕ) → ((i : ℕ) → i < n → f i ≡ []) → gathered f n ≡ []
  unfolding iter_below
  gather_none f zero h = refl
  gather_none f (suc n) h = λ k. gather_none f n (λ i l. h i (up l)) k ++ h n top k

  pub gather_keep : (p : E → Bool) (f : ℕ → List E) (n : ℕ) → keep p (gathered f n) ≡ gathered (λ i. keep p (f i)) n
  unfolding iter_below
  gather_keep p f zero = refl
  gather_keep p f (suc n) = keep_append p (gathered f n) (f n) ∙ ap (λ (l : List E). l ++ keep p (f n)) (gather_keep p f n)

  pub gather_map : {F : Type 0} (g : E → F) (f : ℕ → List E) (n : ℕ) → map g (gathered f n) ≡ gathered (λ i. map g (f i)) n
  unfolding iter_below
  gather_map g f zero = refl
  gather_map {F} g f (suc n) = map_append g (gathered f n) (f n) ∙ ap (λ (l : List F). l ++ map g (f n)) (gather_map g f n)

  pub gather_at : (p : E → Bool) (f : ℕ → List E) (n i : ℕ) → all p (gathered f n) ≡ true → i < n → all p (f i) ≡ true
  unfolding iter_below
  gather_at p f zero i h l = absurd (none l)
  gather_at p f (suc n) i h l =
      let both = sym (all_append p (gathered f n) (f n)) ∙ h in
      ⊎_elim
      (λ (e : i ≡ n). rw e (and_right (all p (gathered f n)) (all p (f n)) both))
      (λ (g : i < n). gather_at p f n i (and_left (all p (gathered f n)) (all p (f n)) both) g)
      (eq-or-lt_of_le (down l))

  -- from some index on there is nothing
  pub gather_past : (f : ℕ → List E) (n m : ℕ) → n ≤ m → ((i : ℕ) → n ≤ i → f i ≡ []) → gathered f m ≡ gathered f n
  unfolding iter_below
  gather_past f n zero l h = let e : n ≡ 0 = omega arith in rw e
  gather_past f n (suc m) l h = ⊎_elim
      (λ (e : n ≡ suc m). rw e)
      (λ (g : n < suc m). rw (h m (down g)) (append-nil (gathered f m) ∙ gather_past f n m (down g) h))
      (eq-or-lt_of_le l)

  -- only one index has anything
  pub gather_one : (f : ℕ → List E) (n k : ℕ) → k < n → ((i : ℕ) → (i ≡ k → ⊥) → f i ≡ []) → gathered f n ≡ f k
  unfolding iter_below
  gather_one f zero k l h = absurd (none l)
  gather_one f (suc n) k l h = ⊎_elim
      (λ (e : k ≡ n). rw (e, gather_none f n (λ i g. h i (λ q. apart e g q))))
      (λ (g : k < n). rw (h n (λ q. over g q)) (append-nil (gathered f n) ∙ gather_one f n k g h))
      (eq-or-lt_of_le (down l))
    where
      apart : {i n k : ℕ} → k ≡ n → i < n → i ≡ k → ⊥
      apart {i} {n} {k} e l q = omega arith

      over : {n k : ℕ} → k < n → n ≡ k → ⊥
      over {n} {k} l q = omega arith

  -- an element is put into its place in one list, where those before are less and those after greater
  module _ {K : Type 0} (key : E → K) (lt : K → K → Bool) (e : E) where
    pub gather_insert : (f g : ℕ → List E) (n k : ℕ) → k < n → g k ≡ insert key lt e (f k) → ((i : ℕ) → (i ≡ k → ⊥) → g i ≡ f i)
        → ((i : ℕ) → i < k → (low key lt e (f i) ≡ f i) × (high key lt e (f i) ≡ [])) → ((i : ℕ) → k < i → (low key lt e (f i) ≡ []) × (high key lt e (f i) ≡ f i))
        → gathered g n ≡ insert key lt e (gathered f n)
    unfolding iter_below
    gather_insert f g zero k l here there before after = absurd (none l)
    gather_insert f g (suc n) k l here there before after = ⊎_elim
        (λ (q : k ≡ n).
        let h : g n ≡ insert key lt e (f n) = rw (sym q) here in
        let lows : low key lt e (gathered f n) ≡ gathered f n = gather_keep (λ x. lt (key x) (key e)) f n ∙ gather_same _ f n (λ i m. (before i (rw q m)).0) in
        let highs : high key lt e (gathered f n) ≡ [] = gather_keep (λ x. lt (key e) (key x)) f n ∙ gather_none _ n (λ i m. (before i (rw q m)).1) in
        (λ j. gather_same g f n (λ i m. there i (λ s. apart q m s)) j ++ h j) ∙ sym (insert_right key lt e (gathered f n) (f n) lows highs))
        (λ (m : k < n).
        (λ j. gather_insert f g n k m here there before after j ++ there n (λ s. over m s) j) ∙ sym (insert_left key lt e (gathered f n) (f n) (after n m).0 (after n m).1))
        (eq-or-lt_of_le (down l))
      where
        apart : {i n k : ℕ} → k ≡ n → i < n → i ≡ k → ⊥
        apart {i} {n} {k} e l q = omega arith

        over : {n k : ℕ} → k < n → n ≡ k → ⊥
        over {n} {k} l q = omega arith
