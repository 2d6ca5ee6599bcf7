-- Laws of the lists by a test and of a list in an array, at any element type, by induction on the list.
use Prim.Native.Nat.{ℕ, zero, suc, ◌+◌, ◌-◌, ◌≤◌, ◌<◌}
use mathlib.Core.Path.{◌≡◌, refl, sym, ap, ◌∙◌}
use mathlib.Core.Bool.{Bool, true, false, not, ◌&&◌, true≢false}
use mathlib.Core.List.{List, [], ◌∷◌, ◌++◌, append_assoc, append-nil, map, reverse, reverse-append, reverse-cons}
use Rattle.std.specs.Prelude.{Option, None, Some}
use native.Mathlib.Numerals.{add-one}
use native.Mathlib.Omega.{arith}
use lib.ListN.{length, take, drop, take-append-drop, set, get_or, length-append, length-replicate, get_or-eq_default}
use lib.Seq.{drop-cons, take-suc, take-append_seam, set-append_seam, set_out}
use Rattle.lists.specs.Lists.{keep, first, all, pad}

-- by a test's two answers, each with its equation
pub by_test {ℓ} : {P : Type ℓ} (b : Bool) → (b ≡ true → P) → (b ≡ false → P) → P
by_test true f g = f refl
by_test false f g = g refl

pub clash {ℓ} : {P : Type ℓ} {b : Bool} → b ≡ true → b ≡ false → P
clash t f = absurd (true≢false (sym t ∙ f))

pub some≢none {ℓ} : {P : Type ℓ} {E : Type 0} {e : E} {x : Option E} → x ≡ Some e → x ≡ None → P
some≢none {P} {E} {e} {x} p q = let z : ◌≡◌ {A = ℕ} 0 1 = cc in absurd (omega arith)

-- a conjunction that holds, taken apart and put together
pub and_left : (a b : Bool) → (a && b) ≡ true → a ≡ true
and_left true b h = refl
and_left false b h = h

pub and_right : (a b : Bool) → (a && b) ≡ true → b ≡ true
and_right true b h = h
and_right false b h = clash h refl

pub and_both : {a b : Bool} → a ≡ true → b ≡ true → (a && b) ≡ true
and_both p q = simp (p, q)

and_true : (a b : Bool) → (a && (b && true)) ≡ (a && b)
and_true true true = refl
and_true true false = refl
and_true false b = refl

pub map_snoc : {E F : Type 0} (f : E → F) (l : List E) (e : E) → map f (l ++ (e ∷ [])) ≡ map f l ++ (f e ∷ [])
map_snoc f [] e = refl
map_snoc f (x ∷ l) e = ap (λ r. f x ∷ r) (map_snoc f l e)

pub map_append : {E F : Type 0} (f : E → F) (a b : List E) → map f (a ++ b) ≡ map f a ++ map f b
map_append f [] b = refl
map_append f (x ∷ a) b = ap (λ r. f x ∷ r) (map_append f a b)

module _ {E : Type 0} where
  -- past the end of an array a write does nothing and a read is the default
  pub past_set : (l : List E) (i n : ℕ) (a : E) → length l ≡ n → n ≤ i → l ≡ set l i a
  past_set l i n a e h = sym (set_out l i a (omega arith))

  pub past_get : (l : List E) (i n : ℕ) (d : E) → length l ≡ n → n ≤ i → d ≡ get_or l i d
  past_get l i n d e h = sym (get_or-eq_default l d (omega arith))

  -- inside an array the default does not matter
  pub get_within : (l : List E) (i : ℕ) (d e : E) → i < length l → get_or l i d ≡ get_or l i e
  get_within [] i d e h = absurd (omega arith)
  get_within (x ∷ l) zero d e h = refl
  get_within (x ∷ l) (suc i) d e h = get_within l i d e (omega arith)

  -- ---- what a test keeps
  pub keep_append : (p : E → Bool) (a b : List E) → keep p (a ++ b) ≡ keep p a ++ keep p b
  keep_append p [] b = refl
  keep_append p (e ∷ a) b = by_test (p e) (λ t. simp (t, keep_append p a b)) (λ t. simp (t, keep_append p a b))

  pub length_keep : (p : E → Bool) (l : List E) → length (keep p l) ≤ length l
  length_keep p [] = omega arith
  length_keep p (e ∷ l) = by_test (p e) (λ t. simp t (omega (arith, length_keep p l))) (λ t. simp t (omega (arith, length_keep p l)))

  pub keep_passes : (p : E → Bool) (l : List E) → all p (keep p l) ≡ true
  keep_passes p [] = refl
  keep_passes p (e ∷ l) = by_test (p e) (λ t. simp (t, keep_passes p l)) (λ t. simp (t, keep_passes p l))

  pub keep_split : (p : E → Bool) (l : List E) → length (keep p l) + length (keep (λ e. not (p e)) l) ≡ length l
  keep_split p [] = refl
  keep_split p (e ∷ l) = by_test (p e) (λ t. simp t (omega (arith, keep_split p l))) (λ t. simp t (omega (arith, keep_split p l)))

  -- two tests, in either order
  pub keep_swap : (p q : E → Bool) (l : List E) → keep p (keep q l) ≡ keep q (keep p l)
  keep_swap p q [] = refl
  keep_swap p q (e ∷ l) = by_test (p e)
      (λ t. by_test (q e) (λ u. simp (t, u, keep_swap p q l)) (λ u. simp (t, u, keep_swap p q l)))
      (λ t. by_test (q e) (λ u. simp (t, u, keep_swap p q l)) (λ u. simp (t, u, keep_swap p q l)))

  pub keep_reverse : (p : E → Bool) (l : List E) → keep p (reverse l) ≡ reverse (keep p l)
  keep_reverse p [] = refl
  keep_reverse p (e ∷ l) =
      by_test (p e)
      (λ t. rw (reverse-cons, keep_append, keep_reverse p l, t, reverse-cons))
      (λ t. rw (reverse-cons, keep_append, keep_reverse p l, t, append-nil))

  length_keep_take : (p : E → Bool) (l : List E) (i : ℕ) → length (keep p (take i l)) ≤ length (keep p l)
  length_keep_take p l i =
      let e : length (keep p l) ≡ length (keep p (take i l)) + length (keep p (drop i l)) =
      ap (λ (x : List E). length (keep p x)) (sym (take-append-drop i l)) ∙ simp (keep_append, length-append) in
      omega arith

  -- one element more
  pub keep_yes : (p : E → Bool) (l : List E) (i : ℕ) (d : E) → i < length l → p (get_or l i d) ≡ true → keep p (take (i + 1) l) ≡ keep p (take i l) ++ (get_or l i d ∷ [])
  keep_yes p l i d h t = rw (add-one, take-suc l i d h, keep_append, t)

  pub keep_no : (p : E → Bool) (l : List E) (i : ℕ) (d : E) → i < length l → p (get_or l i d) ≡ false → keep p (take (i + 1) l) ≡ keep p (take i l)
  keep_no p l i d h t = rw (add-one, take-suc l i d h, keep_append, t, append-nil)

  pub keep_room : (p : E → Bool) (l : List E) (i : ℕ) (d : E) → i < length l → p (get_or l i d) ≡ true → length (keep p (take i l)) < length (keep p l)
  keep_room p l i d h t = omega (arith, length_keep_take p l (i + 1), ap length (keep_yes p l i d h t) ∙ length-append (keep p (take i l)) (get_or l i d ∷ []))

  -- ---- whether all pass
  pub all_append : (p : E → Bool) (a b : List E) → all p (a ++ b) ≡ (all p a && all p b)
  all_append p [] b = refl
  all_append p (e ∷ a) b = by_test (p e) (λ t. simp (t, all_append p a b)) (λ t. simp t)

  pub all_take : (p : E → Bool) (l : List E) (i : ℕ) (d : E) → i < length l → all p (take (i + 1) l) ≡ (all p (take i l) && p (get_or l i d))
  all_take p l i d h = rw (add-one, take-suc l i d h, all_append) (and_true (all p (take i l)) (p (get_or l i d)))

  -- ---- a search from a place on
  pub first_here : (p : E → Bool) (l : List E) (i : ℕ) (d : E) → i < length l → p (get_or l i d) ≡ true → first p (drop i l) ≡ Some (get_or l i d)
  first_here p l i d h t = rw (drop-cons l i d h, t)

  pub first_next : (p : E → Bool) (l : List E) (i : ℕ) (d : E) → i < length l → p (get_or l i d) ≡ false → first p (drop i l) ≡ first p (drop (i + 1) l)
  first_next p l i d h t = rw (drop-cons l i d h, t, add-one)

  -- ---- a search in a list that is put together, and in what a test keeps
  module _ (p : E → Bool) where
    pub first_append : (a b : List E) → first p a ≡ None → first p (a ++ b) ≡ first p b
    first_append [] b h = refl
    first_append (e ∷ a) b h = by_test (p e) (λ t. some≢none refl (simp t at h)) (λ t. simp t (first_append a b (simp t at h)))

    pub first_stop : (a b : List E) → first p b ≡ None → first p (a ++ b) ≡ first p a
    first_stop [] b h = h
    first_stop (e ∷ a) b h = by_test (p e) (λ t. simp t) (λ t. simp t (first_stop a b h))

    module _ (q : E → Bool) where
      pub first_keep_in : ((e : E) → p e ≡ true → q e ≡ true) → (l : List E) → first p (keep q l) ≡ first p l
      first_keep_in i [] = refl
      first_keep_in i (e ∷ l) = by_test (q e)
          (λ t. by_test (p e) (λ u. simp (t, u)) (λ u. simp (t, u) (first_keep_in i l)))
          (λ t. by_test (p e) (λ u. clash (i e u) t) (λ u. simp (t, u) (first_keep_in i l)))

      pub first_keep_out : ((e : E) → p e ≡ true → q e ≡ false) → (l : List E) → first p (keep q l) ≡ None
      first_keep_out i [] = refl
      first_keep_out i (e ∷ l) = by_test (q e)
          (λ t. by_test (p e) (λ u. clash t (i e u)) (λ u. simp (t, u) (first_keep_out i l)))
          (λ t. simp t (first_keep_out i l))

  -- ---- a list from its end: the first n from the last on, and those from a place on, from the last on
  pub last_first : (l : List E) (n : ℕ) (d : E) → 0 < n → n ≤ length l → reverse (take n l) ≡ get_or l (n - 1) d ∷ reverse (take (n - 1) l)
  last_first l zero d z h = absurd (omega arith)
  last_first l (suc k) d z h =
      let m : suc k - 1 ≡ k = omega arith in
      rw (m, take-suc l k d (omega arith)) (reverse-append (take k l) (get_or l k d ∷ []))

  pub back_more : (l : List E) (n : ℕ) (d : E) → 0 < n → n ≤ length l → reverse (drop (n - 1) l) ≡ reverse (drop n l) ++ (get_or l (n - 1) d ∷ [])
  back_more l zero d z h = absurd (omega arith)
  back_more l (suc k) d z h =
      let m : suc k - 1 ≡ k = omega arith in
      rw (m, drop-cons l k d (omega arith)) (reverse-cons (get_or l k d) (drop (suc k) l))

  -- ---- a list at the front of an array
  module _ (n : ℕ) (z : E) where
    pub length_pad : (l : List E) → length l ≤ n → length (pad n z l) ≡ n
    length_pad l h = simp (length-append, length-replicate) (omega arith)

    pub take_pad : (l : List E) → take (length l) (pad n z l) ≡ l
    take_pad l = take-append_seam l _

    pub push_pad : (l : List E) (e : E) → length l < n → set (pad n z l) (length l) e ≡ pad n z (l ++ (e ∷ []))
    push_pad l e h =
        let m : n - length l ≡ suc (n - length (l ++ (e ∷ []))) = simp length-append (omega arith) in
        rw (m, set-append_seam, append_assoc)
