-- What a test keeps of what another kept, and lists of which all pass a test: by induction on the list.
use mathlib.Core.Path.{◌≡◌, refl, ◌∙◌}
use mathlib.Core.Bool.{Bool, true, false}
use mathlib.Core.List.{List, [], ◌∷◌, ◌++◌}
use Rattle.lists.specs.Lists.{keep, all}
use Rattle.lists.proofs.ListLaws.{by_test, clash, and_left, and_right, and_both, all_append}

module _ {E : Type 0} where
  module _ (p q : E → Bool) where
    -- the second test takes all, or nothing, of what the first passes
    pub keep_in : ((e : E) → p e ≡ true → q e ≡ true) → (l : List E) → keep p (keep q l) ≡ keep p l
    keep_in i [] = refl
    keep_in i (e ∷ l) = by_test (q e)
        (λ t. by_test (p e) (λ u. simp (t, u, keep_in i l)) (λ u. simp (t, u, keep_in i l)))
        (λ t. by_test (p e) (λ u. clash (i e u) t) (λ u. simp (t, u, keep_in i l)))

    pub keep_apart : ((e : E) → p e ≡ true → q e ≡ false) → (l : List E) → keep p (keep q l) ≡ []
    keep_apart i [] = refl
    keep_apart i (e ∷ l) = by_test (q e)
        (λ t. by_test (p e) (λ u. clash t (i e u)) (λ u. simp (t, u, keep_apart i l)))
        (λ t. simp (t, keep_apart i l))

    -- what passes one test passes another
    pub all_kept : ((e : E) → p e ≡ true → q e ≡ true) → (l : List E) → all q (keep p l) ≡ true
    all_kept i [] = refl
    all_kept i (e ∷ l) = by_test (p e) (λ t. simp (t, i e t, all_kept i l)) (λ t. simp (t, all_kept i l))

    pub all_implied : ((e : E) → p e ≡ true → q e ≡ true) → (l : List E) → all p l ≡ true → all q l ≡ true
    all_implied i [] h = refl
    all_implied i (e ∷ l) h = and_both (i e (and_left (p e) (all p l) h)) (all_implied i l (and_right (p e) (all p l) h))

  module _ (p : E → Bool) where
    pub keep_all : (l : List E) → all p l ≡ true → keep p l ≡ l
    keep_all [] h = refl
    keep_all (e ∷ l) h = let t = and_left (p e) (all p l) h in simp (t, keep_all l (and_right (p e) (all p l) h))

    pub all_keep : (q : E → Bool) (l : List E) → all p l ≡ true → all p (keep q l) ≡ true
    all_keep q [] h = refl
    all_keep q (e ∷ l) h =
        let t = and_left (p e) (all p l) h in
        let rest = all_keep q l (and_right (p e) (all p l) h) in
        by_test (q e) (λ u. simp (u, t, rest)) (λ u. simp (u, rest))

    pub all_both : (a b : List E) → all p a ≡ true → all p b ≡ true → all p (a ++ b) ≡ true
    all_both a b h k = all_append p a b ∙ and_both h k
