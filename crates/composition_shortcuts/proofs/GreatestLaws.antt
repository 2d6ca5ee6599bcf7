-- The greatest of a list under a strict order: it is found exactly if the list has an element, and one element more replaces it exactly if it is greater.
use Rattle.std.specs.Prelude.{None, Some}
use mathlib.Core.Path.{◌≡◌, refl, sym, ap, ◌∙◌}
use mathlib.Core.Bool.{Bool, true, false, not, ◌&&◌}
use mathlib.Core.Logic.{⊎_elim}
use mathlib.Core.List.Memᴰ
use mathlib.Core.List.{List, [], ◌∷◌, ◌++◌, Memᴰ}
use Rattle.lists.specs.Lists.{first, all}
use Rattle.lists.specs.Orders.{Ordered}
use Rattle.lists.proofs.ListLaws.{by_test, clash, some≢none, and_left, and_right, and_both, all_append, first_append}
use Rattle.composition_shortcuts.specs.Greatest.{is_unbeaten, greatest}

flip : (x : Bool) → not x ≡ true → x ≡ false
flip true t = sym t
flip false t = refl

pub same_some : {E : Type 0} {a b : E} → Some a ≡ Some b → a ≡ b
same_some {E} {a} {b} h = cc

-- ---- what all pass, by each element; what the first that passes is
module _ {E : Type 0} (p : E → Bool) where
  pub all_each : (l : List E) → all p l ≡ true → (f : E) → Memᴰ f l → p f ≡ true
  all_each [] h f m = absurd (Memᴰ.not-nil m)
  all_each (e ∷ l) h f m = ⊎_elim
      (λ (s : f ≡ e). ap p s ∙ and_left (p e) (all p l) h)
      (λ (n : Memᴰ f l). all_each l (and_right (p e) (all p l) h) f n)
      (Memᴰ.cases_cons m)

  pub each_all : (l : List E) → ((f : E) → Memᴰ f l → p f ≡ true) → all p l ≡ true
  each_all [] h = refl
  each_all (e ∷ l) h = and_both (h e (Memᴰ.head refl)) (each_all l (λ f m. h f (Memᴰ.tail m)))

  first_none : (l : List E) → ((f : E) → Memᴰ f l → p f ≡ false) → first p l ≡ None
  first_none [] h = refl
  first_none (e ∷ l) h = simp (h e (Memᴰ.head refl)) (first_none l (λ f m. h f (Memᴰ.tail m)))

  none_first : (l : List E) → first p l ≡ None → (f : E) → Memᴰ f l → p f ≡ false
  none_first [] h f m = absurd (Memᴰ.not-nil m)
  none_first (e ∷ l) h f m = by_test (p e)
      (λ t. some≢none refl (simp t at h))
      (λ t. ⊎_elim (λ (s : f ≡ e). ap p s ∙ t) (λ (n : Memᴰ f l). none_first l (simp t at h) f n) (Memᴰ.cases_cons m))

  first_passes : (l : List E) (b : E) → first p l ≡ Some b → p b ≡ true
  first_passes [] b h = some≢none h refl
  first_passes (e ∷ l) b h = by_test (p e)
      (λ t. let k : Some e ≡ Some b = simp t at h in ap p (sym (same_some k)) ∙ t)
      (λ t. first_passes l b (simp t at h))

  first_among : (l : List E) (b : E) → first p l ≡ Some b → Memᴰ b l
  first_among [] b h = some≢none h refl
  first_among (e ∷ l) b h = by_test (p e)
      (λ t. let k : Some e ≡ Some b = simp t at h in Memᴰ.head (sym (same_some k)))
      (λ t. Memᴰ.tail (first_among l b (simp t at h)))

  -- a harder test that the first still passes
  first_still : (q : E → Bool) (a r : List E) (b : E) → ((f : E) → p f ≡ false → q f ≡ false) → q b ≡ true → first p a ≡ Some b → first q (a ++ r) ≡ Some b
  first_still q [] r b i u h = some≢none h refl
  first_still q (e ∷ a) r b i u h = by_test (p e)
      (λ t. let k : Some e ≡ Some b = simp t at h in let v : q e ≡ true = ap q (same_some k) ∙ u in simp v k)
      (λ t. simp (i e t) (first_still q a r b i u (simp t at h)))

module _ {E : Type 0} {lt same : E → E → Bool} (o : Ordered lt same) where
  asym : (a b : E) → lt a b ≡ true → lt b a ≡ false
  asym a b t = by_test (lt b a) (λ u. clash (o.trans a b a t u) (o.irrefl a)) (λ u. u)

  -- what is not less than c is not between: a < b and not a < c give c < b
  above : (a b c : E) → lt a b ≡ true → lt a c ≡ false → lt c b ≡ true
  above a b c t u = by_test (same a c)
      (λ s. rw (sym (o.same_eq a c s)) t)
      (λ s. o.trans c a b (o.connex a c s u) t)

  -- an element of the list, which no other exceeds
  pub greatest_among : (l : List E) (b : E) → greatest lt l ≡ Some b → Memᴰ b l
  unfolding greatest
  greatest_among l b h = first_among (is_unbeaten lt l) l b h

  pub greatest_top : (l : List E) (b : E) → greatest lt l ≡ Some b → (f : E) → Memᴰ f l → lt b f ≡ false
  unfolding greatest
  greatest_top l b h f m = flip (lt b f) (all_each (λ g. not (lt b g)) l (first_passes (is_unbeaten lt l) l b h) f m)

  -- a list with an element has one that nothing exceeds
  peak : (e : E) (l : List E) → (m : E) × Memᴰ m (e ∷ l) × (is_unbeaten lt (e ∷ l) m ≡ true)
  peak e [] = (e, Memᴰ.head refl, simp (o.irrefl e))
  peak e (f ∷ l) =
      let r = peak f l in
      by_test (lt e r.0)
      (λ t. (r.0, Memᴰ.tail r.1, and_both (ap not (asym e r.0 t)) r.2))
      (λ t. (
        e,
        Memᴰ.head refl,
        and_both (ap not (o.irrefl e)) (each_all (λ g. not (lt e g)) (f ∷ l) (λ g m. ap not (by_test (lt e g)
            (λ u. clash (above e g r.0 u t) (flip (lt r.0 g) (all_each (λ x. not (lt r.0 x)) (f ∷ l) r.2 g m)))
            (λ u. u)))),
      ))

  pub greatest_none : (l : List E) → greatest lt l ≡ None → l ≡ []
  unfolding greatest
  greatest_none [] h = refl
  greatest_none (e ∷ l) h = let r = peak e l in clash r.2 (none_first (is_unbeaten lt (e ∷ l)) (e ∷ l) h r.0 r.1)

  -- ---- one element more
  pub greatest_one : (e : E) → greatest lt (e ∷ []) ≡ Some e
  unfolding greatest
  greatest_one e = simp (o.irrefl e)

  module _ (l : List E) (b e : E) (h : greatest lt l ≡ Some b) where
    longer : (g : E) → is_unbeaten lt (l ++ (e ∷ [])) g ≡ (is_unbeaten lt l g && is_unbeaten lt (e ∷ []) g)
    longer g = all_append (λ f. not (lt g f)) l (e ∷ [])

    pub greatest_new : lt b e ≡ true → greatest lt (l ++ (e ∷ [])) ≡ Some e
    unfolding greatest
    greatest_new t =
        let under : (f : E) → Memᴰ f l → lt f e ≡ true = λ f m. above b e f t (greatest_top l b h f m) in
        let old : first (is_unbeaten lt (l ++ (e ∷ []))) l ≡ None = first_none _ l (λ f m. longer f ∙ beaten (is_unbeaten lt l f) (lt f e) (under f m)) in
        let top : is_unbeaten lt l e ≡ true = each_all _ l (λ f m. ap not (asym f e (under f m))) in
        let new : is_unbeaten lt (l ++ (e ∷ [])) e ≡ true = longer e ∙ and_both top (and_both (ap not (o.irrefl e)) refl) in
        first_append (is_unbeaten lt (l ++ (e ∷ []))) l (e ∷ []) old ∙ simp new
      where
        beaten : (x y : Bool) → y ≡ true → (x && (not y && true)) ≡ false
        beaten true y t = simp t
        beaten false y t = refl

    pub greatest_old : lt b e ≡ false → greatest lt (l ++ (e ∷ [])) ≡ Some b
    unfolding greatest
    greatest_old t =
        first_still (is_unbeaten lt l) (is_unbeaten lt (l ++ (e ∷ []))) l (e ∷ []) b
        (λ f k. longer f ∙ harder (is_unbeaten lt l f) (is_unbeaten lt (e ∷ []) f) k)
        (longer b ∙ and_both (first_passes (is_unbeaten lt l) l b h) (and_both (ap not t) refl))
        h
      where
        harder : (x y : Bool) → x ≡ false → (x && y) ≡ false
        harder x y k = simp k
