-- Whole numbers are strictly ordered by `lt_z`, by the cases of their signs; and a pair is ordered alike by two tests of its first part.
use Prim.Native.Nat.{ℕ}
use mathlib.Core.Path.{◌≡◌, refl, ap, ◌∙◌, fun_ext, subst}
use mathlib.Core.Bool.{Bool, true, false}
use lib.Dec.{ltb, eqb}
use lib.IntN.{ℤ, pos, negsuc}
use lib.Signed.{lt_z}
use Rattle.lists.specs.Orders.{Ordered, lex_lt, both_same, lex_both, same_z}
use Rattle.lists.proofs.ListLaws.{by_test, clash}
use Rattle.lists.proofs.OrderLaws.{number, pairs}

-- of two numbers that are neither the same nor in the other order, the first is less
flipped : (a b : ℕ) → eqb a b ≡ false → ltb b a ≡ false → ltb a b ≡ true
flipped a b s t = number.connex b a (by_test (eqb b a) (λ u. clash (ap (eqb a) (number.same_eq b a u) ∙ number.same_refl a) s) (λ u. u)) t

same_eq : (a b : ℤ) → same_z a b ≡ true → a ≡ b
same_eq (pos a) (pos b) t = ap pos (number.same_eq a b t)
same_eq (pos a) (negsuc b) t = clash t refl
same_eq (negsuc a) (pos b) t = clash t refl
same_eq (negsuc a) (negsuc b) t = ap negsuc (number.same_eq a b t)

same_refl : (a : ℤ) → same_z a a ≡ true
same_refl (pos a) = number.same_refl a
same_refl (negsuc a) = number.same_refl a

irrefl : (a : ℤ) → lt_z a a ≡ false
irrefl (pos a) = number.irrefl a
irrefl (negsuc a) = number.irrefl a

trans : (a b c : ℤ) → lt_z a b ≡ true → lt_z b c ≡ true → lt_z a c ≡ true
trans (pos a) (pos b) (pos c) t u = number.trans a b c t u
trans (pos a) (pos b) (negsuc c) t u = u
trans (pos a) (negsuc b) c t u = clash t refl
trans (negsuc a) b (pos c) t u = refl
trans (negsuc a) (pos b) (negsuc c) t u = clash u refl
trans (negsuc a) (negsuc b) (negsuc c) t u = number.trans c b a u t

connex : (a b : ℤ) → same_z a b ≡ false → lt_z a b ≡ false → lt_z b a ≡ true
connex (pos a) (pos b) s t = number.connex a b s t
connex (pos a) (negsuc b) s t = refl
connex (negsuc a) (pos b) s t = clash refl t
connex (negsuc a) (negsuc b) s t = flipped a b s t

pub integers : Ordered lt_z same_z
integers = record { same_refl = same_refl; same_eq = same_eq; irrefl = irrefl; trans = trans; connex = connex }

module _ {A B : Type 0} {lt_a same_a : A → A → Bool} {lt_b same_b : B → B → Bool} (o_a : Ordered lt_a same_a) (o_b : Ordered lt_b same_b) where
  -- the two ways to order a pair agree
  agree : (x y : A × B) → lex_lt same_a lt_a lt_b x y ≡ lex_both lt_a lt_b x y
  agree x y = by_test (same_a x.0 y.0)
      (λ s.
      let e = o_a.same_eq x.0 y.0 s in
      let t : lt_a x.0 y.0 ≡ false = rw e (o_a.irrefl y.0) in
      let u : lt_a y.0 x.0 ≡ false = rw e (o_a.irrefl y.0) in
      simp (s, t, u))
      (λ s. by_test (lt_a x.0 y.0)
      (λ t. simp (s, t))
      (λ t. let u = o_a.connex x.0 y.0 s t in simp (s, t, u)))

  pub pairs_both : Ordered (lex_both lt_a lt_b) (both_same same_a same_b)
  pairs_both = subst (λ (lt : A × B → A × B → Bool). Ordered lt (both_same same_a same_b)) (fun_ext (λ x. fun_ext (agree x))) (pairs o_a o_b)
