-- The orders of numbers, of pairs and of what is told apart by such a key are strict orders: each law by the cases of the tests.
use mathlib.Core.Path.{◌≡◌, refl, sym, ◌∙◌}
use mathlib.Core.Bool.{Bool, true, false}
use Prim.Native.Nat.{ℕ, ◌<◌, ◌≤◌}
use native.Mathlib.Omega.{arith}
use lib.Dec.{ltb, eqb}
use borrow.Author.Tests.{lt-ltb, le-ltb, ltb-true, ltb-false, eq-eqb, eqb-true, eqb-false}
use Rattle.lists.specs.Orders.{Ordered, lex_lt, both_same, pair_lt, pair_same, triple_lt, triple_same, quad_lt, quad_same}
use Rattle.lists.proofs.ListLaws.{by_test, clash}

above : (a b : ℕ) → (a ≡ b → ⊥) → b ≤ a → b < a
above a b n h = omega arith

pub number : Ordered ltb eqb
number = record {
  same_refl = λ k. eq-eqb k k refl;
  same_eq = eqb-true;
  irrefl = λ k. le-ltb k k (omega arith);
  trans = λ a b c t u. let p = ltb-true a b t in let q = ltb-true b c u in lt-ltb a c (omega arith);
  connex = λ a b s t. lt-ltb b a (above a b (eqb-false a b s) (ltb-false a b t));
}

module _ {A B : Type 0} {lt_a same_a : A → A → Bool} {lt_b same_b : B → B → Bool} (o_a : Ordered lt_a same_a) (o_b : Ordered lt_b same_b) where
  lt_apart : (x y : A) → lt_a x y ≡ true → same_a x y ≡ false
  lt_apart x y t = by_test (same_a x y) (λ s. clash t (rw (o_a.same_eq x y s) (o_a.irrefl y))) (λ s. s)

  by_first : (x y : A × B) → lt_a x.0 y.0 ≡ true → lex_lt same_a lt_a lt_b x y ≡ true
  by_first x y t = simp (lt_apart x.0 y.0 t, t)

  by_second : (x y : A × B) → x.0 ≡ y.0 → lt_b x.1 y.1 ≡ true → lex_lt same_a lt_a lt_b x y ≡ true
  by_second x y e t = let s : same_a x.0 y.0 ≡ true = rw e (o_a.same_refl y.0) in simp (s, t)

  pub pairs : Ordered (lex_lt same_a lt_a lt_b) (both_same same_a same_b)
  pairs = record {
    same_refl = λ k. simp (o_a.same_refl k.0, o_b.same_refl k.1);
    same_eq = λ a b t. by_test (same_a a.0 b.0)
        (λ s. let u : same_b a.1 b.1 ≡ true = simp s at t in λ i. (o_a.same_eq a.0 b.0 s i, o_b.same_eq a.1 b.1 u i))
        (λ s. clash refl (sym (simp s at t)));
    irrefl = λ k. simp (o_a.same_refl k.0, o_b.irrefl k.1);
    trans = λ a b c t u. by_test (same_a a.0 b.0)
        (λ p. let e = o_a.same_eq a.0 b.0 p in by_test (same_a b.0 c.0)
        (λ q. by_second a c (e ∙ o_a.same_eq b.0 c.0 q) (o_b.trans a.1 b.1 c.1 (simp p at t) (simp q at u)))
        (λ q. by_first a c (rw e (simp q at u))))
        (λ p. by_test (same_a b.0 c.0)
        (λ q. by_first a c (rw (sym (o_a.same_eq b.0 c.0 q)) (simp p at t)))
        (λ q. by_first a c (o_a.trans a.0 b.0 c.0 (simp p at t) (simp q at u))));
    connex = λ a b s t. by_test (same_a a.0 b.0)
        (λ p. by_second b a (sym (o_a.same_eq a.0 b.0 p)) (o_b.connex a.1 b.1 (simp p at s) (simp p at t)))
        (λ p. by_first b a (o_a.connex a.0 b.0 p (simp p at t)));
  }

-- the order of what is told apart by a key
module _ {K A : Type 0} (f : K → A) (one : (a b : K) → f a ≡ f b → a ≡ b) {lt same : A → A → Bool} (o : Ordered lt same) where
  pub through : Ordered (λ a b. lt (f a) (f b)) (λ a b. same (f a) (f b))
  through = record {
    same_refl = λ k. o.same_refl (f k);
    same_eq = λ a b t. one a b (o.same_eq (f a) (f b) t);
    irrefl = λ k. o.irrefl (f k);
    trans = λ a b c. o.trans (f a) (f b) (f c);
    connex = λ a b. o.connex (f a) (f b);
  }

pub pair : Ordered pair_lt pair_same
pair = pairs number number

pub triple : Ordered triple_lt triple_same
triple = pairs number pair

pub quad : Ordered quad_lt quad_same
quad = pairs number triple
