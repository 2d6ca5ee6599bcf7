-- `is_less` meets its contract: the derived order compares one field after the other, as the definition does.
use Prim.Native.Nat.{ℕ, ◌<◌, ◌≤◌}
use borrow.Author.Tests.{eq-eqb, ne_eqb, ltb-true, ltb-false}
use mathlib.Core.Path.{◌≡◌, refl, ◌∙◌}
use mathlib.Core.Bool.{Bool, true, false, cond}
use lib.Dec.{ltb}
use lib.IntN.{ℤ}
use Rattle.std.proofs.Common.{Ordering, rules, arith}
use Rattle.std.specs.Prelude.{Option, Some}
use Rattle.std.specs.Int.Signed.{lt_z}
use Rattle.std.specs.Ordering.{is_lt, is_some_and, partial_ordering_then, int_cmp, nat_cmp, bool_cmp}
use Rattle.lists.proofs.ListLaws.{by_test}
use Rattle.composition_shortcuts.specs.Candidates.{is_less, view_rank}
use Rattle.composition_shortcuts.proofs.candidate.is_less.Goals as goal

lower : (x y : ℕ) → y < x → x ≡ y → ⊥
lower x y l q = omega arith

level : (x y : ℕ) → y ≤ x → x ≤ y → x ≡ y
level x y l k = omega arith

module _ (rest : Option Ordering) (next : Bool) (e : is_some_and is_lt rest ≡ next) where
  by_integer : (x y : ℤ) → is_some_and is_lt (partial_ordering_then (Some (int_cmp x y)) rest) ≡ cond (lt_z x y) true (cond (lt_z y x) false next)
  by_integer x y = by_test (lt_z x y) (λ t. simp t) (λ t. by_test (lt_z y x) (λ u. simp (t, u)) (λ u. simp (t, u) e))

  by_number : (x y : ℕ) → is_some_and is_lt (partial_ordering_then (Some (nat_cmp x y)) rest) ≡ cond (ltb x y) true (cond (ltb y x) false next)
  by_number x y = by_test (ltb x y)
      (λ t. simp t)
      (λ t. by_test (ltb y x)
      (λ u. simp (t, u, ne_eqb x y (λ q. lower x y (ltb-true y x u) q)))
      (λ u. simp (t, u, eq-eqb x y (level x y (ltb-false x y t) (ltb-false y x u))) e))

  by_view : (x y : Bool) → is_some_and is_lt (partial_ordering_then (Some (bool_cmp x y)) rest) ≡ cond (ltb (view_rank x) (view_rank y)) true (cond (ltb (view_rank y) (view_rank x)) false next)
  by_view true true = e
  by_view true false = refl
  by_view false true = refl
  by_view false false = e

pub returns : goal.returns
unfolding is_less
returns c =
    let a = c.args.a in
    let b = c.args.b in
    c.lt.ensures
    ∙ by_integer _ _ (by_number _ _ (by_view _ _ (by_integer _ _ (search rules) a.z_order b.z_order) a.same_view b.same_view) a.scope_rank b.scope_rank) a.priority b.priority
