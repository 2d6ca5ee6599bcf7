-- A search among the first values.
use Rattle.std.specs.Prelude.{None, Some}
use Prim.Native.Nat.{ℕ, zero, suc, ◌+◌, ◌<◌}
use mathlib.Core.Path.{◌≡◌, refl, sym, ap, ◌∙◌}
use mathlib.Core.Bool.{Bool, true, false}
use mathlib.Core.List.{List, [], ◌∷◌, ◌++◌}
use native.Mathlib.Omega.{arith}
use lib.Dec.{eqb}
use borrow.Author.Tests.{eqb-true, eqb-false}
use Rattle.lists.specs.Lists.{first}
use Rattle.lists.specs.Tables.{Shape, entries_of}
use Rattle.lists.proofs.ListLaws.{first_append, by_test}
use Rattle.slices.specs.Parts.{table, least, table_of}
use Rattle.slices.proofs.ValueLaws.{table_more, table_shown}

module _ {E : Type 0} (p : E → Bool) (g : ℕ → E) where
  pub search_none : first p (table g 0) ≡ None
  unfolding table
  search_none = refl

  -- not found so far, and not here
  pub search_more : (i : ℕ) → first p (table g i) ≡ None → p (g i) ≡ false → first p (table g (i + 1)) ≡ None
  search_more i h t = ap (first p) (table_more g i) ∙ first_append p (table g i) (g i ∷ []) h ∙ rw t

  here : (i : ℕ) → first p (table g i) ≡ None → p (g i) ≡ true → first p (table g (suc i)) ≡ Some (g i)
  unfolding table
  here i h t = first_append p (table g i) (g i ∷ []) h ∙ rw t

  kept : (n : ℕ) (e : E) → first p (table g n) ≡ Some e → first p (table g (suc n)) ≡ Some e
  unfolding table
  kept n e h = found (table g n) (g n ∷ []) e h
    where
      found : (a b : List E) (e : E) → first p a ≡ Some e → first p (a ++ b) ≡ Some e
      found [] b e h = absurd (let z : ◌≡◌ {A = ℕ} 0 1 = cc in omega arith)
      found (x ∷ a) b e h = by_test (p x) (λ t. simp t (simp t at h)) (λ t. simp t (found a b e (simp t at h)))

  -- found here
  pub search_here : (n i : ℕ) → i < n → first p (table g i) ≡ None → p (g i) ≡ true → first p (table g n) ≡ Some (g i)
  search_here zero i l h t = absurd (omega arith)
  search_here (suc n) i l h t = by_test (eqb i n)
      (λ e. let is : i ≡ n = eqb-true i n e in ap (λ (m : ℕ). first p (table g (suc m))) (sym is) ∙ here i h t)
      (λ e. let apart : i ≡ n → ⊥ = eqb-false i n e in kept n (g i) (search_here n i (omega (arith, apart)) h t))

-- the same in a table
module _ {E T : Type 0} (s : Shape E T) (p : E → Bool) (g : ℕ → E) (k : ℕ) where
  pub shown_here : (i : ℕ) → i < least k s.size → first p (table g i) ≡ None → p (g i) ≡ true → first p (entries_of s (table_of s g k)) ≡ Some (g i)
  shown_here i l h t = ap (first p) (table_shown s g k) ∙ search_here p g (least k s.size) i l h t

  pub shown_none : (i : ℕ) → i ≡ least k s.size → first p (table g i) ≡ None → first p (entries_of s (table_of s g k)) ≡ None
  shown_none i e h = ap (first p) (table_shown s g k ∙ ap (table g) (sym e)) ∙ h
