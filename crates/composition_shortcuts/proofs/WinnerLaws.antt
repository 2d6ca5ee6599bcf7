-- What the answer of a system shortcut names: the greatest of those that count, and none exactly if none counts.
use Rattle.records.specs.Errors.{Outcome}
use Rattle.std.specs.Prelude.{Option, None, Some, Ok, Err}
use Rattle.std.specs.Result.{result_and}
use Prim.Native.Nat.{ℕ}
use mathlib.Core.Path.{◌≡◌, refl, sym, ap, ◌∙◌}
use mathlib.Core.Bool.{Bool, true, false}
use mathlib.Core.Logic.{⊎_elim}
use mathlib.Core.List.{List, [], ◌∷◌, map, Memᴰ}
use Rattle.lists.specs.Lists.{keep}
use Rattle.lists.proofs.ListLaws.{by_test, clash, some≢none}
use Rattle.handles.specs.declared.GenerationalHandle.{GenerationalHandle}
use Rattle.records.specs.declared.shortcut.SlotShortcut.{SlotShortcut}
use Rattle.records.specs.Surfaces.{SurfaceTable}
use Rattle.records.specs.Views.{ViewTable}
use Rattle.composition_shortcuts.specs.declared.candidate.Candidate.{Candidate}
use Rattle.composition_shortcuts.specs.Greatest.{greatest}
use Rattle.composition_shortcuts.specs.Scope.{owner_of, counts}
use Rattle.composition_shortcuts.specs.Candidates.{candidate_of, is_less}
use Rattle.composition_shortcuts.specs.OwnView.{own_view_refusal}
use Rattle.composition_shortcuts.specs.Resolve.{Resolved, candidates, winner_of, winner}
use Rattle.composition_shortcuts.specs.Claims.{Counts, Wins}
use Rattle.composition_shortcuts.proofs.GreatestLaws.{greatest_none, greatest_among, greatest_top}
use Rattle.composition_shortcuts.proofs.CandidateLaws.{order, same_candidate}

-- ---- an element of what is kept and mapped
module _ {E F : Type 0} (p : E → Bool) (f : E → F) where
  kept_in : (l : List E) (e : E) → Memᴰ e l → p e ≡ true → Memᴰ (f e) (map f (keep p l))
  kept_in [] e m t = absurd (mathlib.Core.List.Memᴰ.not-nil m)
  kept_in (x ∷ l) e m t = ⊎_elim
      (λ (s : e ≡ x). let u : p x ≡ true = ap p (sym s) ∙ t in rw u (mathlib.Core.List.Memᴰ.head (ap f s)))
      (λ (n : Memᴰ e l). by_test (p x) (λ u. rw u (mathlib.Core.List.Memᴰ.tail (kept_in l e n t))) (λ u. rw u (kept_in l e n t)))
      (mathlib.Core.List.Memᴰ.cases_cons m)

  kept_from : (l : List E) (y : F) → Memᴰ y (map f (keep p l)) → (e : E) × Memᴰ e l × (p e ≡ true) × (y ≡ f e)
  kept_from [] y m = absurd (mathlib.Core.List.Memᴰ.not-nil m)
  kept_from (x ∷ l) y m = by_test (p x)
      (λ u. ⊎_elim
      (λ (s : y ≡ f x). (x, mathlib.Core.List.Memᴰ.head refl, u, s))
      (λ (n : Memᴰ y (map f (keep p l))). let r = kept_from l y n in (r.0, mathlib.Core.List.Memᴰ.tail r.1, r.2, r.3))
      (mathlib.Core.List.Memᴰ.cases_cons (rw u at m)))
      (λ u. let r = kept_from l y (rw u at m) in (r.0, mathlib.Core.List.Memᴰ.tail r.1, r.2, r.3))

-- ---- the winner
same_handle_lem : {a b : GenerationalHandle} → Some a ≡ Some b → a ≡ b
same_handle_lem {a} {b} q = cc

-- what an accepted answer names
pub resolved_is : (o : Outcome) (w v : Option GenerationalHandle) → ◌≡◌ {A = Resolved} (result_and o (Ok w)) (Ok v) → w ≡ v
resolved_is (Ok _) w v e = cc
resolved_is (Err x) w v e = cc

-- an option by its cases, with the case at hand
pub by_option : {P : Type 0} (g : Option Candidate) → (g ≡ None → P) → ((b : Candidate) → g ≡ Some b → P) → P
by_option None f s = f refl
by_option (Some b) f s = s b refl

module _ (views : ViewTable) (surfaces : SurfaceTable) (view : GenerationalHandle) (mask : ℕ) (l : List SlotShortcut) where
  abbrev counted : SlotShortcut → Bool
  counted = counts views surfaces view mask

  abbrev compared : SlotShortcut → Candidate
  compared = candidate_of surfaces view

  abbrev listed : List Candidate
  listed = candidates views surfaces view mask l

  abbrev pub own : Outcome
  own = own_view_refusal views.arena surfaces mask l

  panel_is : (s : SlotShortcut) → (compared s).surface ≡ owner_of surfaces.arena s
  unfolding candidate_of
  panel_is s = refl

  pub wins : (h : GenerationalHandle) → winner views surfaces view mask l ≡ Some h → Wins views surfaces view mask l h
  wins h e = by_option (greatest is_less listed)
      (λ g. some≢none e (ap winner_of g))
      (λ b g.
      let is : b.surface ≡ h = same_handle_lem (sym (ap winner_of g) ∙ e) in
      let k = kept_from counted compared l b (greatest_among order listed b g) in
      record {
        registration = k.0;
        owned = sym (panel_is k.0) ∙ ap (λ (x : Candidate). x.surface) (sym k.3) ∙ is;
        counting = record { stored = k.1; counted = k.2 };
        unbeaten = λ s c. rw (sym k.3) (greatest_top order listed b g (compared s) (kept_in counted compared l s c.stored c.counted));
      })

  pub none_counts : winner views surfaces view mask l ≡ None → (s : SlotShortcut) → Counts views surfaces view mask l s → ⊥
  none_counts e s c = by_option (greatest is_less listed)
      (λ g. mathlib.Core.List.Memᴰ.not-nil (rw (greatest_none order listed g) at (kept_in counted compared l s c.stored c.counted)))
      (λ b g. some≢none (ap winner_of g) e)

  pub none_wins : ((s : SlotShortcut) → Counts views surfaces view mask l s → ⊥) → winner views surfaces view mask l ≡ None
  none_wins f = by_option (greatest is_less listed)
      (λ g. ap winner_of g)
      (λ b g. let k = kept_from counted compared l b (greatest_among order listed b g) in absurd (f k.0 (record { stored = k.1; counted = k.2 })))

pub one_winner : (a b : Candidate) → is_less a b ≡ false → is_less b a ≡ false → a.surface ≡ b.surface
one_winner a b p q = by_test (same_candidate a b)
    (λ s. ap (λ (x : Candidate). x.surface) (order.same_eq a b s))
    (λ s. clash (order.connex a b s p) q)
