-- A refused close of a panel: its checks leave all, 22 the panel out of its view, 21 the whole change.
use Rattle.std.specs.Prelude.{Ok, Err}
use Prim.Native.Nat.{ℕ}
use mathlib.Core.Path.{◌≡◌, refl, sym, ap, ◌∙◌}
use mathlib.Core.Bool.{Bool, not, ◌&&◌}
use borrow.Author.Tests.{not-true}
use lib.Dec.{eqb}
use Rattle.lists.proofs.ListLaws.{and_left, and_right}
use Rattle.handles.specs.Slots.{released}
use Rattle.handles.specs.Slots.{ReleaseOutcome}
use Rattle.handles.specs.declared.arena.ReleaseError.TheVariants as release
use Rattle.handles.specs.declared.GenerationalHandle.{GenerationalHandle}
use Rattle.records.specs.declared.error.CompositionError.{CompositionError}
use Rattle.records.specs.declared.error.CompositionError.TheVariants.{InvalidView, StaleView, InvalidSurface, StaleSurface, Damaged}
use Rattle.composition_state.specs.Damage.{is_sound}
use Rattle.records.specs.Errors.{error_number, Outcome}
use Rattle.composition_state.specs.Registry.{outcome_of, advanced, settled}
use Rattle.records.specs.Surfaces.{surface_status}
use Rattle.records.specs.Views.{view_status}
use Rattle.composition_panels.specs.Windows.{exhausted_refusal}
use Rattle.composition_close.specs.Close.{close_refusal, detached, freed, closed_panel, close_settled, close_after, close_surface}
use Rattle.composition_close.specs.Detach.{own_view}
use Rattle.counter.specs.declared.step.Counter.{Counter}
use Rattle.refusals.specs.Written.{close_written}
use Rattle.refusals.proofs.LateLaws.{without_value, same_error, advanced_late, at, KeptAt}
use Rattle.refusals.proofs.LeftLaws.{panel_out_lem}
use Rattle.refusals.proofs.NumberLaws.{Within, if_within, status_within, then_within}

-- the checks before any change answer neither 21 nor 22
abbrev is_early : ℕ → Bool
is_early n = not (eqb n 21) && not (eqb n 22)

module _ (c : Counter) (h : GenerationalHandle) where
  checks : Within is_early (close_refusal c.registry h)
  checks =
      then_within (if_within is_early (not (is_sound c.registry)) Damaged refl)
      (then_within (status_within is_early (surface_status c.registry.surfaces h) InvalidSurface StaleSurface refl refl)
      (status_within is_early (view_status c.registry.views (own_view c.registry.surfaces h)) InvalidView StaleView refl refl))

  -- the whole change, which 21 alone refuses
  whole : (e : CompositionError) → (advanced (closed_panel h c.registry)).outcome ≡ Err e
      → KeptAt c (advanced (closed_panel h c.registry)).registry (close_written c.registry h (error_number e)) (error_number e)
  whole e q =
      let l = advanced_late (closed_panel h c.registry) e q in
      let stays = l.stays ∙ ap (freed h) (panel_out_lem h c.registry) in
      rw (sym l.last) (record { leaves = ap (at c) stays; comes_with_lem = refl; unlisted = refl })

  -- after the checks: the slot's release decides
  slot : (o : ReleaseOutcome) (e : CompositionError) → (settled (exhausted_refusal o) (detached h c.registry) (closed_panel h c.registry)).outcome ≡ Err e
      → KeptAt c (settled (exhausted_refusal o) (detached h c.registry) (closed_panel h c.registry)).registry (close_written c.registry h (error_number e)) (error_number e)
  slot (Ok _) e q = whole e q
  slot (Err release.Invalid) e q = whole e q
  slot (Err release.Stale) e q = whole e q
  slot (Err release.GenerationExhausted) e q =
      let out = panel_out_lem h c.registry in
      rw (sym (same_error q)) (record { leaves = ap (at c) out; comes_with_lem = refl; unlisted = refl })

  after : (o : Outcome) → Within is_early o → (e : CompositionError) → outcome_of (close_after o c.registry h) ≡ Err e
      → KeptAt c (close_after o c.registry h).registry (close_written c.registry h (error_number e)) (error_number e)
  unfolding close_settled
  after (Ok _) n e q = slot (released c.registry.surfaces.arena h).outcome e (without_value _ _ e q)
  after (Err f) n e q =
      let no-21 = not-true (eqb (error_number f) 21) (and_left (not (eqb (error_number f) 21)) _ n.is) in
      let no-22 = not-true (eqb (error_number f) 22) (and_right (not (eqb (error_number f) 21)) _ n.is) in
      rw (sym (same_error q), no-21, no-22) (record { leaves = refl; comes_with_lem = refl; unlisted = refl })

  pub close_kept : (e : CompositionError) → outcome_of (close_surface c.registry h) ≡ Err e
      → KeptAt c (close_surface c.registry h).registry (close_written c.registry h (error_number e)) (error_number e)
  unfolding close_surface
  close_kept e q = after (close_refusal c.registry h) checks e q
