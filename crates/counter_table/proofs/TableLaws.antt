-- The table holds: each line is claimed of its definition in the crate that has it, and the close leaves its view as the detached record.
use Rattle.std.specs.Prelude.{None, Some, Ok, Err}
use mathlib.Core.Path.{◌≡◌, refl, sym, ap, subst, ◌∙◌}
use mathlib.Core.Bool.{true, false}
use borrow.Author.Tests.{eq-eqb}
use Rattle.lists.proofs.ListLaws.{clash}
use Rattle.geometry.proofs.Claims as geometry
use Rattle.handles.specs.declared.arena.SlotStatus.TheVariants.{Live}
use Rattle.handles.specs.declared.GenerationalHandle.{GenerationalHandle}
use Rattle.handles.specs.Handles.{same_handle}
use Rattle.maps.specs.declared.keys.CompositionPointerId.{CompositionPointerId}
use Rattle.records.specs.declared.error.CompositionError.TheVariants.{InvalidView, StaleView}
use Rattle.composition_state.specs.declared.registry.CompositionRegistry.{CompositionRegistry}
use Rattle.records.specs.declared.view.ViewRecord.{ViewRecord}
use Rattle.composition_state.specs.Damage.{is_sound, damage_refusal}
use Rattle.records.specs.Errors.{number_of, Outcome}
use Rattle.records.specs.Layers.{is_live}
use Rattle.records.specs.Surfaces.{surface_status, surface_refusal}
use Rattle.records.specs.Views.{view_at, view_status}
use Rattle.composition_state.proofs.SettleLaws.{without_value, then_last, accepted_is}
use Rattle.composition_input.specs.Captures.{primary}
use Rattle.composition_input.specs.Focus.{own_view, set_focus}
use Rattle.composition_shortcuts.proofs.ClaimLaws as shortcuts
use Rattle.composition_close.specs.Claims.{Holds}
use Rattle.composition_close.specs.Close.{close_refusal, detached, freed, closed_panel, slot_refusal, close_settled, close_after, close_surface}
use Rattle.composition_close.specs.Detach.{detached_view}
use Rattle.composition_close.proofs.ClaimLaws as closes
use Rattle.composition_soundness.proofs.CaseLaws.{refused≢accepted, status_live}
use Rattle.composition_soundness.proofs.ChangeLaws.{view_of_lem}
use Rattle.composition_soundness.proofs.PartLaws.{Parts, parts}
use Rattle.input_events.proofs.ClaimLaws as events
use Rattle.registry_book.proofs.HeldLaws.{apart}
use Rattle.registry_book.proofs.ViewLaws.{record_own}
use Rattle.counter_table.proofs.RouteLaws.{pressure_routed, tilt_routed, selection_routed}
use Rattle.counter_table.specs.Table.{before, after, CounterTable}
use Rattle.composition_state.specs.Registry.{outcome_of}

-- a live view is none that is not
other_view : (r : CompositionRegistry) (view own : GenerationalHandle) → is_live (view_status r.views own) ≡ true → is_live (view_status r.views view) ≡ false → same_handle own view ≡ false
other_view r view own live unknown = apart view own (λ q. clash (ap (λ (k : GenerationalHandle). is_live (view_status r.views k)) q ∙ live) unknown)

unknown_view_lem : (r : CompositionRegistry) (view h : GenerationalHandle) → is_sound r ≡ true → surface_status r.surfaces h ≡ Live
    → is_live (view_status r.views (own_view r h)) ≡ true → is_live (view_status r.views view) ≡ false
    → number_of (set_focus r view (Some h) r.revision).outcome ≡ 17
unfolding set_focus
unknown_view_lem r view h sound live own unknown = rw (sound, eq-eqb r.revision r.revision refl, live, other_view r view (own_view r h) own unknown)

module _ (r : CompositionRegistry) (p : Parts r) (a : GenerationalHandle) where
  -- the close found its view live
  live_view : (o : Outcome) → close_refusal r a ≡ o → outcome_of (close_after o r a) ≡ Ok tt → view_status r.views (own_view r a) ≡ Live
  live_view (Ok _) q y = status_live (view_status r.views (own_view r a)) InvalidView StaleView (then_last (surface_refusal r.surfaces a) _ (then_last (damage_refusal r) _ q))
  live_view (Err e) q y = refused≢accepted y

  -- an accepted close leaves the view's detached record
  left : (o : Outcome) → close_refusal r a ≡ o → outcome_of (close_after o r a) ≡ Ok tt → view_at (close_after o r a).registry.views (own_view r a) ≡ detached_view r.surfaces (before r a) a
  unfolding close_settled freed detached
  left (Ok _) q y =
      ap (λ (x : CompositionRegistry). view_at x.views (own_view r a)) (accepted_is (slot_refusal r a) (detached a r) (closed_panel a r) (sym (without_value _ _) ∙ y))
      ∙ record_own r p (own_view r a) (live_view (Ok tt) q y) (detached_view r.surfaces (before r a) a)
  left (Err e) q y = refused≢accepted y

  closed : outcome_of (close_surface r a) ≡ Ok tt → after r a ≡ detached_view r.surfaces (before r a) a
  unfolding close_surface
  closed y = left (close_refusal r a) refl y

  closes_apart : outcome_of (close_surface r a) ≡ Ok tt → (b : GenerationalHandle) (q : CompositionPointerId) → same_handle a b ≡ false → Holds (before r a) q a → Holds (before r a) primary b
      → ((after r a).pointer_capture ≡ None) × Holds (after r a) primary b
  unfolding close_surface
  closes_apart y b q other has-a has-b =
      subst (λ (v : ViewRecord). (v.pointer_capture ≡ None) × Holds v primary b) (sym (closed y))
      ((closes.claims).captures_apart r.surfaces (before r a) a b q primary (view_of_lem r p (own_view r a) (live_view (close_refusal r a) refl y)).captured.rise other has-a has-b)

pub table : CounterTable
table =
    let g = (geometry.claims).counter_rows in
    record {
      rectangle = (g.left_edge, g.right_inside, g.left_outside, g.right_edge);
      double_scale = (g.half_up, g.half_down);
      least_scale = (g.in_range, g.past_range);
      cancelling_matrix = λ tx ty. (g.accepted tx ty, g.always_skipped tx ty);
      pressure_and_tilt = λ p c. ((events.claims).pressure p c, (events.claims).tilt p c);
      pressure_routed = λ r t e p x is contact. (pressure_routed r t e x p is contact, tilt_routed r t e x p is contact);
      selection = (events.claims).selection;
      selection_routed = λ r t e c x is long. selection_routed r t e x c is long;
      observe_panel = λ r h o. ((shortcuts.claims).observe_many r h o, (shortcuts.claims).observe_one r h o, (shortcuts.claims).observe_none r h o);
      unknown_view_lem = unknown_view_lem;
      captures_apart = λ r a b p u y other nine has-a has-b. closes_apart r (parts r u) a y b p other has-a has-b;
    }
