-- Who gets an event is a live panel, and who takes it gets it: the panels that are walked are live panels of the view, and a shortcut's winner stands in a filled slot.
use Rattle.std.specs.Prelude.{Option, None, Some, Ok, Err}
use mathlib.Core.Path.{◌≡◌, refl, sym, ap, ◌∙◌}
use mathlib.Core.Bool.{Bool, true, false, ◌&&◌}
use mathlib.Core.List.{List, [], ◌∷◌, reverse, reverse-cons}
use borrow.Author.Tests.{ltb-true}
use lib.Dec.{ltb}
use Rattle.lists.specs.Lists.{keep, all}
use Rattle.lists.specs.Tables.{entries_of}
use Rattle.lists.proofs.ListLaws.{by_test, and_left, and_right, and_both, all_append}
use Rattle.lists.proofs.TableLaws.{entries_packed}
use Rattle.handles.specs.Slots.{slot_at, lookup_of}
use Rattle.handles.specs.declared.arena.SlotStatus.TheVariants.{Live}
use Rattle.handles.specs.declared.GenerationalHandle.{GenerationalHandle}
use Rattle.records.specs.declared.error.CompositionError.TheVariants.{InvalidView, StaleView}
use Rattle.composition_state.specs.declared.registry.CompositionRegistry.{CompositionRegistry}
use Rattle.records.specs.declared.trace.ArbitrationEvent.{ArbitrationEvent}
use Rattle.records.specs.declared.trace.ArbitrationEvent.TheVariants.{Pointer, PointerStack, PointerFor, PointerStackFor, Keyboard, KeyboardFor, Gamepad, GamepadFor, Text, Shortcut, SystemShortcut}
use Rattle.records.specs.Traces.{Deliveries, Hits, hits as state_hits, deliveries}
use Rattle.records.specs.declared.trace.InputDelivery.{InputDelivery}
use Rattle.composition_state.specs.Registry.{Changed}
use Rattle.composition_state.specs.Registry.{settled}
use Rattle.composition_state.specs.Damage.{damage_refusal}
use Rattle.records.specs.Layers.{layers, is_live, is_layer_of}
use Rattle.records.specs.Shortcuts.{shortcuts}
use Rattle.records.specs.Views.{view_at, view_status, view_refusal}
use Rattle.view_panels.specs.Panels.{Panel, panel_in, panels_in}
use Rattle.composition_state.proofs.SettleLaws.{settled_accepted, then_last}
use Rattle.composition_shortcuts.specs.Scope.{shares_bit, is_owned, counts}
use Rattle.composition_shortcuts.specs.Resolve.{Resolved, resolved_outcome, resolved_panel}
use Rattle.composition_shortcuts.proofs.ClaimLaws as shortcut
use Rattle.composition_arbitration.specs.declared.arbitrate.ArbitrationResult.{ArbitrationResult}
use Rattle.composition_arbitration.specs.declared.walk.Verdict.{Verdict}
use Rattle.composition_arbitration.specs.Arbitration.{everyone, own_hits, resolution_of, resolution, alone, or_alone, walk_over, walk_in, arbitration, next_revision, arbitrate_refusal, trace_of, with_trace, result_at, concluded, arbitrated}
use Rattle.composition_arbitration.specs.Layers.{delivers, consumes, verdict_of, delivery_from, until_consumed, walked, deliveries_of, walk_of}
use Rattle.composition_arbitration.specs.Targets.{chosen}
use Rattle.composition_arbitration.proofs.CallClaimLaws as call
use Rattle.composition_arbitration.proofs.CallClaimLaws.{accepted_value}
use Rattle.composition_soundness.proofs.CaseLaws.{then_first, status_live}
use Rattle.composition_soundness.proofs.ListLaws.{all_as, all_keep}
use Rattle.composition_soundness.proofs.LiveLaws.{filled_live}
use Rattle.composition_soundness.proofs.PartLaws.{Parts}
use Rattle.composition_soundness.proofs.ChangeLaws.{view_of_lem}
use Rattle.composition_soundness.proofs.LayerLaws.{layer_live}
use Rattle.registry_book.specs.Agreement.{is_open}
use Rattle.registry_book.proofs.ListLaws.{all_map}
use Rattle.registry_book.proofs.PrimaryLaws.{none≢some}

all_reverse : {E : Type 0} (p : E → Bool) (l : List E) → all p l ≡ true → all p (reverse l) ≡ true
all_reverse p [] h = refl
all_reverse p (e ∷ l) h =
    ap (all p) (reverse-cons e l) ∙ all_append p (reverse l) (e ∷ []) ∙ and_both (all_reverse p l (and_right (p e) (all p l) h)) (and_both (and_left (p e) (all p l) h) refl)

all_until : (at : Panel → Verdict) (p : Panel → Bool) (l : List Panel) → all p l ≡ true → all p (until_consumed at l) ≡ true
unfolding until_consumed
all_until at p [] h = refl
all_until at p (g ∷ l) h = and_both (and_left (p g) (all p l) h)
    (by_test (consumes (at g)) (λ t. rw t) (λ t. rw t (all_until at p l (and_right (p g) (all p l) h))))

-- a panel that is named is that of an answer without a refusal
named : (x : Resolved) (h : GenerationalHandle) → resolved_panel x ≡ Some h → x ≡ Ok (Some h)
named (Ok m) h q = ap (λ (o : Option GenerationalHandle). Ok o) q
named (Err e) h q = none≢some q

module _ (r : CompositionRegistry) (p : Parts r) where
  -- a delivery to a live panel
  abbrev to_open : InputDelivery → Bool
  to_open d = is_open r d.surface

  -- ---- the winner of a system shortcut
  winner_open : (v : GenerationalHandle) (e : ArbitrationEvent) (h : GenerationalHandle) → resolved_panel (resolution r v e) ≡ Some h → is_open r h ≡ true
  unfolding resolution_of counts
  winner_open v (SystemShortcut mask) h q =
      let w = (shortcut.claims).winner_wins r.views r.surfaces v mask (entries_of shortcuts r.shortcuts) h (named _ h q) in
      let s = w.registration in
      let owned = and_left (is_owned r.surfaces.arena s) _ (and_right (shares_bit s.registration.class_mask mask) _ w.counting.counted) in
      let used = ltb-true s.slot r.surfaces.arena.used (and_left (ltb s.slot r.surfaces.arena.used) _ owned) in
      let filled = and_right (ltb s.slot r.surfaces.arena.used) (slot_at r.surfaces.arena s.slot).filled owned in
      ap (is_open r) (sym w.owned) ∙ ap is_live (filled_live r.surfaces.arena _ p.surfaces s.slot used filled)
  winner_open v (Pointer hit) h q = none≢some q
  winner_open v PointerStack h q = none≢some q
  winner_open v (PointerFor pointer hit) h q = none≢some q
  winner_open v (PointerStackFor pointer) h q = none≢some q
  winner_open v Keyboard h q = none≢some q
  winner_open v (KeyboardFor target) h q = none≢some q
  winner_open v Gamepad h q = none≢some q
  winner_open v (GamepadFor target) h q = none≢some q
  winner_open v Text h q = none≢some q
  winner_open v Shortcut h q = none≢some q

  alone_open : (h : GenerationalHandle) → is_open r h ≡ true → all to_open (entries_of deliveries (alone h).deliveries) ≡ true
  unfolding alone
  alone_open h o = ap (all to_open) (entries_packed deliveries _) ∙ and_both o refl

  -- ---- the walk
  -- a panel that is live
  abbrev is_open_panel : Panel → Bool
  is_open_panel s = is_open r s.surface

  walk_open : (at : Panel → Verdict) (l : List Panel) → all is_open_panel l ≡ true → all to_open (entries_of deliveries (walk_of at l).deliveries) ≡ true
  unfolding walk_of
  walk_open at l h =
      ap (all to_open) (entries_packed deliveries (deliveries_of at (walked at l)))
      ∙ all_map (λ (s : Panel). delivery_from (at s) s.surface) to_open (keep (λ s. delivers (at s)) (walked at l))
      ∙ all_keep is_open_panel (λ s. delivers (at s)) (walked at l) (all_until at is_open_panel (reverse l) (all_reverse is_open_panel l h))

  module _ (v : GenerationalHandle) (e : ArbitrationEvent) (hits : Hits) where
    layers_open : lookup_of r.views.arena v ≡ Live → all is_open_panel (panels_in r.views r.surfaces v) ≡ true
    layers_open l =
        all_map (panel_in r.surfaces) is_open_panel (entries_of layers (view_at r.views v).surfaces)
        ∙ all_as (is_layer_of r.surfaces v) (is_open r) (λ g y. ap is_live (layer_live r.surfaces v g y)) (entries_of layers (view_at r.views v).surfaces) (view_of_lem r p v l).layered.own

    walk_in_open : lookup_of r.views.arena v ≡ Live → all to_open (entries_of deliveries (walk_in r v e (own_hits e hits)).deliveries) ≡ true
    unfolding walk_over
    walk_in_open l = walk_open (verdict_of (chosen e (view_at r.views v)) (entries_of state_hits (own_hits e hits))) (panels_in r.views r.surfaces v) (layers_open l)

    all_open : lookup_of r.views.arena v ≡ Live → all to_open (entries_of deliveries (arbitration r v e hits).deliveries) ≡ true
    all_open l = go (resolved_panel (resolution r v e)) refl
      where
        go : (m : Option GenerationalHandle) → resolved_panel (resolution r v e) ≡ m → all to_open (entries_of deliveries (or_alone m (walk_in r v e (own_hits e hits))).deliveries) ≡ true
        go (Some h) q = alone_open h (winner_open v e h q)
        go None q = walk_in_open l

    -- ---- an accepted call
    abbrev call_settled : Changed
    call_settled = settled (arbitrate_refusal r v (own_hits e hits) (resolved_outcome (resolution r v e))) r
        (with_trace (trace_of (next_revision r.revision) v e (own_hits e hits) (arbitration r v e hits)) r)

    abbrev answer : ArbitrationResult
    answer = result_at call_settled.registry.revision (arbitration r v e hits)

    module _ (x : ArbitrationResult) (y : (arbitrated r v e hits).outcome ≡ Ok x) where
      accepted_as : (call_settled.outcome ≡ Ok tt) × (answer ≡ x)
      unfolding arbitrated concluded
      accepted_as = accepted_value call_settled.outcome answer x y

      event_view : lookup_of r.views.arena v ≡ Live
      event_view = status_live (view_status r.views v) InvalidView StaleView (then_first (view_refusal r.views v) _ (then_last (damage_refusal r) _
          (settled_accepted (arbitrate_refusal r v (own_hits e hits) (resolved_outcome (resolution r v e))) r _ accepted_as.0)))

      told_deliveries : x.deliveries ≡ (arbitration r v e hits).deliveries
      told_deliveries = ap (λ (a : ArbitrationResult). a.deliveries) (sym accepted_as.1)

      told_consumer : x.consumed_by ≡ (arbitration r v e hits).consumed_by
      told_consumer = ap (λ (a : ArbitrationResult). a.consumed_by) (sym accepted_as.1)

      pub delivered : all (λ d. is_open r d.surface) (entries_of deliveries x.deliveries) ≡ true
      delivered = ap (λ (t : Deliveries). all to_open (entries_of deliveries t)) told_deliveries ∙ all_open event_view

      pub consumed : (h : GenerationalHandle) → x.consumed_by ≡ Some h → is_open r h ≡ true
      consumed h q =
          let z = (call.claims).consumer_last (everyone r v) r v e hits h (sym told_consumer ∙ q) in
          let d : InputDelivery = record { surface = h; observed = false } in
          let both = sym (all_append to_open z.front (d ∷ [])) ∙ ap (all to_open) (sym z.is) ∙ all_open event_view in
          and_left (is_open r h) true (and_right (all to_open z.front) (is_open r h && true) both)
