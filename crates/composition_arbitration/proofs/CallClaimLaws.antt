-- The claims about `arbitrate`, by the cases of its refusal and of the shortcut's winner.
use Rattle.records.specs.Errors.{Outcome}
use Rattle.std.specs.Prelude.{Option, None, Some, Result, Ok, Err}
use Rattle.std.specs.Result.{result_and}
use Prim.Native.Nat.{◌+◌}
use mathlib.Core.Path.{◌≡◌, refl, ap, ◌∙◌}
use mathlib.Core.Bool.{false}
use mathlib.Core.List.{List, [], ◌∷◌}
use lib.Dec.{eqb}
use Rattle.lists.specs.Numbers.{max_u64}
use Rattle.lists.specs.Tables.{entries_of}
use Rattle.lists.proofs.TableLaws.{entries_packed}
use Rattle.handles.specs.declared.GenerationalHandle.{GenerationalHandle}
use Rattle.records.specs.declared.error.CompositionError.{CompositionError}
use Rattle.records.specs.declared.error.CompositionError.TheVariants.{RevisionExhausted}
use Rattle.composition_state.specs.declared.registry.CompositionRegistry.{CompositionRegistry}
use Rattle.records.specs.declared.trace.ArbitrationEvent.{ArbitrationEvent}
use Rattle.records.specs.declared.trace.ArbitrationEvent.TheVariants.{SystemShortcut}
use Rattle.records.specs.Traces.{Hits, hits as state_hits, deliveries}
use Rattle.records.specs.declared.view.ViewRecord.{ViewRecord}
use Rattle.composition_state.specs.Damage.{damage_refusal}
use Rattle.composition_state.specs.Registry.{with_revision, settled}
use Rattle.records.specs.Traces.{hits as state_hits, deliveries}
use Rattle.records.specs.Views.{view_at, view_refusal}
use Rattle.view_panels.specs.Panels.{Panel}
use Rattle.composition_state.proofs.SettleLaws.{then_last, if_accepted, refused_early, settled_accepted, accepted_is}
use Rattle.composition_shortcuts.specs.Resolve.{resolved_outcome, resolved_panel}
use Rattle.composition_arbitration.specs.declared.arbitrate.ArbitrationResult.{ArbitrationResult}
use Rattle.composition_arbitration.specs.declared.walk.Walked.{Walked}
use Rattle.composition_arbitration.specs.Arbitration.{TakingPart, everyone, own_hits, hits_refusal, resolution_of, resolution_among, alone, or_alone, walk_over, arbitration_among, next_revision, arbitrate_refusal, trace_of, with_trace, result_at, concluded, arbitrated_among, arbitrated}
use Rattle.composition_arbitration.specs.Layers.{verdict_of, walk_of}
use Rattle.composition_arbitration.specs.Targets.{chosen}
use Rattle.composition_arbitration.specs.Claims.{EndsWith, new_trace, ArbitrationClaims}
use Rattle.composition_arbitration.proofs.ClaimLaws as walk

-- an answer with a value is that of an accepted outcome, and one without a value is the refusal
pub accepted_value : {T : Type 0} (o : Outcome) (v x : T) → ◌≡◌ {A = Result T CompositionError} (result_and o (Ok v)) (Ok x) → (o ≡ Ok tt) × (v ≡ x)
accepted_value (Ok _) v x q = (refl, cc)
accepted_value (Err e) v x q = cc

pub refused_value : {T : Type 0} (o : Outcome) (v : T) (e : CompositionError) → ◌≡◌ {A = Result T CompositionError} (result_and o (Ok v)) (Err e) → o ≡ Err e
refused_value (Ok _) v e q = cc
refused_value (Err f) v e q = cc

-- once all checks have passed, the revision is not the last
pub room : (r : CompositionRegistry) (view : GenerationalHandle) (own : Hits) (shortcut : Outcome) → arbitrate_refusal r view own shortcut ≡ Ok tt → eqb r.revision max_u64 ≡ false
room r view own shortcut h =
    if_accepted (eqb r.revision max_u64) RevisionExhausted
    (then_last shortcut _ (then_last (hits_refusal own) _ (then_last (view_refusal r.views view) _ (then_last (damage_refusal r) _ h))))

module _ (part : TakingPart) (r : CompositionRegistry) (view : GenerationalHandle) (event : ArbitrationEvent) (h : Hits) where
  abbrev own : Hits
  own = own_hits event h

  abbrev shortcut : Outcome
  shortcut = resolved_outcome (resolution_among part r view event)

  -- the registry that an accepted call leaves, before its revision is raised
  abbrev changed : CompositionRegistry
  changed = with_trace (trace_of (next_revision r.revision) view event own (arbitration_among part r view event h)) r

  -- what it answers, if it is accepted
  abbrev answer : ArbitrationResult
  answer = result_at (settled (arbitrate_refusal r view own shortcut) r changed).registry.revision (arbitration_among part r view event h)

  refused_call : (e : CompositionError) → (arbitrated_among part r view event h).outcome ≡ Err e → (arbitrated_among part r view event h).registry ≡ r
  unfolding concluded
  refused_call e t =
      let o = arbitrate_refusal r view own shortcut in
      refused_early o r changed e (room r view own shortcut) (refused_value (settled o r changed).outcome answer e t)

  accepted_call : (x : ArbitrationResult) → (arbitrated_among part r view event h).outcome ≡ Ok x
      → (arbitrated_among part r view event h).registry ≡ with_revision (r.revision + 1) (with_trace (new_trace part r view event h) r)
  unfolding concluded
  accepted_call x t =
      let o = arbitrate_refusal r view own shortcut in
      let done = (accepted_value (settled o r changed).outcome answer x t).0 in
      let raised = room r view own shortcut (settled_accepted o r changed done) in
      accepted_is o r changed done ∙ rw raised

-- ---- who takes the event
alone_ends : (g s : GenerationalHandle) → (alone g).consumed_by ≡ Some s → EndsWith (record { surface = s; observed = false }) (entries_of deliveries (alone g).deliveries)
unfolding alone
alone_ends g s t =
    let same : g ≡ s = cc in
    record { front = []; is = entries_packed deliveries _ ∙ (λ j. record { surface = same j; observed = false } ∷ []) }

walk_ends : (v : ViewRecord) (panels : List Panel) (event : ArbitrationEvent) (h : Hits) (s : GenerationalHandle)
    → (walk_over v panels event h).consumed_by ≡ Some s → EndsWith (record { surface = s; observed = false }) (entries_of deliveries (walk_over v panels event h).deliveries)
unfolding walk_over walk_of
walk_ends v panels event h s t =
    let e = (walk.claims).consumer_last (verdict_of (chosen event v) (entries_of state_hits h)) panels s t in
    record { front = e.front; is = entries_packed deliveries _ ∙ e.is }

either_ends : (winner : Option GenerationalHandle) (w : Walked) (s : GenerationalHandle)
    → (w.consumed_by ≡ Some s → EndsWith (record { surface = s; observed = false }) (entries_of deliveries w.deliveries))
    → (or_alone winner w).consumed_by ≡ Some s → EndsWith (record { surface = s; observed = false }) (entries_of deliveries (or_alone winner w).deliveries)
either_ends (Some g) w s f t = alone_ends g s t
either_ends None w s f t = f t

winner_only : (winner : Option GenerationalHandle) (w : Walked) (s : GenerationalHandle) → winner ≡ Some s
    → (entries_of deliveries (or_alone winner w).deliveries ≡ record { surface = s; observed = false } ∷ []) × ((or_alone winner w).consumed_by ≡ Some s)
unfolding alone
winner_only winner w s t = (rw t (entries_packed deliveries _), rw t)

pub claims : ArbitrationClaims
unfolding resolution_of
claims = record {
  refused = refused_call;
  accepted = accepted_call;
  consumer_last = λ part r view event h s t.
      let v = view_at r.views view in
      let own = own_hits event h in
      either_ends (resolved_panel (resolution_among part r view event)) (walk_over v part.panels event own) s (walk_ends v part.panels event own s) t;
  winner_alone = λ part r view s mask h t. winner_only (resolved_panel (resolution_among part r view (SystemShortcut mask))) _ s (ap resolved_panel t);
}

-- ---- of everyone
pub refused : (r : CompositionRegistry) (view : GenerationalHandle) (event : ArbitrationEvent) (h : Hits) (e : CompositionError)
    → (arbitrated r view event h).outcome ≡ Err e → (arbitrated r view event h).registry ≡ r
unfolding arbitrated
refused r view event h e t = claims.refused (everyone r view) r view event h e t

pub accepted : (r : CompositionRegistry) (view : GenerationalHandle) (event : ArbitrationEvent) (h : Hits)
    → (x : ArbitrationResult) → (arbitrated r view event h).outcome ≡ Ok x
    → (arbitrated r view event h).registry ≡ with_revision (r.revision + 1) (with_trace (new_trace (everyone r view) r view event h) r)
unfolding arbitrated
accepted r view event h x t = claims.accepted (everyone r view) r view event h x t
