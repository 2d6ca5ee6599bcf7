-- An arbitration by its decision: an accepted one keeps the trace that was decided, and a refused one leaves the registry as it came.
use Rattle.std.specs.Prelude.{Ok, Err}
use Rattle.records.specs.Errors.{Outcome}
use Rattle.composition_shortcuts.specs.Resolve.{resolved_outcome}
use mathlib.Core.Path.{◌≡◌, refl, ap, ◌∙◌}
use Rattle.handles.specs.declared.GenerationalHandle.{GenerationalHandle}
use Rattle.records.specs.declared.error.CompositionError.{CompositionError}
use Rattle.composition_state.specs.declared.registry.CompositionRegistry.{CompositionRegistry}
use Rattle.records.specs.declared.trace.ArbitrationEvent.{ArbitrationEvent}
use Rattle.records.specs.declared.trace.CompositionTrace.{CompositionTrace}
use Rattle.records.specs.Traces.{Hits}
use Rattle.composition_state.specs.Damage.{damage_refusal}
use Rattle.composition_state.specs.Registry.{advanced}
use Rattle.composition_arbitration.specs.declared.arbitrate.Decision.{Decision}
use Rattle.composition_arbitration.specs.Arbitration.{Arbitrated}
use Rattle.composition_arbitration.specs.Arbitration.{TakingPart, everyone, own_hits, resolution_among, arbitration_among, arbitrate_refusal, next_revision, trace_of, concluded, arbitrated_among, arbitrated}
use Rattle.composition_arbitration.specs.Decisions.{decision_with, decided_with, decided_among, decision, decided, accepted_trace, result_of, kept_in}
use Rattle.composition_arbitration.proofs.CallClaimLaws.{accepted_value, refused_value, room}

-- the two answers
abbrev pub accepted_with : CompositionRegistry → CompositionTrace → Arbitrated
accepted_with r t = record { outcome = Ok (result_of t); registry = kept_in r t }

abbrev pub refused_by : CompositionError → CompositionRegistry → Arbitrated
refused_by e r = record { outcome = Err e; registry = r }

module _ (part : TakingPart) (r : CompositionRegistry) (view : GenerationalHandle) (event : ArbitrationEvent) (h : Hits) where
  abbrev refusal : Outcome
  refusal = arbitrate_refusal r view (own_hits event h) (resolved_outcome (resolution_among part r view event))

  abbrev trace : CompositionTrace
  trace = trace_of (next_revision r.revision) view event (own_hits event h) (arbitration_among part r view event h)

  pub accepted_among : (t : CompositionTrace) → decided_among part (damage_refusal r) r view event h ≡ Ok t
      → arbitrated_among part r view event h ≡ accepted_with r t
  unfolding concluded decision_with decided_with advanced
  accepted_among t q =
      let m = accepted_value refusal trace t q in
      let kept : arbitrated_among part r view event h ≡ accepted_with r trace =
      rw (m.0, room r view (own_hits event h) (resolved_outcome (resolution_among part r view event)) m.0) in
      kept ∙ ap (accepted_with r) m.1

  pub refused_among : (e : CompositionError) → decided_among part (damage_refusal r) r view event h ≡ Err e → arbitrated_among part r view event h ≡ refused_by e r
  unfolding concluded decision_with decided_with
  refused_among e q = rw (refused_value refusal trace e q)

-- the trace of a decision that refuses nothing, and the refusal of another
pub accepts : (d : Decision) → d.outcome ≡ Ok tt → accepted_trace d ≡ Ok d.trace
accepts d h = rw h

pub refuses : (d : Decision) (e : CompositionError) → d.outcome ≡ Err e → accepted_trace d ≡ Err e
refuses d e h = rw h

-- a decision on everyone says what is decided
pub same_decision : (damage : Outcome) (r : CompositionRegistry) (view : GenerationalHandle) (event : ArbitrationEvent) (h : Hits) → accepted_trace (decision damage r view event h) ≡ decided damage r view event h
unfolding decision decided decided_with
same_decision damage r view event h = refl

module _ (r : CompositionRegistry) (view : GenerationalHandle) (event : ArbitrationEvent) (h : Hits) where
  pub accepted : (t : CompositionTrace) → decided (damage_refusal r) r view event h ≡ Ok t → arbitrated r view event h ≡ accepted_with r t
  unfolding arbitrated decided
  accepted t q = accepted_among (everyone r view) r view event h t q

  pub refused : (e : CompositionError) → decided (damage_refusal r) r view event h ≡ Err e → arbitrated r view event h ≡ refused_by e r
  unfolding arbitrated decided
  refused e q = refused_among (everyone r view) r view event h e q
