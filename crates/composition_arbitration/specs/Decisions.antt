-- What is decided of an event before anything is written, so that a caller who has tested the registry for damage need
-- not have it tested again.
use Rattle.records.specs.Errors.{Outcome}
use Rattle.std.specs.Prelude.{ℕ, List, Result, Ok}
use Rattle.std.specs.Result.{result_and}
use Rattle.records.specs.declared.error.CompositionError.{CompositionError}
use Rattle.handles.specs.declared.GenerationalHandle.{GenerationalHandle}
use Rattle.composition_state.specs.declared.registry.CompositionRegistry.{CompositionRegistry}
use Rattle.records.specs.declared.trace.ArbitrationEvent.{ArbitrationEvent}
use Rattle.records.specs.declared.trace.CompositionTrace.{CompositionTrace}
use Rattle.records.specs.Traces.{Hits}
use Rattle.records.specs.declared.view.ViewRecord.{ViewRecord}
use Rattle.records.specs.Views.{view_at, view_refusal}
use Rattle.view_panels.specs.Panels.{Panel}
use Rattle.composition_state.specs.Registry.{with_traces, with_revision}
use Rattle.composition_shortcuts.specs.Resolve.{Resolved, resolved_outcome, resolved_panel}
use Rattle.composition_arbitration.specs.declared.arbitrate.ArbitrationResult.{ArbitrationResult}
use Rattle.composition_arbitration.specs.declared.arbitrate.Decision.{Decision}
use Rattle.composition_arbitration.specs.Arbitration.{TakingPart, everyone, own_hits, refusal_after, resolution_among, arbitration_over, next_revision, trace_of}
use Rattle.composition_arbitration.specs.Trace.{traced}

-- the refusal, and the trace that an accepted call keeps, which stands beside a refusal too: by what the damage test and
-- the view refuse, the revision, the view's record, the panels that take part, and what was resolved
unfoldable pub decision_with : Outcome → Outcome → ℕ → ViewRecord → List Panel → Resolved → GenerationalHandle
    → ArbitrationEvent → Hits → Decision
decision_with damage unknown revision v panels resolved view event h =
    record {
      outcome = refusal_after damage unknown revision (own_hits event h) (resolved_outcome resolved);
      trace =
          trace_of (next_revision revision) view event (own_hits event h)
          (arbitration_over v panels (resolved_panel resolved) event h);
    }

-- the trace that is kept, or the refusal
abbrev pub accepted_trace : Decision → Result CompositionTrace CompositionError
accepted_trace d = result_and d.outcome (Ok d.trace)

unfoldable pub decided_with : Outcome → Outcome → ℕ → ViewRecord → List Panel → Resolved → GenerationalHandle
    → ArbitrationEvent → Hits → Result CompositionTrace CompositionError
decided_with damage unknown revision v panels resolved view event h =
    accepted_trace (decision_with damage unknown revision v panels resolved view event h)

-- what an accepted call answers
abbrev pub result_of : CompositionTrace → ArbitrationResult
result_of t = record { revision = t.revision; deliveries = t.deliveries; consumed_by = t.consumed_by }

-- ---- in a registry
unfoldable pub decision : Outcome → CompositionRegistry → GenerationalHandle → ArbitrationEvent → Hits → Decision
decision damage r view event h =
    decision_with damage (view_refusal r.views view) r.revision (view_at r.views view) (everyone r view).panels
    (resolution_among (everyone r view) r view event) view event h

abbrev pub decided_among : TakingPart → Outcome → CompositionRegistry → GenerationalHandle → ArbitrationEvent → Hits
    → Result CompositionTrace CompositionError
decided_among part damage r view event h =
    decided_with damage (view_refusal r.views view) r.revision (view_at r.views view) part.panels
    (resolution_among part r view event) view event h

unfoldable pub decided : Outcome → CompositionRegistry → GenerationalHandle → ArbitrationEvent → Hits
    → Result CompositionTrace CompositionError
decided damage r view event h = decided_among (everyone r view) damage r view event h

-- the registry that keeps a trace, at the trace's revision
abbrev pub kept_in : CompositionRegistry → CompositionTrace → CompositionRegistry
kept_in r t = with_revision t.revision (with_traces (traced r.limits.max_trace_entries r.traces t) r)
