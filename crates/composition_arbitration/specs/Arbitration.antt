-- RULES.md, Arbitrate: 8/9, 41 (over 16 hits handed in), 8/9 (for a system shortcut), 21, each after 42 and before any
-- change. First what one view's record, panels and registrations decide; then the call on a registry.
use Rattle.std.specs.Result.{result_and}
use Rattle.std.specs.Prelude.{ℕ, ◌+◌, Bool, true, false, cond, List, [], ◌∷◌, eqb, ltb, Option, None, Some, Ok}
use Rattle.lists.specs.Tables.{entries_of, packed}
use Rattle.lists.specs.Numbers.{max_u64}
use Rattle.handles.specs.declared.GenerationalHandle.{GenerationalHandle}
use Rattle.records.specs.declared.error.CompositionError.TheVariants.{PortLimit, RevisionExhausted}
use Rattle.composition_state.specs.declared.registry.CompositionRegistry.{CompositionRegistry}
use Rattle.records.specs.declared.shortcut.SlotShortcut.{SlotShortcut}
use Rattle.records.specs.Surfaces.{SurfaceTable}
use Rattle.records.specs.declared.trace.ArbitrationEvent.{ArbitrationEvent}
use Rattle.records.specs.declared.trace.ArbitrationEvent.TheVariants.{Pointer, PointerStack, PointerFor, PointerStackFor, Keyboard, KeyboardFor, Gamepad, GamepadFor, Text, Shortcut, SystemShortcut}
use Rattle.records.specs.declared.trace.CompositionTrace.{CompositionTrace}
use Rattle.records.specs.Traces.{Hits, hits as state_hits, deliveries}
use Rattle.records.specs.declared.view.ViewRecord.{ViewRecord}
use Rattle.records.specs.Views.{ViewTable, view_at, view_refusal}
use Rattle.records.specs.Errors.{refusal_if, Outcome}
use Rattle.composition_state.specs.Damage.{damage_refusal}
use Rattle.composition_state.specs.Registry.{with_traces, settled, answered_with}
use Rattle.records.specs.Shortcuts.{shortcuts}
use Rattle.view_panels.specs.Panels.{Panel, panels_in}
use Rattle.composition_shortcuts.specs.Resolve.{Resolved, resolved_outcome, resolved_panel, resolve_system_shortcut}
use Rattle.composition_state.specs.declared.registry.Answered.{Answered}
use Rattle.composition_arbitration.specs.declared.arbitrate.ArbitrationResult.{ArbitrationResult}
use Rattle.composition_arbitration.specs.declared.walk.Walked.{Walked}
use Rattle.composition_arbitration.specs.Layers.{verdict_of, walk_of}
use Rattle.composition_arbitration.specs.Targets.{chosen}
use Rattle.composition_arbitration.specs.Trace.{traced}

-- the two events that have a list of hits; what is handed in beside another event is left out
abbrev pub is_stack : ArbitrationEvent → Bool
is_stack (Pointer hit) = false
is_stack PointerStack = true
is_stack (PointerFor pointer hit) = false
is_stack (PointerStackFor pointer) = true
is_stack Keyboard = false
is_stack (KeyboardFor target) = false
is_stack Gamepad = false
is_stack (GamepadFor target) = false
is_stack Text = false
is_stack Shortcut = false
is_stack (SystemShortcut mask) = false

unfoldable pub own_hits : ArbitrationEvent → Hits → Hits
own_hits event h = cond (is_stack event) h (packed state_hits [])

-- 41: over 16 hits handed in
abbrev pub hits_refusal : Hits → Outcome
hits_refusal h = refusal_if (ltb 16 h.len) PortLimit

-- only a system shortcut looks for a registration
abbrev pub unresolved : Resolved
unresolved = Ok None

unfoldable pub resolution_of : ViewTable → SurfaceTable → List SlotShortcut → GenerationalHandle → ArbitrationEvent
    → Resolved
resolution_of views surfaces l view (SystemShortcut mask) = resolve_system_shortcut views surfaces view mask l
resolution_of views surfaces l view (Pointer hit) = unresolved
resolution_of views surfaces l view PointerStack = unresolved
resolution_of views surfaces l view (PointerFor pointer hit) = unresolved
resolution_of views surfaces l view (PointerStackFor pointer) = unresolved
resolution_of views surfaces l view Keyboard = unresolved
resolution_of views surfaces l view (KeyboardFor target) = unresolved
resolution_of views surfaces l view Gamepad = unresolved
resolution_of views surfaces l view (GamepadFor target) = unresolved
resolution_of views surfaces l view Text = unresolved
resolution_of views surfaces l view Shortcut = unresolved

-- System shortcut: "It alone gets the event and consumes it."
unfoldable pub alone : GenerationalHandle → Walked
alone h =
    record { deliveries = packed deliveries (record { surface = h; observed = false } ∷ []); consumed_by = Some h }

abbrev pub or_alone : Option GenerationalHandle → Walked → Walked
or_alone (Some h) walk = alone h
or_alone None walk = walk

-- the walk over panels of a view, aimed by the view's record
unfoldable pub walk_over : ViewRecord → List Panel → ArbitrationEvent → Hits → Walked
walk_over v panels event h = walk_of (verdict_of (chosen event v) (entries_of state_hits h)) panels

-- who gets an event, and who takes it
abbrev pub arbitration_over : ViewRecord → List Panel → Option GenerationalHandle → ArbitrationEvent → Hits → Walked
arbitration_over v panels winner event h = or_alone winner (walk_over v panels event (own_hits event h))

-- the revision after this one; at the last revision the call is refused 21, so that case is never met
abbrev pub next_revision : ℕ → ℕ
next_revision n = cond (eqb n max_u64) n (n + 1)

-- RULES.md, Arbitrate: 8/9, 41, 8/9, 21, after what the damage test says
abbrev pub refusal_after : Outcome → Outcome → ℕ → Hits → Outcome → Outcome
refusal_after damage unknown revision own shortcut =
    result_and damage
    (result_and unknown
    (result_and (hits_refusal own)
    (result_and shortcut
    (refusal_if (eqb revision max_u64) RevisionExhausted))))

-- the trace keeps the event with its hits, the deliveries and the consumer
abbrev pub trace_of : ℕ → GenerationalHandle → ArbitrationEvent → Hits → Walked → CompositionTrace
trace_of n view event own w =
    record {
      revision = n;
      view = view;
      event = event;
      hits = own;
      deliveries = w.deliveries;
      consumed_by = w.consumed_by;
    }

-- ---- in a registry
-- those that take part in an event of a view: panels of the view, from lowest to highest, and registrations
pub record TakingPart : Type 0 where
  pub panels : List Panel
  pub registrations : List SlotShortcut

-- all panels of the view, and every registration
abbrev pub everyone : CompositionRegistry → GenerationalHandle → TakingPart
everyone r view =
    record {
      panels = panels_in r.views r.surfaces view;
      registrations = entries_of shortcuts r.shortcuts;
    }

abbrev pub resolution_among : TakingPart → CompositionRegistry → GenerationalHandle → ArbitrationEvent → Resolved
resolution_among part r view event = resolution_of r.views r.surfaces part.registrations view event

abbrev pub walk_among : TakingPart → CompositionRegistry → GenerationalHandle → ArbitrationEvent → Hits → Walked
walk_among part r view event h = walk_over (view_at r.views view) part.panels event h

abbrev pub arbitration_among : TakingPart → CompositionRegistry → GenerationalHandle → ArbitrationEvent → Hits → Walked
arbitration_among part r view event h =
    arbitration_over (view_at r.views view) part.panels (resolved_panel (resolution_among part r view event)) event h

abbrev pub arbitrate_refusal : CompositionRegistry → GenerationalHandle → Hits → Outcome → Outcome
arbitrate_refusal r view own shortcut =
    refusal_after (damage_refusal r) (view_refusal r.views view) r.revision own shortcut

abbrev pub with_trace : CompositionTrace → CompositionRegistry → CompositionRegistry
with_trace e r = with_traces (traced r.limits.max_trace_entries r.traces e) r

-- what an accepted call answers
abbrev pub result_at : ℕ → Walked → ArbitrationResult
result_at n w = record { revision = n; deliveries = w.deliveries; consumed_by = w.consumed_by }

abbrev pub Arbitrated : Type 0
Arbitrated = Answered ArbitrationResult

-- the answer, once it is known who gets the event
unfoldable pub concluded : CompositionRegistry → GenerationalHandle → ArbitrationEvent → Hits → Outcome → Walked
    → Arbitrated
concluded r view event own shortcut w =
    let changed = settled (arbitrate_refusal r view own shortcut) r
    (with_trace (trace_of (next_revision r.revision) view event own w) r) in
    answered_with (result_at changed.registry.revision w) changed

abbrev pub arbitrated_among : TakingPart → CompositionRegistry → GenerationalHandle → ArbitrationEvent → Hits
    → Arbitrated
arbitrated_among part r view event h =
    concluded r view event (own_hits event h) (resolved_outcome (resolution_among part r view event))
    (arbitration_among part r view event h)

-- ---- of everyone
abbrev pub resolution : CompositionRegistry → GenerationalHandle → ArbitrationEvent → Resolved
resolution r view event = resolution_among (everyone r view) r view event

abbrev pub walk_in : CompositionRegistry → GenerationalHandle → ArbitrationEvent → Hits → Walked
walk_in r view event h = walk_among (everyone r view) r view event h

abbrev pub arbitration : CompositionRegistry → GenerationalHandle → ArbitrationEvent → Hits → Walked
arbitration r view event h = arbitration_among (everyone r view) r view event h

unfoldable pub arbitrated : CompositionRegistry → GenerationalHandle → ArbitrationEvent → Hits → Arbitrated
arbitrated r view event h = arbitrated_among (everyone r view) r view event h
