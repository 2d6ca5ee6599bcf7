-- The registry with one field changed, its revision, and what a refused call answers.
use Rattle.std.specs.Prelude.{ℕ, ◌+◌, cond, not, eqb, Ok, Err}
use Rattle.std.specs.Result.{result_and}
use Rattle.lists.specs.Numbers.{max_u64}
use Rattle.handles.specs.Slots.{lookup_of}
use Rattle.handles.specs.declared.GenerationalHandle.{GenerationalHandle}
use Rattle.handles.specs.declared.arena.Arena.{Arena}
use Rattle.records.specs.declared.error.CompositionError.TheVariants.{InvalidWindow, StaleWindow, RevisionConflict, RevisionExhausted}
use Rattle.records.specs.Views.{ViewTable}
use Rattle.records.specs.Surfaces.{SurfaceTable}
use Rattle.records.specs.Shortcuts.{Shortcuts}
use Rattle.records.specs.Traces.{Traces}
use Rattle.composition_state.specs.declared.registry.CompositionRegistry.{CompositionRegistry}
use Rattle.composition_state.specs.declared.registry.Answered.{Answered}
use Rattle.records.specs.Errors.{status_refusal, refusal_if, Outcome}

-- the registry with one field changed
abbrev pub with_revision : ℕ → CompositionRegistry → CompositionRegistry
with_revision n r =
    record {
      session = r.session;
      session_epoch = r.session_epoch;
      limits = r.limits;
      first_generation = r.first_generation;
      revision = n;
      windows = r.windows;
      views = r.views;
      surfaces = r.surfaces;
      shortcuts = r.shortcuts;
      traces = r.traces;
    }

abbrev pub with_windows : Arena → CompositionRegistry → CompositionRegistry
with_windows w r =
    record {
      session = r.session;
      session_epoch = r.session_epoch;
      limits = r.limits;
      first_generation = r.first_generation;
      revision = r.revision;
      windows = w;
      views = r.views;
      surfaces = r.surfaces;
      shortcuts = r.shortcuts;
      traces = r.traces;
    }

abbrev pub with_views : ViewTable → CompositionRegistry → CompositionRegistry
with_views v r =
    record {
      session = r.session;
      session_epoch = r.session_epoch;
      limits = r.limits;
      first_generation = r.first_generation;
      revision = r.revision;
      windows = r.windows;
      views = v;
      surfaces = r.surfaces;
      shortcuts = r.shortcuts;
      traces = r.traces;
    }

abbrev pub with_surfaces : SurfaceTable → CompositionRegistry → CompositionRegistry
with_surfaces s r =
    record {
      session = r.session;
      session_epoch = r.session_epoch;
      limits = r.limits;
      first_generation = r.first_generation;
      revision = r.revision;
      windows = r.windows;
      views = r.views;
      surfaces = s;
      shortcuts = r.shortcuts;
      traces = r.traces;
    }

abbrev pub with_shortcuts : Shortcuts → CompositionRegistry → CompositionRegistry
with_shortcuts k r =
    record {
      session = r.session;
      session_epoch = r.session_epoch;
      limits = r.limits;
      first_generation = r.first_generation;
      revision = r.revision;
      windows = r.windows;
      views = r.views;
      surfaces = r.surfaces;
      shortcuts = k;
      traces = r.traces;
    }

abbrev pub with_traces : Traces → CompositionRegistry → CompositionRegistry
with_traces t r =
    record {
      session = r.session;
      session_epoch = r.session_epoch;
      limits = r.limits;
      first_generation = r.first_generation;
      revision = r.revision;
      windows = r.windows;
      views = r.views;
      surfaces = r.surfaces;
      shortcuts = r.shortcuts;
      traces = t;
    }

-- RULES.md, Slots: 5/6
abbrev pub window_refusal : Arena → GenerationalHandle → Outcome
window_refusal a h = status_refusal (lookup_of a h) InvalidWindow StaleWindow

-- RULES.md, Revisions: 20, the expected revision is not the registry's
abbrev pub conflict_refusal : ℕ → ℕ → Outcome
conflict_refusal revision expected = refusal_if (not (eqb revision expected)) RevisionConflict

-- the answer of a call that makes nothing
abbrev pub Changed : Type 0
Changed = Answered (Unit {0})

-- a call that makes a value answers it if it is accepted
abbrev pub answered_with : {T : Type 0} → T → Changed → Answered T
answered_with v c = record { outcome = result_and c.outcome (Ok v); registry = c.registry }

-- whether a call is accepted, or why it is refused, without what it makes
abbrev pub outcome_of : {T : Type 0} → Answered T → Outcome
outcome_of a = result_and a.outcome (Ok tt)

-- an answer, and the registry with it
abbrev pub answered : Outcome → CompositionRegistry → Changed
answered o r = record { outcome = o; registry = r }

-- the revision rises by 1 a change; RULES.md, Revisions: 21 comes after the change
unfoldable pub advanced : CompositionRegistry → Changed
advanced r =
    cond (eqb r.revision max_u64)
    (answered (Err RevisionExhausted) r)
    (answered (Ok tt) (with_revision (r.revision + 1) r))

-- a refused call leaves the registry as it came; an accepted one leaves the changed registry, its revision raised
abbrev pub settled : Outcome → CompositionRegistry → CompositionRegistry → Changed
settled (Ok _) r changed = advanced changed
settled (Err e) r changed = answered (Err e) r
