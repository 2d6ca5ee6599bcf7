-- RULES.md, System shortcut: the panel that gets the event, or the refusal.
use Rattle.std.specs.Prelude.{ℕ, List, map, Option, None, Some, Result, Ok, Err}
use Rattle.std.specs.Result.{result_and}
use Rattle.records.specs.Errors.{Outcome}
use Rattle.lists.specs.Lists.{keep}
use Rattle.handles.specs.declared.GenerationalHandle.{GenerationalHandle}
use Rattle.records.specs.declared.error.CompositionError.{CompositionError}
use Rattle.records.specs.declared.shortcut.SlotShortcut.{SlotShortcut}
use Rattle.records.specs.Surfaces.{SurfaceTable}
use Rattle.records.specs.Views.{ViewTable}
use Rattle.composition_shortcuts.specs.declared.candidate.Candidate.{Candidate}
use Rattle.composition_shortcuts.specs.Scope.{counts}
use Rattle.composition_shortcuts.specs.Candidates.{candidate_of, best_of}
use Rattle.composition_shortcuts.specs.OwnView.{own_view_refusal}

-- those that count, each as it is compared
abbrev pub candidates : ViewTable → SurfaceTable → GenerationalHandle → ℕ → List SlotShortcut → List Candidate
candidates views surfaces view mask l = map (candidate_of surfaces view) (keep (counts views surfaces view mask) l)

-- the greatest of those that count
abbrev pub best_among : ViewTable → SurfaceTable → GenerationalHandle → ℕ → List SlotShortcut → Option Candidate
best_among views surfaces view mask l = best_of (candidates views surfaces view mask l)

-- "None is answered exactly if none counts"
abbrev pub winner_of : Option Candidate → Option GenerationalHandle
winner_of None = None
winner_of (Some c) = Some c.surface

-- the panel that the event goes to, or none, if it is not refused
abbrev pub Resolved : Type 0
Resolved = Result (Option GenerationalHandle) CompositionError

-- the refusal of what is resolved, and the panel that it names
abbrev pub resolved_outcome : Resolved → Outcome
resolved_outcome r = result_and r (Ok tt)

abbrev pub resolved_panel : Resolved → Option GenerationalHandle
resolved_panel (Ok h) = h
resolved_panel (Err e) = None

-- "It alone gets the event": the panel of the greatest
abbrev pub winner : ViewTable → SurfaceTable → GenerationalHandle → ℕ → List SlotShortcut → Option GenerationalHandle
winner views surfaces view mask l = winner_of (best_among views surfaces view mask l)

-- of any registrations, for an event in a view
unfoldable pub resolve_system_shortcut : ViewTable → SurfaceTable → GenerationalHandle → ℕ → List SlotShortcut
    → Resolved
resolve_system_shortcut views surfaces view mask l =
    result_and (own_view_refusal views.arena surfaces mask l) (Ok (winner views surfaces view mask l))
