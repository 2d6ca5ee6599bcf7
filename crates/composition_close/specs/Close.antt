-- RULES.md, Panel close: 11/12, 8/9, 22, 21, after 42. What a refusal has written: 21 comes after the change; 22 leaves
-- the panel out of its view, with focus, captures and IME already moved.
use Rattle.records.specs.Errors.{Outcome}
use Rattle.std.specs.Result.{result_and, result_unwrap_or}
use Rattle.std.specs.Prelude.{Ok, Err}
use Rattle.handles.specs.Slots.{released}
use Rattle.handles.specs.declared.GenerationalHandle.{GenerationalHandle}
use Rattle.composition_state.specs.declared.registry.CompositionRegistry.{CompositionRegistry}
use Rattle.composition_state.specs.Registry.{Changed}
use Rattle.composition_state.specs.Damage.{damage_refusal}
use Rattle.composition_state.specs.Registry.{with_views, with_surfaces, with_shortcuts, settled, answered_with}
use Rattle.records.specs.Shortcuts.{shortcuts_without}
use Rattle.records.specs.Surfaces.{surface_refusal, surfaces_with}
use Rattle.records.specs.Views.{view_at, view_refusal, with_view}
use Rattle.composition_panels.specs.Windows.{exhausted_refusal}
use Rattle.composition_close.specs.declared.answer.SurfaceCloseReport.{SurfaceCloseReport}
use Rattle.composition_state.specs.declared.registry.Answered.{Answered}
use Rattle.composition_close.specs.Reports.{no_report}
use Rattle.composition_close.specs.Detach.{own_view, detached_view, close_report}

-- 42, 11/12, 8/9: these leave the registry as it came
abbrev pub close_refusal : CompositionRegistry → GenerationalHandle → Outcome
close_refusal r h =
    result_and (damage_refusal r)
    (result_and (surface_refusal r.surfaces h) (view_refusal r.views (own_view r.surfaces h)))

-- the panel is out of its view, with focus, captures and IME moved; all else stays, its slot and its registrations too
unfoldable pub detached : GenerationalHandle → CompositionRegistry → CompositionRegistry
detached h r =
    let view = own_view r.surfaces h in
    with_views (with_view view (detached_view r.surfaces (view_at r.views view) h) r.views) r

-- its slot is released and its registrations go
unfoldable pub freed : GenerationalHandle → CompositionRegistry → CompositionRegistry
freed h r =
    with_shortcuts (shortcuts_without h.index r.shortcuts)
    (with_surfaces (surfaces_with (released r.surfaces.arena h).arena r.surfaces) r)

-- the whole change
abbrev pub closed_panel : GenerationalHandle → CompositionRegistry → CompositionRegistry
closed_panel h r = freed h (detached h r)

-- 22: the slot's generation is the last one
abbrev pub slot_refusal : CompositionRegistry → GenerationalHandle → Outcome
slot_refusal r h = exhausted_refusal (released r.surfaces.arena h).outcome

-- after the checks: 22 leaves the panel out of its view; else the whole change, the revision raised or 21
unfoldable pub close_settled : CompositionRegistry → GenerationalHandle → Changed
close_settled r h = settled (slot_refusal r h) (detached h r) (closed_panel h r)

-- a close answers its report; of a refused one it is blank
abbrev pub SurfaceClosed : Type 0
SurfaceClosed = Answered SurfaceCloseReport

abbrev pub closed_report : SurfaceClosed → SurfaceCloseReport
closed_report x = result_unwrap_or x.outcome no_report

abbrev pub close_after : Outcome → CompositionRegistry → GenerationalHandle → SurfaceClosed
close_after (Ok _) r h =
    answered_with (close_report r.surfaces r.views h (close_settled r h).registry.revision) (close_settled r h)
close_after (Err e) r h = record { outcome = Err e; registry = r }

unfoldable pub close_surface : CompositionRegistry → GenerationalHandle → SurfaceClosed
close_surface r h = close_after (close_refusal r h) r h
