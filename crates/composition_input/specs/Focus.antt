-- RULES.md, Focus, captures, compositions: focus 20, 11/12, 17, 18, 8/9, 21; none: 20, 8/9, 21; begin IME 20, 11/12,
-- 19, 8/9, 18, 21; end IME 20, 11/12, 8/9, 18, 21. Suspend: 20, 8/9, 21. Each after 42.
use Rattle.std.specs.Result.{result_and}
use Rattle.std.specs.Prelude.{ℕ, Bool, true, false, not, [], Option, None, Some, Ok}
use Rattle.lists.specs.Tables.{packed}
use Rattle.handles.specs.Handles.{same_handle, holds_handle}
use Rattle.handles.specs.declared.GenerationalHandle.{GenerationalHandle}
use Rattle.maps.specs.Captures.{captures}
use Rattle.records.specs.declared.error.CompositionError.TheVariants.{WrongView, NotInteractive, TextUnsupported}
use Rattle.composition_state.specs.declared.registry.CompositionRegistry.{CompositionRegistry}
use Rattle.composition_state.specs.Registry.{Changed}
use Rattle.records.specs.declared.surface.SurfaceDescriptor.{SurfaceDescriptor}
use Rattle.records.specs.declared.view.ViewRecord.{ViewRecord}
use Rattle.records.specs.declared.view.ViewInputState.{ViewInputState}
use Rattle.records.specs.Errors.{refusal_if, Outcome}
use Rattle.composition_state.specs.Damage.{damage_refusal}
use Rattle.composition_state.specs.Registry.{with_views, conflict_refusal, settled, answered_with}
use Rattle.records.specs.Surfaces.{is_interactive, descriptor_of, surface_refusal}
use Rattle.records.specs.Views.{view_at, view_refusal, with_view, with_focus, with_ime, with_pointer_capture, with_pointer_captures, input_state}
use Rattle.composition_state.specs.declared.registry.Answered.{Answered}

-- 42, then 20: how every call with an expected revision starts
abbrev pub entry_refusal : CompositionRegistry → ℕ → Outcome
entry_refusal r expected = result_and (damage_refusal r) (conflict_refusal r.revision expected)

-- the descriptor of a panel, and the handle of its own view
abbrev pub described : CompositionRegistry → GenerationalHandle → SurfaceDescriptor
described r surface = descriptor_of r.surfaces surface

abbrev pub own_view : CompositionRegistry → GenerationalHandle → GenerationalHandle
own_view r surface = (described r surface).view

-- 18: the panel's policy is neither Interactive nor Exclusive
abbrev pub interactive_refusal : CompositionRegistry → GenerationalHandle → Outcome
interactive_refusal r surface = refusal_if (not (is_interactive (described r surface).input)) NotInteractive

-- the registry with another record for a view
abbrev pub with_view_record : GenerationalHandle → ViewRecord → CompositionRegistry → CompositionRegistry
with_view_record view v r = with_views (with_view view v r.views) r

-- ---- set focus, on a panel or on none
abbrev pub focus_target_refusal : CompositionRegistry → GenerationalHandle → Option GenerationalHandle → Outcome
focus_target_refusal r view None = Ok tt
focus_target_refusal r view (Some surface) =
    result_and (surface_refusal r.surfaces surface)
    (result_and (refusal_if (not (same_handle (own_view r surface) view)) WrongView)
    (interactive_refusal r surface))

abbrev pub focus_refusal : CompositionRegistry → GenerationalHandle → Option GenerationalHandle → ℕ → Outcome
focus_refusal r view surface expected =
    result_and (entry_refusal r expected)
    (result_and (focus_target_refusal r view surface) (view_refusal r.views view))

unfoldable pub set_focus : CompositionRegistry → GenerationalHandle → Option GenerationalHandle → ℕ → Changed
set_focus r view surface expected =
    settled (focus_refusal r view surface expected) r
    (with_view_record view (with_focus surface (view_at r.views view)) r)

-- ---- begin and end a composition
abbrev pub begin_ime_refusal : CompositionRegistry → GenerationalHandle → ℕ → Outcome
begin_ime_refusal r surface expected =
    result_and (entry_refusal r expected)
    (result_and (surface_refusal r.surfaces surface)
    (result_and (refusal_if (not (described r surface).accepts_text) TextUnsupported)
    (result_and (view_refusal r.views (own_view r surface))
    (refusal_if (not (holds_handle (view_at r.views (own_view r surface)).focus surface)) NotInteractive))))

unfoldable pub begin_ime : CompositionRegistry → GenerationalHandle → ℕ → Changed
begin_ime r surface expected =
    settled (begin_ime_refusal r surface expected) r
    (with_view_record (own_view r surface) (with_ime (Some surface) (view_at r.views (own_view r surface))) r)

abbrev pub end_ime_refusal : CompositionRegistry → GenerationalHandle → ℕ → Outcome
end_ime_refusal r surface expected =
    result_and (entry_refusal r expected)
    (result_and (surface_refusal r.surfaces surface)
    (result_and (view_refusal r.views (own_view r surface))
    (refusal_if (not (holds_handle (view_at r.views (own_view r surface)).ime surface)) NotInteractive)))

unfoldable pub end_ime : CompositionRegistry → GenerationalHandle → ℕ → Changed
end_ime r surface expected =
    settled (end_ime_refusal r surface expected) r
    (with_view_record (own_view r surface) (with_ime None (view_at r.views (own_view r surface))) r)

-- ---- suspend a view: focus, captures and composition are let go, and answered as they were
abbrev pub suspend_refusal : CompositionRegistry → GenerationalHandle → ℕ → Outcome
suspend_refusal r view expected = result_and (entry_refusal r expected) (view_refusal r.views view)

abbrev pub suspended_view : ViewRecord → ViewRecord
suspended_view v =
    with_ime None (with_pointer_captures (packed captures []) (with_pointer_capture None (with_focus None v)))

abbrev pub Suspended : Type 0
Suspended = Answered ViewInputState

unfoldable pub suspend_view_input : CompositionRegistry → GenerationalHandle → ℕ → Suspended
suspend_view_input r view expected =
    answered_with (input_state (view_at r.views view))
    (settled (suspend_refusal r view expected) r (with_view_record view (suspended_view (view_at r.views view)) r))
