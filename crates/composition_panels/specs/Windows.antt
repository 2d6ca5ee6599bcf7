-- RULES.md, Windows and views: create window 3, 21; close window 5/6, 7, 22, 21; create view 5/6, 3, 21; close view
-- 8/9, 10, 22, 21. Each after 42.
use Rattle.std.specs.Result.{result_and}
use Rattle.std.specs.Prelude.{ℕ, Bool, not, ◌&&◌, length, eqb, Ok, Err}
use Rattle.lists.specs.Below.{all_below}
use Rattle.lists.specs.Tables.{entries_of}
use Rattle.handles.specs.Handles.{same_handle}
use Rattle.handles.specs.Slots.{slot_at, allocated, released}
use Rattle.handles.specs.declared.GenerationalHandle.{GenerationalHandle}
use Rattle.handles.specs.declared.arena.Allocation.{Allocation}
use Rattle.handles.specs.Slots.{ReleaseOutcome}
use Rattle.handles.specs.declared.arena.ReleaseError.TheVariants as release
use Rattle.records.specs.declared.error.CompositionError.TheVariants.{Capacity, WindowInUse, ViewInUse, GenerationExhausted}
use Rattle.composition_state.specs.declared.registry.CompositionRegistry.{CompositionRegistry}
use Rattle.composition_state.specs.Registry.{Changed}
use Rattle.records.specs.Views.{ViewTable, fresh_view, view_at, view_refusal, view_slots, with_view, views_with}
use Rattle.records.specs.Errors.{refusal_if, Outcome}
use Rattle.composition_state.specs.Damage.{damage_refusal, view_handle}
use Rattle.records.specs.Layers.{layers}
use Rattle.composition_state.specs.Registry.{with_windows, with_views, window_refusal, settled, answered_with}
use Rattle.records.specs.Views.{fresh_view, view_at, view_refusal, view_slots, with_view, views_with}
use Rattle.composition_state.specs.declared.registry.Answered.{Answered}

-- a creating call answers its handle
abbrev pub Created : Type 0
Created = Answered GenerationalHandle

-- 22: the slot's generation is the last one; nothing changes
abbrev pub exhausted_refusal : ReleaseOutcome → Outcome
exhausted_refusal (Ok _) = Ok tt
exhausted_refusal (Err release.Invalid) = Ok tt
exhausted_refusal (Err release.Stale) = Ok tt
exhausted_refusal (Err release.GenerationExhausted) = Err GenerationExhausted

-- ---- create window
abbrev pub create_window_refusal : CompositionRegistry → Outcome
create_window_refusal r =
    result_and (damage_refusal r) (refusal_if (eqb r.windows.live r.limits.max_windows) Capacity)

abbrev pub new_window : CompositionRegistry → Allocation
new_window r = allocated r.windows r.first_generation

unfoldable pub create_window : CompositionRegistry → Created
create_window r = answered_with (new_window r).handle (settled (create_window_refusal r) r (with_windows
    (new_window r).arena r))

-- ---- close window
-- a live view that stands in a window
abbrev pub stands_in : ViewTable → GenerationalHandle → ℕ → Bool
stands_in views window i =
    (slot_at views.arena i).filled && same_handle (view_at views (view_handle views i)).window window

unfoldable pub is_window_in_use : ViewTable → GenerationalHandle → Bool
is_window_in_use views window = not (all_below (λ i. not (stands_in views window i)) (view_slots views))

abbrev pub close_window_refusal : CompositionRegistry → GenerationalHandle → Outcome
close_window_refusal r window =
    result_and (damage_refusal r)
    (result_and (window_refusal r.windows window)
    (result_and (refusal_if (is_window_in_use r.views window) WindowInUse)
    (exhausted_refusal (released r.windows window).outcome)))

unfoldable pub close_window : CompositionRegistry → GenerationalHandle → Changed
close_window r window = settled (close_window_refusal r window) r (with_windows (released r.windows window).arena r)

-- ---- create view
abbrev pub create_view_refusal : CompositionRegistry → GenerationalHandle → Outcome
create_view_refusal r window =
    result_and (damage_refusal r)
    (result_and (window_refusal r.windows window)
    (refusal_if (eqb r.views.arena.live r.limits.max_views) Capacity))

abbrev pub new_view : CompositionRegistry → Allocation
new_view r = allocated r.views.arena r.first_generation

unfoldable pub create_view : CompositionRegistry → GenerationalHandle → Created
create_view r window =
    answered_with (new_view r).handle
    (settled (create_view_refusal r window) r
    (with_views (with_view (new_view r).handle (fresh_view window) (views_with (new_view r).arena r.views)) r))

-- ---- close view
-- 10: the view has a panel
abbrev pub has_layers : ViewTable → GenerationalHandle → Bool
has_layers views view = not (eqb (length (entries_of layers (view_at views view).surfaces)) 0)

abbrev pub close_view_refusal : CompositionRegistry → GenerationalHandle → Outcome
close_view_refusal r view =
    result_and (damage_refusal r)
    (result_and (view_refusal r.views view)
    (result_and (refusal_if (has_layers r.views view) ViewInUse)
    (exhausted_refusal (released r.views.arena view).outcome)))

unfoldable pub close_view : CompositionRegistry → GenerationalHandle → Changed
close_view r view =
    settled (close_view_refusal r view) r (with_views (views_with (released r.views.arena view).arena r.views) r)
