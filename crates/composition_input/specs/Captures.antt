-- RULES.md, Focus, captures, compositions: capture 20, 18 for a bad pointer, 11/12, 18, 8/9, 41, 21; release of a
-- pointer 20, 11/12, 8/9, 18, 21; device captures 18, 21. Each after 42.
use Rattle.std.specs.Result.{result_and, result_unwrap_or}
use Rattle.std.specs.Prelude.{ℕ, Bool, cond, not, ◌&&◌, ◌||◌, List, [], ◌++◌, length, eqb, None, Some}
use Rattle.lists.specs.Lists.{keep}
use Rattle.lists.specs.Below.{iter_below}
use Rattle.lists.specs.Tables.{entries_of, packed}
use Rattle.handles.specs.Handles.{holds_handle}
use Rattle.handles.specs.Slots.{slot_at}
use Rattle.handles.specs.declared.GenerationalHandle.{GenerationalHandle}
use Rattle.maps.specs.Keys.{pointer_valid, pointer_key, key_same, device_same}
use Rattle.maps.specs.MapTables.{is_some, found, removed, retained, accepts, inserted}
use Rattle.maps.specs.Captures.{captures, capture_key, surface_of, PointerCaptures}
use Rattle.maps.specs.declared.keys.CompositionPointerId.{CompositionPointerId}
use Rattle.maps.specs.declared.captures.Capture.{Capture}
use Rattle.release_lists.specs.Captures.{CaptureList, capture_list}
use Rattle.records.specs.declared.error.CompositionError.TheVariants.{NotInteractive, PortLimit}
use Rattle.composition_state.specs.declared.registry.CompositionRegistry.{CompositionRegistry}
use Rattle.composition_state.specs.Registry.{Changed}
use Rattle.records.specs.declared.view.ViewRecord.{ViewRecord}
use Rattle.records.specs.Views.{ViewTable, view_at, view_refusal, view_slots, with_view, with_pointer_capture, with_pointer_captures}
use Rattle.records.specs.Errors.{refusal_if, Outcome}
use Rattle.composition_state.specs.Damage.{damage_refusal, view_handle}
use Rattle.composition_state.specs.Registry.{with_views, settled, answered, answered_with}
use Rattle.records.specs.Surfaces.{surface_refusal}
use Rattle.composition_input.specs.Focus.{entry_refusal, own_view, interactive_refusal, with_view_record}
use Rattle.composition_state.specs.declared.registry.Answered.{Answered}

-- RULES.md, Validity: PRIMARY, the pointer of device 1, generation 1, contact 0
abbrev pub primary : CompositionPointerId
primary = record { device = 1; device_generation = 1; contact = 0 }

abbrev pub is_primary : CompositionPointerId → Bool
is_primary p = key_same (pointer_key primary) (pointer_key p)

abbrev pub capture : CompositionPointerId → GenerationalHandle → Capture
capture p surface = record { pointer = p; surface = surface }

-- the record of a panel's own view
abbrev pub own_record : CompositionRegistry → GenerationalHandle → ViewRecord
own_record r surface = view_at r.views (own_view r surface)

-- ---- capture
abbrev pub capture_refusal : CompositionRegistry → CompositionPointerId → GenerationalHandle → ℕ → Outcome
capture_refusal r p surface expected =
    result_and (entry_refusal r expected)
    (result_and (refusal_if (not (pointer_valid p)) NotInteractive)
    (result_and (surface_refusal r.surfaces surface)
    (result_and (interactive_refusal r surface)
    (result_and (view_refusal r.views (own_view r surface))
    (refusal_if (not (accepts captures capture_key (capture p surface) (own_record r surface).pointer_captures))
    PortLimit)))))

-- the map takes the pointer, and PRIMARY sets the view's single field too
abbrev pub captured_view : CompositionPointerId → GenerationalHandle → ViewRecord → ViewRecord
captured_view p surface v =
    let taken = with_pointer_captures (inserted captures capture_key (capture p surface) v.pointer_captures) v in
    cond (is_primary p) (with_pointer_capture (Some surface) taken) taken

unfoldable pub capture_pointer_for : CompositionRegistry → CompositionPointerId → GenerationalHandle → ℕ → Changed
capture_pointer_for r p surface expected =
    settled (capture_refusal r p surface expected) r
    (with_view_record (own_view r surface) (captured_view p surface (own_record r surface)) r)

-- ---- release of a pointer
-- the map without the pointer, and PRIMARY empties the view's single field too
abbrev pub released_view : CompositionPointerId → ViewRecord → ViewRecord
released_view p v =
    let left = with_pointer_captures (removed captures capture_key (pointer_key p) v.pointer_captures) v in
    cond (is_primary p) (with_pointer_capture None left) left

-- what both releases refuse before they look whether the panel has the pointer
abbrev pub owner_refusal : CompositionRegistry → GenerationalHandle → ℕ → Outcome
owner_refusal r surface expected =
    result_and (entry_refusal r expected)
    (result_and (surface_refusal r.surfaces surface) (view_refusal r.views (own_view r surface)))

abbrev pub release_for_refusal : CompositionRegistry → CompositionPointerId → GenerationalHandle → ℕ → Outcome
release_for_refusal r p surface expected =
    result_and (owner_refusal r surface expected)
    (refusal_if (not (holds_handle
    (surface_of (found captures capture_key (pointer_key p) (own_record r surface).pointer_captures)) surface))
    NotInteractive)

unfoldable pub release_pointer_for : CompositionRegistry → CompositionPointerId → GenerationalHandle → ℕ → Changed
release_pointer_for r p surface expected =
    settled (release_for_refusal r p surface expected) r
    (with_view_record (own_view r surface) (released_view p (own_record r surface)) r)

-- the plain release goes by the view's single field
abbrev pub release_refusal : CompositionRegistry → GenerationalHandle → ℕ → Outcome
release_refusal r surface expected =
    result_and (owner_refusal r surface expected)
    (refusal_if (not (holds_handle (own_record r surface).pointer_capture surface)) NotInteractive)

unfoldable pub release_pointer : CompositionRegistry → GenerationalHandle → ℕ → Changed
release_pointer r surface expected =
    settled (release_refusal r surface expected) r
    (with_view_record (own_view r surface) (released_view primary (own_record r surface)) r)

-- ---- device captures: of every live view in slot order, then by pointer
-- a capture of the device
abbrev pub is_of_device : ℕ → ℕ → Capture → Bool
is_of_device device generation e = device_same (capture_key e) (record { value = device; generation = generation })

-- the map has PRIMARY, and PRIMARY is of the device
abbrev pub loses_primary : ℕ → ℕ → PointerCaptures → Bool
loses_primary device generation t =
    is_some (found captures capture_key (pointer_key primary) t)
    && device_same (pointer_key primary) (record { value = device; generation = generation })

-- the map without the captures of the device; where PRIMARY was among them, the view's single field empties too
abbrev pub left_view : ℕ → ℕ → ViewRecord → ViewRecord
left_view device generation v =
    let left =
    with_pointer_captures (retained captures (λ e. not (is_of_device device generation e)) v.pointer_captures) v in
    cond (loses_primary device generation v.pointer_captures) (with_pointer_capture None left) left

-- the captures of the device in the view of a slot
abbrev pub taken_at : ViewTable → ℕ → ℕ → ℕ → List Capture
taken_at views device generation i =
    cond (slot_at views.arena i).filled
    (keep (is_of_device device generation) (entries_of captures (view_at views (view_handle views i)).pointer_captures))
    []

unfoldable pub device_captures : ViewTable → ℕ → ℕ → List Capture
device_captures views device generation = iter_below (λ i l. l
    ++ taken_at views device generation i) (view_slots views) []

abbrev pub cleared_at : ℕ → ℕ → ℕ → ViewTable → ViewTable
cleared_at device generation i t =
    cond (slot_at t.arena i).filled
    (with_view (view_handle t i) (left_view device generation (view_at t (view_handle t i))) t) t

unfoldable pub device_cleared : ViewTable → ℕ → ℕ → ViewTable
device_cleared views device generation = iter_below (cleared_at device generation) (view_slots views) views

abbrev pub device_refusal : CompositionRegistry → ℕ → ℕ → Outcome
device_refusal r device generation =
    result_and (damage_refusal r) (refusal_if (eqb device 0 || eqb generation 0) NotInteractive)

-- the answer of a release by device: the captures that end
abbrev pub CapturesReleased : Type 0
CapturesReleased = Answered CaptureList

-- what such a release lists: nothing where it is refused
abbrev pub listed_captures : CapturesReleased → CaptureList
listed_captures x = result_unwrap_or x.outcome (packed capture_list [])

-- the revision rises only if a capture is let go
abbrev pub device_settled : CompositionRegistry → ℕ → ℕ → Changed
device_settled r device generation =
    cond (eqb (length (device_captures r.views device generation)) 0)
    (answered (device_refusal r device generation) r)
    (settled (device_refusal r device generation) r (with_views (device_cleared r.views device generation) r))

unfoldable pub release_device_pointer_captures : CompositionRegistry → ℕ → ℕ → CapturesReleased
release_device_pointer_captures r device generation =
    answered_with (packed capture_list (device_captures r.views device generation)) (device_settled r device generation)
