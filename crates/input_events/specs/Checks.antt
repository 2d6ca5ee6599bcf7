-- RULES.md, Route: 31, 8/9, 39, 20 (metrics revision), then 34, 35, 36, 37 or 38 by payload.
use Rattle.records.specs.Errors.{refusal_if}
use Rattle.std.specs.Result.{result_and}
use Rattle.std.specs.Prelude.{ℕ, Bool, not, ◌&&◌, eqb, ltb, leb, ℤ, pos, neg_ℤ, Ok}
use Rattle.std.specs.Int.Signed.{le_z}
use Rattle.handles.specs.Handles.{same_handle}
use Rattle.handles.specs.declared.GenerationalHandle.{GenerationalHandle}
use Rattle.maps.specs.Keys.{device_valid}
use Rattle.maps.specs.declared.keys.InputDeviceId.{InputDeviceId}
use Rattle.records.specs.declared.error.CompositionError.TheVariants.{RevisionConflict}
use Rattle.records.specs.Views.{ViewTable, view_at, view_refusal}
use Rattle.input_events.specs.declared.checks.FoundView.{FoundView}
use Rattle.input_events.specs.declared.error.PlatformInputError.TheVariants as error
use Rattle.input_events.specs.declared.event.CompositionInput.{CompositionInput}
use Rattle.input_events.specs.declared.event.PlatformInputEvent.{PlatformInputEvent}
use Rattle.input_events.specs.declared.event.PlatformInputHeader.{PlatformInputHeader}
use Rattle.input_events.specs.declared.event.PlatformInputPayload.{PlatformInputPayload}
use Rattle.input_events.specs.declared.event.PlatformInputPayload.TheVariants.{Pointer, Wheel, Key, Shortcut, Text, Composition, GamepadSnapshot, FocusChanged, VisibilityChanged, DeviceDisconnected}
use Rattle.input_events.specs.declared.event.PointerInput.{PointerInput}
use Rattle.input_events.specs.declared.event.ShortcutInput.{ShortcutInput}
use Rattle.input_events.specs.RouterErrors.{from_composition, RouterOutcome}

-- 34, "contact not 4,294,967,295"
abbrev pub contact_refusal : ℕ → RouterOutcome
contact_refusal contact = refusal_if (eqb contact 4294967295) error.InvalidPointer

-- 36, counter table: "Tilt 90 passes, -91 is 36", on each axis
abbrev pub is_upright : ℤ → Bool
is_upright degrees = le_z (neg_ℤ (pos 90)) degrees && le_z degrees (pos 90)

abbrev pub is_tilt_allowed : PointerInput → Bool
is_tilt_allowed p = is_upright p.tilt_x_degrees && is_upright p.tilt_y_degrees

-- a pointer: 34, 35 (counter table: "Pressure 32,768 passes"), 36
abbrev pub pointer_refusal : PointerInput → RouterOutcome
pointer_refusal p =
    result_and (contact_refusal p.contact)
    (result_and (refusal_if (ltb 32768 p.pressure_q15) error.InvalidPressure)
    (refusal_if (not (is_tilt_allowed p)) error.InvalidTilt))

-- 37, counter table: "Selection 2 to 3 in 3 bytes passes": it goes forward and stays inside the text
abbrev pub selection_refusal : CompositionInput → RouterOutcome
selection_refusal c =
    refusal_if (not (leb c.selection_start c.selection_end && leb c.selection_end c.length))
    error.InvalidTextSelection

-- 38: no class
abbrev pub shortcut_refusal : ShortcutInput → RouterOutcome
shortcut_refusal s = refusal_if (eqb s.class_mask 0) error.InvalidShortcut

-- "then 34, 35, 36, 37 or 38 by payload"
unfoldable pub payload_refusal : PlatformInputPayload → RouterOutcome
payload_refusal (Pointer p) = pointer_refusal p
payload_refusal (Wheel w) = contact_refusal w.contact
payload_refusal (Key k) = Ok tt
payload_refusal (Shortcut s) = shortcut_refusal s
payload_refusal (Text t) = Ok tt
payload_refusal (Composition c) = selection_refusal c
payload_refusal (GamepadSnapshot g) = Ok tt
payload_refusal (FocusChanged focused) = Ok tt
payload_refusal (VisibilityChanged visible) = Ok tt
payload_refusal DeviceDisconnected = Ok tt

-- 31
abbrev pub device_refusal : InputDeviceId → RouterOutcome
device_refusal d = refusal_if (not (device_valid d)) error.InvalidDevice

-- what is found of a view: 8/9, its window and the revision of its metrics
abbrev pub found_view : ViewTable → GenerationalHandle → FoundView
found_view views view =
    record {
      unknown = view_refusal views view;
      window = (view_at views view).window;
      metrics_revision = (view_at views view).metrics.revision;
    }

-- 39: the view's window is not the header's
abbrev pub window_refusal : FoundView → PlatformInputHeader → RouterOutcome
window_refusal v h = refusal_if (not (same_handle v.window h.window)) error.InvalidWindow

-- 20: the revision of the view's metrics is not the header's
abbrev pub metrics_refusal : FoundView → PlatformInputHeader → RouterOutcome
metrics_refusal v h =
    refusal_if (not (eqb v.metrics_revision h.metrics_revision)) (error.Composition RevisionConflict)

-- "8/9, 39, 20 (metrics revision)", by what is found of the header's view, and with the table of views
unfoldable pub header_refusal_in : FoundView → PlatformInputHeader → RouterOutcome
header_refusal_in v h =
    result_and (from_composition v.unknown)
    (result_and (window_refusal v h)
    (metrics_refusal v h))

abbrev pub header_refusal : ViewTable → PlatformInputHeader → RouterOutcome
header_refusal views h = header_refusal_in (found_view views h.view) h

-- "31, 8/9, 39, 20 (metrics revision), then 34, 35, 36, 37 or 38 by payload"
abbrev pub event_refusal_in : FoundView → PlatformInputEvent → RouterOutcome
event_refusal_in v e =
    result_and (device_refusal e.header.device)
    (result_and (header_refusal_in v e.header)
    (payload_refusal e.payload))

unfoldable pub event_refusal : ViewTable → PlatformInputEvent → RouterOutcome
event_refusal views e = event_refusal_in (found_view views e.header.view) e
