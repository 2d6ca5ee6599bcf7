-- Calls, answers and books for the examples: two windows' worth of panels in two views, and two devices of one value.
use Rattle.std.specs.Prelude.{ℕ, Bool, false, List, [], ◌∷◌, pos, Option, None, Some}
use Rattle.handles.specs.declared.GenerationalHandle.{GenerationalHandle}
use Rattle.maps.specs.declared.bindings.Binding.{Binding}
use Rattle.maps.specs.declared.keys.BindingKey.TheVariants as press
use Rattle.maps.specs.declared.keys.CompositionPointerId.{CompositionPointerId}
use Rattle.maps.specs.declared.keys.InputDeviceId.{InputDeviceId}
use Rattle.records.specs.declared.trace.InputDelivery.{InputDelivery}
use Rattle.input_events.specs.declared.event.GamepadMapping.TheVariants.{Standard}
use Rattle.input_events.specs.declared.event.InputDeviceKind.TheVariants.{Touch}
use Rattle.input_events.specs.declared.event.KeyPhase.{KeyPhase}
use Rattle.input_events.specs.declared.event.PlatformInputPayload.{PlatformInputPayload}
use Rattle.input_events.specs.declared.event.PlatformInputPayload.TheVariants as payload
use Rattle.input_events.specs.declared.event.PointerPhase.{PointerPhase}
use Rattle.calls.specs.declared.call.Call.{Call}
use Rattle.calls.specs.declared.call.Call.TheVariants.{Input, ReleaseDevice, Close, Router}
use Rattle.calls.specs.declared.call.CloseCall.TheVariants as close
use Rattle.calls.specs.declared.call.InputCall.TheVariants as input
use Rattle.calls.specs.declared.call.RouterCall.TheVariants as router
use Rattle.book.specs.Book.{Told, Held, Home, Book, capture_in}

-- ---- panels, views, devices
abbrev pub handle_at : ℕ → ℕ → GenerationalHandle
handle_at i g = record { index = i; generation = g }

-- the seat map and the hold bar in the first view, the pay sheet in the second
abbrev pub seat_map : GenerationalHandle
seat_map = handle_at 0 1

abbrev pub hold_bar : GenerationalHandle
hold_bar = handle_at 1 1

abbrev pub pay_sheet : GenerationalHandle
pay_sheet = handle_at 2 1

abbrev pub first_view : GenerationalHandle
first_view = handle_at 0 1

abbrev pub second_view : GenerationalHandle
second_view = handle_at 1 1

abbrev pub device_at : ℕ → ℕ → InputDeviceId
device_at value generation = record { value = value; generation = generation }

abbrev pub pointer_at : ℕ → ℕ → ℕ → CompositionPointerId
pointer_at value generation contact = record { device = value; device_generation = generation; contact = contact }

-- ---- presses: a contact, a key and the gamepad of a device on a panel
abbrev pub finger : ℕ → ℕ → ℕ → GenerationalHandle → Binding
finger value generation contact h = record { key = press.Pointer (pointer_at value generation contact); surface = h }

abbrev pub key_on : ℕ → ℕ → ℕ → GenerationalHandle → Binding
key_on value generation code h =
    record { key = press.Key (record { device = device_at value generation; physical_key = code }); surface = h }

abbrev pub gamepad_on : ℕ → ℕ → GenerationalHandle → Binding
gamepad_on value generation h = record { key = press.Gamepad (device_at value generation); surface = h }

-- ---- calls
abbrev pub event_of : InputDeviceId → GenerationalHandle → PlatformInputPayload → Call
event_of device view x = Router (router.Route (record {
  header = record {
    sequence = 1;
    timestamp_micros = 10;
    metrics_revision = 1;
    window = handle_at 0 1;
    view = view;
    device = device;
    device_kind = Touch;
    modifiers =
        record { shift = false; control = false; alt = false; meta = false; caps_lock = false; num_lock = false };
  };
  payload = x;
}))

abbrev pub contact_payload : ℕ → PointerPhase → PlatformInputPayload
contact_payload n phase = payload.Pointer (record {
  contact = n;
  phase = phase;
  x_milli = pos 0;
  y_milli = pos 0;
  delta_x_milli = pos 0;
  delta_y_milli = pos 0;
  pressure_q15 = 0;
  tilt_x_degrees = pos 0;
  tilt_y_degrees = pos 0;
  buttons = 0;
  changed_button = None;
})

-- contact 0, key 30 and the gamepad of device 7.1, in the first view
abbrev pub contact : PointerPhase → Call
contact phase = event_of (device_at 7 1) first_view (contact_payload 0 phase)

abbrev pub key_event : ℕ → ℕ → KeyPhase → Bool → Call
key_event value generation phase repeat =
    event_of (device_at value generation) first_view (payload.Key (record {
      phase =
          phase;
      physical_key = 30;
      repeat = repeat;
    }))

abbrev pub snapshot : ℕ → ℕ → Bool → Call
snapshot value generation connected =
    event_of (device_at value generation) first_view (payload.GamepadSnapshot (record {
      connected =
          connected;
      mapping = Standard;
    }))

abbrev pub unplugged : Call
unplugged = event_of (device_at 7 1) first_view payload.DeviceDisconnected

abbrev pub focused : Bool → Call
focused gained = event_of (device_at 7 1) first_view (payload.FocusChanged gained)

abbrev pub visible : Bool → Call
visible gained = event_of (device_at 7 1) first_view (payload.VisibilityChanged gained)

abbrev pub panel_released : GenerationalHandle → Call
panel_released h = Router (router.ReleaseSurface h)

abbrev pub all_released : Call
all_released = Router router.ReleaseAll

abbrev pub capture_for : CompositionPointerId → GenerationalHandle → Call
capture_for p h = Input (input.CapturePointerFor (record { pointer = p; surface = h; revision = 1 }))

abbrev pub release_for : CompositionPointerId → GenerationalHandle → Call
release_for p h = Input (input.ReleasePointerFor (record { pointer = p; surface = h; revision = 1 }))

abbrev pub suspended : GenerationalHandle → Call
suspended view = Input (input.SuspendViewInput (record { handle = view; revision = 1 }))

abbrev pub device_let_go : Call
device_let_go = ReleaseDevice (record { device = 7; device_generation = 1 })

abbrev pub panel_closed : GenerationalHandle → Call
panel_closed h = Close (close.CloseSurface h)

-- ---- answers
abbrev pub answer : ℕ → Option GenerationalHandle → List InputDelivery → Told
answer n consumer deliveries = record { number = n; handle = None; consumer = consumer; deliveries = deliveries }

-- accepted, with nobody who takes it, or with a consumer
abbrev pub accepted : Told
accepted = answer 0 None []

abbrev pub taken_by : GenerationalHandle → Told
taken_by h = answer 0 (Some h) []

abbrev pub refused_with : ℕ → Told
refused_with n = answer n None []

abbrev pub made : GenerationalHandle → Told
made h = record { number = 0; handle = Some h; consumer = None; deliveries = [] }

abbrev pub delivery : GenerationalHandle → Bool → InputDelivery
delivery h observed = record { surface = h; observed = observed }

-- ---- books
abbrev pub homes : List Home
homes = record { surface = pay_sheet; view = second_view } ∷ record { surface = hold_bar; view = first_view }
    ∷ record { surface = seat_map; view = first_view } ∷ []

abbrev pub book_of : List Binding → List Held → Book
book_of presses captures = record { presses = presses; captures = captures; homes = homes }

abbrev pub pressed : List Binding → Book
pressed presses = book_of presses []

abbrev pub capturing : List Held → Book
capturing captures = book_of [] captures

-- a contact of device 7.1, held in a view by a panel
abbrev pub grip : ℕ → GenerationalHandle → GenerationalHandle → Held
grip contact view h = capture_in view (pointer_at 7 1 contact) h
