-- What an event asks the registry to arbitrate (RULES.md, Targets), and which events release instead (Release order).
use Rattle.handles.specs.declared.GenerationalHandle.{GenerationalHandle}
use Rattle.std.specs.Prelude.{ℕ, Bool, true, false, not, pos, Option}
use Rattle.geometry.specs.declared.transform.Point.{Point}
use Rattle.maps.specs.declared.keys.CompositionPointerId.{CompositionPointerId}
use Rattle.maps.specs.declared.keys.InputDeviceId.{InputDeviceId}
use Rattle.records.specs.declared.trace.ArbitrationEvent.{ArbitrationEvent}
use Rattle.records.specs.declared.trace.ArbitrationEvent.TheVariants as A
use Rattle.input_events.specs.declared.event.KeyPhase.{KeyPhase}
use Rattle.input_events.specs.declared.event.KeyPhase.TheVariants as K
use Rattle.input_events.specs.declared.event.PlatformInputEvent.{PlatformInputEvent}
use Rattle.input_events.specs.declared.event.PlatformInputPayload.{PlatformInputPayload}
use Rattle.input_events.specs.declared.event.PlatformInputPayload.TheVariants.{Pointer, Wheel, Key, Shortcut, Text, Composition, GamepadSnapshot, FocusChanged, VisibilityChanged, DeviceDisconnected}
use Rattle.input_events.specs.declared.event.PointerInput.{PointerInput}
use Rattle.input_events.specs.declared.event.PointerPhase.{PointerPhase}
use Rattle.input_events.specs.declared.event.PointerPhase.TheVariants as P
use Rattle.input_events.specs.declared.event.WheelInput.{WheelInput}
use Rattle.input_events.specs.Presses.{pointer_of}

-- Targets, "An event that names its pointer": Down and Move aim by the hits, Up and Cancel by the panel that holds the
-- press
abbrev pub pointer_event : PointerPhase → CompositionPointerId → Option GenerationalHandle → ArbitrationEvent
pointer_event P.Down pointer held = A.PointerStackFor pointer
pointer_event P.Move pointer held = A.PointerStackFor pointer
pointer_event P.Up pointer held = A.PointerFor pointer held
pointer_event P.Cancel pointer held = A.PointerFor pointer held

-- Targets, "KeyboardFor and GamepadFor: the target given": what ends a press goes to the panel that holds it
abbrev pub key_event : KeyPhase → Option GenerationalHandle → ArbitrationEvent
key_event K.Down held = A.Keyboard
key_event K.Up held = A.KeyboardFor held

abbrev pub gamepad_event : Bool → Option GenerationalHandle → ArbitrationEvent
gamepad_event true held = A.Gamepad
gamepad_event false held = A.GamepadFor held

abbrev pub shortcut_event : Bool → ℕ → ArbitrationEvent
shortcut_event true mask = A.SystemShortcut mask
shortcut_event false mask = A.Shortcut

-- an Up, a Cancel and a disconnected snapshot ask for the panel that has their press, so that it can be told; a Down, a
-- Move and a wheel ask for the hits. Of a view's focus or visibility only the gain is arbitrated, as the Rust's
-- `FocusChanged { .. } | VisibilityChanged { .. } => Ok(ArbitrationEvent::Keyboard)`. A disconnect never is (the Rust
-- has
-- `unreachable!()` there), so nothing rests on its row.
unfoldable pub arbitration_event_in : InputDeviceId → PlatformInputPayload → Option GenerationalHandle → ArbitrationEvent
arbitration_event_in d (Pointer p) held = pointer_event p.phase (pointer_of d p.contact) held
arbitration_event_in d (Wheel w) held = A.PointerStackFor (pointer_of d w.contact)
arbitration_event_in d (Key k) held = key_event k.phase held
arbitration_event_in d (Shortcut s) held = shortcut_event s.system s.class_mask
arbitration_event_in d (Text t) held = A.Text
arbitration_event_in d (Composition c) held = A.Text
arbitration_event_in d (GamepadSnapshot g) held = gamepad_event g.connected held
arbitration_event_in d (FocusChanged focused) held = A.Keyboard
arbitration_event_in d (VisibilityChanged visible) held = A.Keyboard
arbitration_event_in d DeviceDisconnected held = A.Keyboard

abbrev pub arbitration_event : PlatformInputEvent → Option GenerationalHandle → ArbitrationEvent
arbitration_event e held = arbitration_event_in e.header.device e.payload held

-- Hit test: the events whose targets are the hits at their point
abbrev pub is_aimed : PointerPhase → Bool
is_aimed P.Down = true
is_aimed P.Move = true
is_aimed P.Up = false
is_aimed P.Cancel = false

unfoldable pub needs_hits : PlatformInputPayload → Bool
needs_hits (Pointer p) = is_aimed p.phase
needs_hits (Wheel w) = true
needs_hits (Key k) = false
needs_hits (Shortcut s) = false
needs_hits (Text t) = false
needs_hits (Composition c) = false
needs_hits (GamepadSnapshot g) = false
needs_hits (FocusChanged focused) = false
needs_hits (VisibilityChanged visible) = false
needs_hits DeviceDisconnected = false

abbrev pub pointer_point : PointerInput → Point
pointer_point p = record { x_milli = p.x_milli; y_milli = p.y_milli }

abbrev pub wheel_point : WheelInput → Point
wheel_point w = record { x_milli = w.x_milli; y_milli = w.y_milli }

-- the point of an event that has none, which nothing reads
abbrev pub no_point : Point
no_point = record { x_milli = pos 0; y_milli = pos 0 }

unfoldable pub point_of : PlatformInputPayload → Point
point_of (Pointer p) = pointer_point p
point_of (Wheel w) = wheel_point w
point_of (Key k) = no_point
point_of (Shortcut s) = no_point
point_of (Text t) = no_point
point_of (Composition c) = no_point
point_of (GamepadSnapshot g) = no_point
point_of (FocusChanged focused) = no_point
point_of (VisibilityChanged visible) = no_point
point_of DeviceDisconnected = no_point

-- Presses: "a view's loss (of focus or visibility)"
unfoldable pub is_loss : PlatformInputPayload → Bool
is_loss (Pointer p) = false
is_loss (Wheel w) = false
is_loss (Key k) = false
is_loss (Shortcut s) = false
is_loss (Text t) = false
is_loss (Composition c) = false
is_loss (GamepadSnapshot g) = false
is_loss (FocusChanged focused) = not focused
is_loss (VisibilityChanged visible) = not visible
is_loss DeviceDisconnected = false

-- Presses: "on a disconnect"; a disconnected snapshot is none
unfoldable pub is_disconnect : PlatformInputPayload → Bool
is_disconnect (Pointer p) = false
is_disconnect (Wheel w) = false
is_disconnect (Key k) = false
is_disconnect (Shortcut s) = false
is_disconnect (Text t) = false
is_disconnect (Composition c) = false
is_disconnect (GamepadSnapshot g) = false
is_disconnect (FocusChanged focused) = false
is_disconnect (VisibilityChanged visible) = false
is_disconnect DeviceDisconnected = true
