-- RULES.md, Presses: "A press is a pointer, a device's key or its gamepad".
use Rattle.handles.specs.declared.GenerationalHandle.{GenerationalHandle}
use Rattle.std.specs.Prelude.{ℕ, Bool, true, false, not, Option, None, Some}
use Rattle.lists.specs.Lists.{first}
use Rattle.lists.specs.Tables.{entries_of}
use Rattle.maps.specs.declared.keys.BindingKey.{BindingKey}
use Rattle.maps.specs.declared.keys.BindingKey.TheVariants as B
use Rattle.maps.specs.declared.keys.CompositionPointerId.{CompositionPointerId}
use Rattle.maps.specs.declared.keys.InputDeviceId.{InputDeviceId}
use Rattle.records.specs.Traces.{Deliveries, deliveries}
use Rattle.records.specs.declared.trace.InputDelivery.{InputDelivery}
use Rattle.input_events.specs.declared.event.KeyPhase.{KeyPhase}
use Rattle.input_events.specs.declared.event.KeyPhase.TheVariants as K
use Rattle.input_events.specs.declared.event.PlatformInputEvent.{PlatformInputEvent}
use Rattle.input_events.specs.declared.event.PlatformInputPayload.{PlatformInputPayload}
use Rattle.input_events.specs.declared.event.PlatformInputPayload.TheVariants.{Pointer, Wheel, Key, Shortcut, Text, Composition, GamepadSnapshot, FocusChanged, VisibilityChanged, DeviceDisconnected}
use Rattle.input_events.specs.declared.event.PointerPhase.{PointerPhase}
use Rattle.input_events.specs.declared.event.PointerPhase.TheVariants as P
use Rattle.input_events.specs.declared.presses.Effect.{Effect}
use Rattle.input_events.specs.declared.presses.Effect.TheVariants.{Opens, Ends, Nothing}

-- a contact of a device, as the press of a pointer; and a device's key
abbrev pub pointer_of : InputDeviceId → ℕ → CompositionPointerId
pointer_of d contact = record { device = d.value; device_generation = d.generation; contact = contact }

abbrev pub pointer_press : InputDeviceId → ℕ → BindingKey
pointer_press d contact = B.Pointer (pointer_of d contact)

abbrev pub key_press : InputDeviceId → ℕ → BindingKey
key_press d key = B.Key (record { device = d; physical_key = key })

-- the press that an event concerns: a wheel, a shortcut, a text and a composition have none
unfoldable pub press_in : InputDeviceId → PlatformInputPayload → Option BindingKey
press_in d (Pointer p) = Some (pointer_press d p.contact)
press_in d (Wheel w) = None
press_in d (Key k) = Some (key_press d k.physical_key)
press_in d (Shortcut s) = None
press_in d (Text t) = None
press_in d (Composition c) = None
press_in d (GamepadSnapshot g) = Some (B.Gamepad d)
press_in d (FocusChanged focused) = None
press_in d (VisibilityChanged visible) = None
press_in d DeviceDisconnected = None

abbrev pub press_of : PlatformInputEvent → Option BindingKey
press_of e = press_in e.header.device e.payload

-- "A pointer Down, a key Down without repeat or a connected snapshot with a receiver opens the press or moves it to the
-- new receiver"
-- "Up, Cancel or a disconnected snapshot ends it, even if its panel was not delivered to."
abbrev pub pointer_effect : PointerPhase → BindingKey → Effect
pointer_effect P.Down press = Opens press
pointer_effect P.Move press = Nothing
pointer_effect P.Up press = Ends press
pointer_effect P.Cancel press = Ends press

abbrev pub key_effect : KeyPhase → Bool → BindingKey → Effect
key_effect K.Down true press = Nothing
key_effect K.Down false press = Opens press
key_effect K.Up repeat press = Ends press

-- "A disconnected snapshot is a gamepad's Up and not its device's disconnect."
abbrev pub gamepad_effect : Bool → BindingKey → Effect
gamepad_effect true press = Opens press
gamepad_effect false press = Ends press

unfoldable pub effect_in : InputDeviceId → PlatformInputPayload → Effect
effect_in d (Pointer p) = pointer_effect p.phase (pointer_press d p.contact)
effect_in d (Wheel w) = Nothing
effect_in d (Key k) = key_effect k.phase k.repeat (key_press d k.physical_key)
effect_in d (Shortcut s) = Nothing
effect_in d (Text t) = Nothing
effect_in d (Composition c) = Nothing
effect_in d (GamepadSnapshot g) = gamepad_effect g.connected (B.Gamepad d)
effect_in d (FocusChanged focused) = Nothing
effect_in d (VisibilityChanged visible) = Nothing
effect_in d DeviceDisconnected = Nothing

abbrev pub effect_of : PlatformInputEvent → Effect
effect_of e = effect_in e.header.device e.payload

-- "The receiver is the consumer, else the first unobserved delivery."
abbrev pub is_unobserved : InputDelivery → Bool
is_unobserved d = not d.observed

abbrev pub delivery_surface : Option InputDelivery → Option GenerationalHandle
delivery_surface None = None
delivery_surface (Some d) = Some d.surface

unfoldable pub receiver_of : Option GenerationalHandle → Deliveries → Option GenerationalHandle
receiver_of None l = delivery_surface (first is_unobserved (entries_of deliveries l))
receiver_of (Some consumer) l = Some consumer
