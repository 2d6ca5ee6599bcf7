-- An event to arbitrate and a routed one are read back from their numbers, kind by kind.
use mathlib.Core.Path.{◌≡◌, refl, ap}
use Rattle.lists.specs.Lists.{pad}
use Rattle.handles.specs.declared.GenerationalHandle.{GenerationalHandle}
use Rattle.records.specs.declared.trace.ArbitrationEvent.{ArbitrationEvent}
use Rattle.records.specs.declared.trace.ArbitrationEvent.TheVariants as event
use Rattle.input_events.specs.declared.event.PlatformInputHeader.{PlatformInputHeader}
use Rattle.input_events.specs.declared.event.PlatformInputPayload.{PlatformInputPayload}
use Rattle.input_events.specs.declared.event.PlatformInputPayload.TheVariants as payload
use Rattle.calls.specs.declared.call.Call.TheVariants as call
use Rattle.calls.specs.declared.call.RouterCall.{RouterCall}
use Rattle.calls.specs.declared.call.RouterCall.TheVariants as router
use Rattle.call_fields.specs.Back.{device_kind_back, key_phase_back, pointer_phase_back, wheel_unit_back, composition_phase_back, mapping_back}
use Rattle.call_fields.specs.Back.{within_back, flag_back, signed_back, short_back}
use Rattle.call_numbers.specs.Arbitrations.{event_numbers, event_at, arbitrate_numbers}
use Rattle.call_numbers.specs.Calls.{call_at}
use Rattle.call_numbers.specs.Events.{header_at, modifiers_at, router_numbers, router_at}
use Rattle.call_numbers.specs.Fits.{FitsEvent, FitsHeader, FitsPayload, FitsRouter}
use Rattle.call_numbers.specs.Payloads.{payload_numbers, payload_at, pointer_at, wheel_at, key_at, composition_at, gamepad_at}
use Rattle.call_numbers.proofs.FieldLaws.{handle_back, optional_back, pointer_back, button_back}

pub event_back : (v : GenerationalHandle) (e : ArbitrationEvent) → FitsEvent e → event_at (pad 32 0 (arbitrate_numbers (record { view = v; event = e }))) ≡ e
unfolding event_at event_numbers
event_back v (event.Pointer hit) f = ap event.Pointer (optional_back hit f)
event_back v event.PointerStack f = refl
event_back v (event.PointerFor pointer hit) f = λ i. event.PointerFor (pointer_back pointer f.0 i) (optional_back hit f.1 i)
event_back v (event.PointerStackFor pointer) f = ap event.PointerStackFor (pointer_back pointer f)
event_back v event.Keyboard f = refl
event_back v (event.KeyboardFor target) f = ap event.KeyboardFor (optional_back target f)
event_back v event.Gamepad f = refl
event_back v (event.GamepadFor target) f = ap event.GamepadFor (optional_back target f)
event_back v event.Text f = refl
event_back v event.Shortcut f = refl
event_back v (event.SystemShortcut mask) f = refl

payload_back : (h : PlatformInputHeader) (p : PlatformInputPayload) → FitsPayload p → payload_at (pad 32 0 (router_numbers (router.Route (record { header = h; payload = p })))) ≡ p
unfolding router_numbers payload_at payload_numbers pointer_at wheel_at key_at composition_at gamepad_at
payload_back h (payload.Pointer p) f = λ i. payload.Pointer (record {
  contact = within_back _ _ f.contact i;
  phase = pointer_phase_back p.phase i;
  x_milli = signed_back _ f.x i;
  y_milli = signed_back _ f.y i;
  delta_x_milli = signed_back _ f.delta_x i;
  delta_y_milli = signed_back _ f.delta_y i;
  pressure_q15 = within_back 65536 _ f.pressure i;
  tilt_x_degrees = short_back _ f.tilt_x i;
  tilt_y_degrees = short_back _ f.tilt_y i;
  buttons = within_back _ _ f.buttons i;
  changed_button = button_back p.changed_button f.changed_button i;
})
payload_back h (payload.Wheel p) f = λ i. payload.Wheel (record {
  contact = within_back _ _ f.contact i;
  x_milli = signed_back _ f.x i;
  y_milli = signed_back _ f.y i;
  delta_x_milli = signed_back _ f.delta_x i;
  delta_y_milli = signed_back _ f.delta_y i;
  unit = wheel_unit_back p.unit i;
})
payload_back h (payload.Key p) f = λ i. payload.Key (record { phase = key_phase_back p.phase i; physical_key = within_back 4294967296 _ f i; repeat = flag_back p.repeat i })
payload_back h (payload.Shortcut p) f = λ i. payload.Shortcut (record { class_mask = p.class_mask; system = flag_back p.system i })
payload_back h (payload.Text p) f = λ i. payload.Text (record { length = within_back 4294967296 _ f i })
payload_back h (payload.Composition p) f = λ i. payload.Composition (record {
  phase = composition_phase_back p.phase i;
  length = within_back 4294967296 _ f.0 i;
  selection_start = within_back 4294967296 _ f.1 i;
  selection_end = within_back 4294967296 _ f.2 i;
})
payload_back h (payload.GamepadSnapshot p) f = λ i. payload.GamepadSnapshot (record { connected = flag_back p.connected i; mapping = mapping_back p.mapping i })
payload_back h (payload.FocusChanged b) f = ap payload.FocusChanged (flag_back b)
payload_back h (payload.VisibilityChanged b) f = ap payload.VisibilityChanged (flag_back b)
payload_back h payload.DeviceDisconnected f = refl

header_back : (h : PlatformInputHeader) (p : PlatformInputPayload) → FitsHeader h → header_at (pad 32 0 (router_numbers (router.Route (record { header = h; payload = p })))) ≡ h
unfolding router_numbers header_at modifiers_at
header_back h p f = λ i. record {
  sequence = h.sequence;
  timestamp_micros = h.timestamp_micros;
  metrics_revision = h.metrics_revision;
  window = handle_back h.window f.window i;
  view = handle_back h.view f.view i;
  device = record { value = h.device.value; generation = within_back 4294967296 _ f.device i };
  device_kind = device_kind_back h.device_kind i;
  modifiers = record {
    shift = flag_back h.modifiers.shift i;
    control = flag_back h.modifiers.control i;
    alt = flag_back h.modifiers.alt i;
    meta = flag_back h.modifiers.meta i;
    caps_lock = flag_back h.modifiers.caps_lock i;
    num_lock = flag_back h.modifiers.num_lock i;
  };
}

pub router_back : (c : RouterCall) → FitsRouter c → call_at (pad 32 0 (router_numbers c)) ≡ call.Router c
unfolding call_at router_at router_numbers
router_back (router.Route e) f = λ i. call.Router (router.Route (record { header = header_back e.header e.payload f.0 i; payload = payload_back e.header e.payload f.1 i }))
router_back (router.ReleaseSurface h) f = λ i. call.Router (router.ReleaseSurface (handle_back h f i))
router_back router.ReleaseAll f = refl
