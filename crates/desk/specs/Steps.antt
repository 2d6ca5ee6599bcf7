-- RULES.md, Desk: the eight steps. "Device 7.1, contact 0."
use Rattle.std.specs.Prelude.{ℕ, false, cond, eqb, pos, Some}
use Rattle.input_events.specs.declared.event.InputDeviceKind.TheVariants.{Touch}
use Rattle.input_events.specs.declared.event.InputModifiers.{InputModifiers}
use Rattle.input_events.specs.declared.event.PlatformInputHeader.{PlatformInputHeader}
use Rattle.input_events.specs.declared.event.PlatformInputPayload.{PlatformInputPayload}
use Rattle.input_events.specs.declared.event.PlatformInputPayload.TheVariants.{Pointer, DeviceDisconnected}
use Rattle.input_events.specs.declared.event.PointerInput.{PointerInput}
use Rattle.input_events.specs.declared.event.PointerPhase.TheVariants.{Down}
use Rattle.calls.specs.declared.call.Call.{Call}
use Rattle.calls.specs.declared.call.Call.TheVariants.{Close, Router}
use Rattle.calls.specs.declared.call.CloseCall.TheVariants.{CloseSurface}
use Rattle.calls.specs.declared.call.RouterCall.TheVariants.{Route, ReleaseSurface}
use Rattle.desk.specs.declared.opening.Places.{Places}

abbrev pub no_modifiers : InputModifiers
no_modifiers =
    record { shift = false; control = false; alt = false; meta = false; caps_lock = false; num_lock = false }

abbrev pub header_of : Places → ℕ → ℕ → PlatformInputHeader
header_of p sequence time = record {
  sequence = sequence;
  timestamp_micros = time;
  metrics_revision = p.metrics_revision;
  window = p.window;
  view = p.view;
  device = record { value = 7; generation = 1 };
  device_kind = Touch;
  modifiers = no_modifiers;
}

abbrev pub route_call : Places → ℕ → ℕ → PlatformInputPayload → Call
route_call p sequence time payload = Router (Route (record { header = header_of p sequence time; payload = payload }))

-- a Down at the view's origin
abbrev pub press : PointerInput
press = record {
  contact = 0;
  phase = Down;
  x_milli = pos 0;
  y_milli = pos 0;
  delta_x_milli = pos 0;
  delta_y_milli = pos 0;
  pressure_q15 = 16384;
  tilt_x_degrees = pos 0;
  tilt_y_degrees = pos 0;
  buttons = 1;
  changed_button = Some 0;
}

abbrev pub down_call : Places → ℕ → ℕ → Call
down_call p sequence time = route_call p sequence time (Pointer press)

abbrev pub disconnect_call : Places → ℕ → ℕ → Call
disconnect_call p sequence time = route_call p sequence time DeviceDisconnected

-- "1 Down (sequence 1, time 10); 2 close pay sheet; 3 release it in the router; 4 Down (2, 10); 5 the same again;
-- 6 disconnect (3, 11); 7 Down (1, 9); 8 Down (1, 11)."
unfoldable pub call_of : Places → ℕ → Call
call_of p step =
    cond (eqb step 1) (down_call p 1 10)
    (cond (eqb step 2) (Close (CloseSurface p.pay_sheet))
    (cond (eqb step 3) (Router (ReleaseSurface p.pay_sheet))
    (cond (eqb step 4) (down_call p 2 10)
    (cond (eqb step 5) (down_call p 2 10)
    (cond (eqb step 6) (disconnect_call p 3 11)
    (cond (eqb step 7) (down_call p 1 9)
    (down_call p 1 11)))))))
