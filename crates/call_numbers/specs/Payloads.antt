-- The payloads of a routed event, by kind in the declared order: the kind, then its fields; and read from their places.
use Rattle.std.specs.Prelude.{ℕ, cond, List, [], ◌∷◌, eqb, get_or}
use Rattle.std.specs.Int.{w16, w32}
use Rattle.std.proofs.Common.{of_z}
use Rattle.input_events.specs.declared.event.CompositionInput.{CompositionInput}
use Rattle.input_events.specs.declared.event.GamepadInput.{GamepadInput}
use Rattle.input_events.specs.declared.event.KeyInput.{KeyInput}
use Rattle.input_events.specs.declared.event.PlatformInputPayload.{PlatformInputPayload}
use Rattle.input_events.specs.declared.event.PlatformInputPayload.TheVariants.{Pointer, Wheel, Key, Shortcut, Text, Composition, GamepadSnapshot, FocusChanged, VisibilityChanged, DeviceDisconnected}
use Rattle.input_events.specs.declared.event.PointerInput.{PointerInput}
use Rattle.input_events.specs.declared.event.WheelInput.{WheelInput}
use Rattle.call_fields.specs.EventChoices.{composition_phase_of, composition_phase_number, key_phase_of, key_phase_number, mapping_of, mapping_number, pointer_phase_of, pointer_phase_number, wheel_unit_of, wheel_unit_number}
use Rattle.call_fields.specs.Groups.{button_of, button_numbers}
use Rattle.call_fields.specs.Narrow.{within, is_one, one_if, signed_of, short_of}

unfoldable pub payload_numbers : PlatformInputPayload → List ℕ
payload_numbers (Pointer p) =
    0 ∷ p.contact ∷ pointer_phase_number p.phase ∷ of_z w32 p.x_milli ∷ of_z w32 p.y_milli
    ∷ of_z w32 p.delta_x_milli ∷ of_z w32 p.delta_y_milli
    ∷ p.pressure_q15 ∷ of_z w16 p.tilt_x_degrees ∷ of_z w16 p.tilt_y_degrees ∷ p.buttons
    ∷ (button_numbers p.changed_button).present ∷ (button_numbers p.changed_button).button ∷ []
payload_numbers (Wheel p) =
    1 ∷ p.contact ∷ of_z w32 p.x_milli ∷ of_z w32 p.y_milli ∷ of_z w32 p.delta_x_milli
    ∷ of_z w32 p.delta_y_milli ∷ wheel_unit_number p.unit ∷ []
payload_numbers (Key p) = 2 ∷ key_phase_number p.phase ∷ p.physical_key ∷ one_if p.repeat ∷ []
payload_numbers (Shortcut p) = 3 ∷ p.class_mask ∷ one_if p.system ∷ []
payload_numbers (Text p) = 4 ∷ p.length ∷ []
payload_numbers (Composition p) =
    5 ∷ composition_phase_number p.phase ∷ p.length ∷ p.selection_start ∷ p.selection_end ∷ []
payload_numbers (GamepadSnapshot p) = 6 ∷ one_if p.connected ∷ mapping_number p.mapping ∷ []
payload_numbers (FocusChanged f) = 7 ∷ one_if f ∷ []
payload_numbers (VisibilityChanged f) = 8 ∷ one_if f ∷ []
payload_numbers DeviceDisconnected = 9 ∷ []

unfoldable pub pointer_at : List ℕ → PointerInput
pointer_at l = record {
  contact = within 4294967296 (get_or l 18 0);
  phase = pointer_phase_of (get_or l 19 0);
  x_milli = signed_of (get_or l 20 0);
  y_milli = signed_of (get_or l 21 0);
  delta_x_milli = signed_of (get_or l 22 0);
  delta_y_milli = signed_of (get_or l 23 0);
  pressure_q15 = within 65536 (get_or l 24 0);
  tilt_x_degrees = short_of (get_or l 25 0);
  tilt_y_degrees = short_of (get_or l 26 0);
  buttons = within 4294967296 (get_or l 27 0);
  changed_button = button_of (record { present = get_or l 28 0; button = get_or l 29 0 });
}

unfoldable pub wheel_at : List ℕ → WheelInput
wheel_at l = record {
  contact = within 4294967296 (get_or l 18 0);
  x_milli = signed_of (get_or l 19 0);
  y_milli = signed_of (get_or l 20 0);
  delta_x_milli = signed_of (get_or l 21 0);
  delta_y_milli = signed_of (get_or l 22 0);
  unit = wheel_unit_of (get_or l 23 0);
}

unfoldable pub key_at : List ℕ → KeyInput
key_at l =
    record {
      phase = key_phase_of (get_or l 18 0);
      physical_key = within 4294967296 (get_or l 19 0);
      repeat = is_one (get_or l 20 0);
    }

unfoldable pub composition_at : List ℕ → CompositionInput
composition_at l = record {
  phase = composition_phase_of (get_or l 18 0);
  length = within 4294967296 (get_or l 19 0);
  selection_start = within 4294967296 (get_or l 20 0);
  selection_end = within 4294967296 (get_or l 21 0);
}

unfoldable pub gamepad_at : List ℕ → GamepadInput
gamepad_at l = record { connected = is_one (get_or l 18 0); mapping = mapping_of (get_or l 19 0) }

-- the payload of a kind; any past the last is read as the last
unfoldable pub payload_at : List ℕ → PlatformInputPayload
payload_at l =
    cond (eqb (get_or l 17 0) 0) (Pointer (pointer_at l))
    (cond (eqb (get_or l 17 0) 1) (Wheel (wheel_at l))
    (cond (eqb (get_or l 17 0) 2) (Key (key_at l))
    (cond (eqb (get_or l 17 0) 3) (Shortcut (record { class_mask = get_or l 18 0; system = is_one (get_or l 19 0) }))
    (cond (eqb (get_or l 17 0) 4) (Text (record { length = within 4294967296 (get_or l 18 0) }))
    (cond (eqb (get_or l 17 0) 5) (Composition (composition_at l))
    (cond (eqb (get_or l 17 0) 6) (GamepadSnapshot (gamepad_at l))
    (cond (eqb (get_or l 17 0) 7) (FocusChanged (is_one (get_or l 18 0)))
    (cond (eqb (get_or l 17 0) 8) (VisibilityChanged (is_one (get_or l 18 0)))
    DeviceDisconnected))))))))
