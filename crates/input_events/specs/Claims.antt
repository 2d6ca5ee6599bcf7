-- What holds of the events' definitions: rows of RULES.md, Counter table, the numbers, and the press of an event.
use Rattle.handles.specs.declared.GenerationalHandle.{GenerationalHandle}
use Rattle.std.specs.Prelude.{ℕ, ◌≤◌, ◌≡◌, Bool, true, false, ◌||◌, eqb, ltb, leb, pos, neg_ℤ, Option, None, Some}
use Rattle.maps.specs.declared.keys.BindingKey.{BindingKey}
use Rattle.maps.specs.declared.keys.InputDeviceId.{InputDeviceId}
use Rattle.records.specs.Errors.{error_number}
use Rattle.records.specs.declared.error.CompositionError.{CompositionError}
use Rattle.records.specs.declared.trace.ArbitrationEvent.{ArbitrationEvent}
use Rattle.records.specs.declared.trace.ArbitrationEvent.TheVariants as A
use Rattle.input_events.specs.declared.error.PlatformInputError.{PlatformInputError}
use Rattle.input_events.specs.declared.error.PlatformInputError.TheVariants as error
use Rattle.input_events.specs.declared.event.CompositionInput.{CompositionInput}
use Rattle.input_events.specs.declared.event.PlatformInputEvent.{PlatformInputEvent}
use Rattle.input_events.specs.declared.event.PlatformInputPayload.{PlatformInputPayload}
use Rattle.input_events.specs.declared.event.PlatformInputPayload.TheVariants.{Pointer, Composition}
use Rattle.input_events.specs.declared.event.PointerInput.{PointerInput}
use Rattle.input_events.specs.declared.presses.Effect.{Effect}
use Rattle.input_events.specs.declared.presses.Effect.TheVariants.{Opens, Ends, Nothing}
use Rattle.input_events.specs.RouterErrors.{router_error_number, router_number_of}
use Rattle.input_events.specs.Checks.{is_upright, payload_refusal}
use Rattle.input_events.specs.Presses.{press_of, effect_of}
use Rattle.input_events.specs.ArbitrationEvents.{arbitration_event_in, needs_hits}

abbrev pub pointer_number : PointerInput → ℕ
pointer_number p = router_number_of (payload_refusal (Pointer p))

abbrev pub selection_number : CompositionInput → ℕ
selection_number c = router_number_of (payload_refusal (Composition c))

-- Counter table: "Pressure 32,768 passes, 32,769 is 35", for every pointer whose contact and tilts are allowed
pub record PressureRows (p : PointerInput) : Type 0 where
  pub passes : is_upright p.tilt_x_degrees ≡ true → is_upright p.tilt_y_degrees ≡ true → p.pressure_q15
      ≡ 32768 → pointer_number p ≡ 0
  pub refused : p.pressure_q15 ≡ 32769 → pointer_number p ≡ 35

-- Counter table: "Tilt 90 passes, -91 is 36", on either axis, for every pointer whose contact and pressure are allowed
pub record TiltRows (p : PointerInput) : Type 0 where
  pub x_passes : is_upright p.tilt_y_degrees ≡ true → p.tilt_x_degrees ≡ pos 90 → pointer_number p ≡ 0
  pub y_passes : is_upright p.tilt_x_degrees ≡ true → p.tilt_y_degrees ≡ pos 90 → pointer_number p ≡ 0
  pub x_refused : p.tilt_x_degrees ≡ neg_ℤ (pos 91) → pointer_number p ≡ 36
  pub y_refused : p.tilt_y_degrees ≡ neg_ℤ (pos 91) → pointer_number p ≡ 36

-- Counter table: "Selection 2 to 3 in 3 bytes passes; 3 to 4 and 2 to 1 are 37"
pub record SelectionRows (c : CompositionInput) : Type 0 where
  pub passes : c.selection_start ≡ 2 → c.selection_end ≡ 3 → selection_number c ≡ 0
  pub past_end : c.selection_start ≡ 3 → c.selection_end ≡ 4 → selection_number c ≡ 37
  pub backwards : c.selection_start ≡ 2 → c.selection_end ≡ 1 → selection_number c ≡ 37

-- whether a refusal is the router's own
abbrev pub is_own : PlatformInputError → Bool
is_own error.InvalidDevice = true
is_own error.InvalidSequence = true
is_own error.InvalidTimestamp = true
is_own error.InvalidPointer = true
is_own error.InvalidPressure = true
is_own error.InvalidTilt = true
is_own error.InvalidTextSelection = true
is_own error.InvalidShortcut = true
is_own error.InvalidWindow = true
is_own error.Capacity = true
is_own error.PortLimit = true
is_own error.Damaged = true
is_own (error.Composition e) = false

-- a refusal of the router's own with a number
pub record OwnOf (n : ℕ) : Type 0 where
  pub refusal : PlatformInputError
  pub own : is_own refusal ≡ true
  pub numbered : router_error_number refusal ≡ n

-- the press that an effect opens or ends
abbrev pub touched : Effect → Option BindingKey
touched (Opens press) = Some press
touched (Ends press) = Some press
touched Nothing = None

-- an arbitration by the hits at a named pointer's point
abbrev pub is_stack_for : ArbitrationEvent → Bool
is_stack_for (A.Pointer hit) = false
is_stack_for A.PointerStack = false
is_stack_for (A.PointerFor pointer hit) = false
is_stack_for (A.PointerStackFor pointer) = true
is_stack_for A.Keyboard = false
is_stack_for (A.KeyboardFor target) = false
is_stack_for A.Gamepad = false
is_stack_for (A.GamepadFor target) = false
is_stack_for A.Text = false
is_stack_for A.Shortcut = false
is_stack_for (A.SystemShortcut mask) = false

pub record EventClaims : Type 0 where
  pub pressure : (p : PointerInput) → eqb p.contact 4294967295 ≡ false → PressureRows p
  pub tilt : (p : PointerInput) → eqb p.contact 4294967295 ≡ false → ltb 32768 p.pressure_q15 ≡ false
      → TiltRows p
  pub selection : (c : CompositionInput) → c.length ≡ 3 → SelectionRows c
  -- each number from 31 to 42 is of exactly one of the router's own refusals
  pub some_case : (n : ℕ) → 31 ≤ n → n ≤ 42 → OwnOf n
  pub one_case : (e f : PlatformInputError) → is_own e ≡ true → is_own f ≡ true → router_error_number e
      ≡ router_error_number f → e ≡ f
  -- of these only 41 and 42 are also numbers of the registry's refusals
  pub carried : (e : CompositionError) → (leb (error_number e) 22 || leb 41 (error_number e)) ≡ true
  -- an event opens or ends only the press that it concerns
  pub own_press : (e : PlatformInputEvent) (press : BindingKey) → touched (effect_of e) ≡ Some press → press_of e
      ≡ Some press
  -- the hits are asked for exactly where the targets are the hits
  pub hits_asked : (d : InputDeviceId) (payload : PlatformInputPayload) (held : Option GenerationalHandle) → needs_hits payload
      ≡ is_stack_for (arbitration_event_in d payload held)
