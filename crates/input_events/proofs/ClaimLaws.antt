-- The claims about events, by the cases of the definitions; that no number is of two cases, by reading the case back from its number.
use Rattle.handles.specs.declared.GenerationalHandle.{GenerationalHandle}
use Rattle.std.specs.Prelude.{Option, None, Some}
use Prim.Native.Nat.{ℕ, suc, ◌≤◌}
use mathlib.Core.Path.{◌≡◌, refl, sym, ap, ◌∙◌}
use mathlib.Core.Bool.{Bool, true, false, cond, ◌||◌}
use native.Mathlib.Omega.{arith}
use borrow.Author.Tests.{eqb-true, eqb-false}
use lib.Dec.{eqb, ltb, leb}
use Rattle.lists.proofs.ListLaws.{by_test, clash}
use Rattle.maps.specs.declared.keys.BindingKey.{BindingKey}
use Rattle.maps.specs.declared.keys.CompositionPointerId.{CompositionPointerId}
use Rattle.maps.specs.declared.keys.InputDeviceId.{InputDeviceId}
use Rattle.records.specs.Errors.{error_number}
use Rattle.records.specs.declared.error.CompositionError.{CompositionError}
use Rattle.records.specs.declared.error.CompositionError.TheVariants as composition
use Rattle.input_events.specs.declared.error.PlatformInputError.{PlatformInputError}
use Rattle.input_events.specs.declared.error.PlatformInputError.TheVariants as error
use Rattle.input_events.specs.declared.event.CompositionInput.{CompositionInput}
use Rattle.input_events.specs.declared.event.KeyPhase.{KeyPhase}
use Rattle.input_events.specs.declared.event.KeyPhase.TheVariants as K
use Rattle.input_events.specs.declared.event.PlatformInputPayload.{PlatformInputPayload}
use Rattle.input_events.specs.declared.event.PlatformInputPayload.TheVariants.{Pointer, Wheel, Key, Shortcut, Text, Composition, GamepadSnapshot, FocusChanged, VisibilityChanged, DeviceDisconnected}
use Rattle.input_events.specs.declared.event.PointerInput.{PointerInput}
use Rattle.input_events.specs.declared.event.PointerPhase.{PointerPhase}
use Rattle.input_events.specs.declared.event.PointerPhase.TheVariants as P
use Rattle.input_events.specs.RouterErrors.{router_error_number}
use Rattle.input_events.specs.Checks.{is_upright, payload_refusal}
use Rattle.input_events.specs.Presses.{press_in, pointer_effect, key_effect, gamepad_effect, effect_in}
use Rattle.input_events.specs.ArbitrationEvents.{pointer_event, key_event, gamepad_event, shortcut_event, arbitration_event_in, is_aimed, needs_hits}
use Rattle.input_events.specs.Claims.{PressureRows, TiltRows, SelectionRows, is_own, OwnOf, touched, is_stack_for, EventClaims}

-- ---- the rows of the counter table
pressure_rows : (p : PointerInput) → eqb p.contact 4294967295 ≡ false → PressureRows p
unfolding payload_refusal
pressure_rows p contact = record {
  passes = λ x y pressure. rw (contact, pressure, x, y);
  refused = λ pressure. rw (contact, pressure);
}

tilt_rows : (p : PointerInput) → eqb p.contact 4294967295 ≡ false → ltb 32768 p.pressure_q15 ≡ false → TiltRows p
unfolding payload_refusal
tilt_rows p contact pressure = record {
  x_passes = λ y x. rw (contact, pressure, x, y);
  y_passes = λ x y. rw (contact, pressure, x, y);
  x_refused = λ x. rw (contact, pressure, x);
  y_refused = λ y. by_test (is_upright p.tilt_x_degrees) (λ x. rw (contact, pressure, x, y)) (λ x. rw (contact, pressure, x));
}

selection_rows : (c : CompositionInput) → c.length ≡ 3 → SelectionRows c
unfolding payload_refusal
selection_rows c long = record {
  passes = λ start end. rw (start, end, long);
  past_end = λ start end. rw (start, end, long);
  backwards = λ start end. rw (start, end);
}

-- ---- the numbers
-- the case of a number
abbrev own_at : ℕ → PlatformInputError
own_at n =
    cond (eqb n 31) error.InvalidDevice
    (cond (eqb n 32) error.InvalidSequence
    (cond (eqb n 33) error.InvalidTimestamp
    (cond (eqb n 34) error.InvalidPointer
    (cond (eqb n 35) error.InvalidPressure
    (cond (eqb n 36) error.InvalidTilt
    (cond (eqb n 37) error.InvalidTextSelection
    (cond (eqb n 38) error.InvalidShortcut
    (cond (eqb n 39) error.InvalidWindow
    (cond (eqb n 40) error.Capacity
    (cond (eqb n 41) error.PortLimit error.Damaged))))))))))

back : (e : PlatformInputError) → is_own e ≡ true → own_at (router_error_number e) ≡ e
back error.InvalidDevice h = refl
back error.InvalidSequence h = refl
back error.InvalidTimestamp h = refl
back error.InvalidPointer h = refl
back error.InvalidPressure h = refl
back error.InvalidTilt h = refl
back error.InvalidTextSelection h = refl
back error.InvalidShortcut h = refl
back error.InvalidWindow h = refl
back error.Capacity h = refl
back error.PortLimit h = refl
back error.Damaged h = refl
back (error.Composition e) h = clash h refl

-- a number is that of a case, or greater
pick : (n k : ℕ) (e : PlatformInputError) → is_own e ≡ true → router_error_number e ≡ k → (suc k ≤ n → OwnOf n) → k ≤ n → OwnOf n
pick n k e own numbered next h =
    by_test (eqb n k)
    (λ t. record { refusal = e; own = own; numbered = numbered ∙ sym (eqb-true n k t) })
    (λ t. next (omega (arith, eqb-false n k t, h)))

some_case : (n : ℕ) → 31 ≤ n → n ≤ 42 → OwnOf n
some_case n low high =
    pick n 31 error.InvalidDevice refl refl
    (pick n 32 error.InvalidSequence refl refl
    (pick n 33 error.InvalidTimestamp refl refl
    (pick n 34 error.InvalidPointer refl refl
    (pick n 35 error.InvalidPressure refl refl
    (pick n 36 error.InvalidTilt refl refl
    (pick n 37 error.InvalidTextSelection refl refl
    (pick n 38 error.InvalidShortcut refl refl
    (pick n 39 error.InvalidWindow refl refl
    (pick n 40 error.Capacity refl refl
    (pick n 41 error.PortLimit refl refl
    (pick n 42 error.Damaged refl refl
    (λ past. absurd (omega arith))))))))))))) low

carried : (e : CompositionError) → (leb (error_number e) 22 || leb 41 (error_number e)) ≡ true
carried composition.InvalidConfig = refl
carried composition.InvalidOwner = refl
carried composition.Capacity = refl
carried composition.PerViewCapacity = refl
carried composition.InvalidWindow = refl
carried composition.StaleWindow = refl
carried composition.WindowInUse = refl
carried composition.InvalidView = refl
carried composition.StaleView = refl
carried composition.ViewInUse = refl
carried composition.InvalidSurface = refl
carried composition.StaleSurface = refl
carried composition.InvalidGeometry = refl
carried composition.InvalidMetrics = refl
carried composition.InvalidSurfaceState = refl
carried composition.StaleSurfaceGeneration = refl
carried composition.WrongView = refl
carried composition.NotInteractive = refl
carried composition.TextUnsupported = refl
carried composition.RevisionConflict = refl
carried composition.RevisionExhausted = refl
carried composition.GenerationExhausted = refl
carried composition.PortLimit = refl
carried composition.Damaged = refl

-- ---- the press of an event
none≢some {ℓ} : {P : Type ℓ} {press : BindingKey} → None ≡ Some press → P
none≢some {P} {press} q = let z : ◌≡◌ {A = ℕ} 0 1 = cc in absurd (omega arith)

module _ (own press : BindingKey) where
  of_pointer : (phase : PointerPhase) → touched (pointer_effect phase own) ≡ Some press → Some own ≡ Some press
  of_pointer P.Down h = h
  of_pointer P.Move h = none≢some h
  of_pointer P.Up h = h
  of_pointer P.Cancel h = h

  of_key : (phase : KeyPhase) (repeat : Bool) → touched (key_effect phase repeat own) ≡ Some press → Some own ≡ Some press
  of_key K.Down true h = none≢some h
  of_key K.Down false h = h
  of_key K.Up repeat h = h

  of_gamepad : (connected : Bool) → touched (gamepad_effect connected own) ≡ Some press → Some own ≡ Some press
  of_gamepad true h = h
  of_gamepad false h = h

own_press : (d : InputDeviceId) (payload : PlatformInputPayload) (press : BindingKey) → touched (effect_in d payload) ≡ Some press → press_in d payload ≡ Some press
unfolding effect_in press_in
own_press d (Pointer p) press h = of_pointer _ press p.phase h
own_press d (Wheel w) press h = h
own_press d (Key k) press h = of_key _ press k.phase k.repeat h
own_press d (Shortcut s) press h = h
own_press d (Text t) press h = h
own_press d (Composition c) press h = h
own_press d (GamepadSnapshot g) press h = of_gamepad _ press g.connected h
own_press d (FocusChanged focused) press h = h
own_press d (VisibilityChanged visible) press h = h
own_press d DeviceDisconnected press h = h

-- ---- the hits of an event
module _ (held : Option GenerationalHandle) where
  aimed : (phase : PointerPhase) (pointer : CompositionPointerId) → is_aimed phase ≡ is_stack_for (pointer_event phase pointer held)
  aimed P.Down pointer = refl
  aimed P.Move pointer = refl
  aimed P.Up pointer = refl
  aimed P.Cancel pointer = refl

  by_key : (phase : KeyPhase) → false ≡ is_stack_for (key_event phase held)
  by_key K.Down = refl
  by_key K.Up = refl

  by_gamepad : (connected : Bool) → false ≡ is_stack_for (gamepad_event connected held)
  by_gamepad true = refl
  by_gamepad false = refl

by_shortcut : (system : Bool) (mask : ℕ) → false ≡ is_stack_for (shortcut_event system mask)
by_shortcut true mask = refl
by_shortcut false mask = refl

hits_asked : (d : InputDeviceId) (payload : PlatformInputPayload) (held : Option GenerationalHandle) → needs_hits payload ≡ is_stack_for (arbitration_event_in d payload held)
unfolding needs_hits arbitration_event_in
hits_asked d (Pointer p) held = aimed held p.phase _
hits_asked d (Wheel w) held = refl
hits_asked d (Key k) held = by_key held k.phase
hits_asked d (Shortcut s) held = by_shortcut s.system s.class_mask
hits_asked d (Text t) held = refl
hits_asked d (Composition c) held = refl
hits_asked d (GamepadSnapshot g) held = by_gamepad held g.connected
hits_asked d (FocusChanged focused) held = refl
hits_asked d (VisibilityChanged visible) held = refl
hits_asked d DeviceDisconnected held = refl

pub claims : EventClaims
claims = record {
  pressure = pressure_rows;
  tilt = tilt_rows;
  selection = selection_rows;
  some_case = some_case;
  one_case = λ e f p q same. sym (back e p) ∙ ap own_at same ∙ back f q;
  carried = carried;
  own_press = λ e. own_press e.header.device e.payload;
  hits_asked = hits_asked;
}
