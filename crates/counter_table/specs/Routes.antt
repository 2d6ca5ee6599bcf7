-- RULES.md, Counter table: the rows of pressure, tilt and selection, of what `route` answers to the event.
use Rattle.std.specs.Prelude.{ℕ, ◌≡◌, true, pos, neg_ℤ, Ok}
use Rattle.maps.specs.Keys.{device_valid}
use Rattle.composition_state.specs.declared.registry.CompositionRegistry.{CompositionRegistry}
use Rattle.composition_state.specs.Damage.{is_sound}
use Rattle.input_events.specs.declared.event.CompositionInput.{CompositionInput}
use Rattle.input_events.specs.declared.event.PlatformInputEvent.{PlatformInputEvent}
use Rattle.input_events.specs.declared.event.PointerInput.{PointerInput}
use Rattle.input_events.specs.Checks.{is_upright, header_refusal}
use Rattle.input_events.specs.RouterErrors.{router_number_of}
use Rattle.input_router.specs.declared.router.PlatformInputRouter.{PlatformInputRouter}
use Rattle.input_router.specs.Damage.{is_router_sound}
use Rattle.input_route.specs.Checks.{room_refusal, order_refusal}
use Rattle.input_route.specs.Route.{recorded_event, routed_payload, routed}
use Rattle.input_releases.specs.Answers.{routed_outcome}

-- REFUSALS.md's number of an event's answer
abbrev pub route_number : CompositionRegistry → PlatformInputRouter → PlatformInputEvent → ℕ
route_number r t e = router_number_of (routed_outcome (routed r t e))

-- the event passes what `route` tests before the payload: 42, 31, 8/9, 39, 20
pub record Arrives (r : CompositionRegistry) (t : PlatformInputRouter) (e : PlatformInputEvent) : Type 0 where
  pub registry : is_sound r ≡ true
  pub router : is_router_sound t ≡ true
  pub device : device_valid e.header.device ≡ true
  pub header : header_refusal r.views e.header ≡ Ok tt

-- and what it tests after the payload: 40, 32, 33, 41
pub record Fits (t : PlatformInputRouter) (e : PlatformInputEvent) : Type 0 where
  pub room : room_refusal t e ≡ Ok tt
  pub order : order_refusal t e.header ≡ Ok tt

-- the event passes every test: it is recorded and goes on to its work
abbrev pub Passes : CompositionRegistry → PlatformInputRouter → PlatformInputEvent → Type 0
Passes r t e = routed r t e ≡ routed_payload r (recorded_event t e) e

-- "Pressure 32,768 passes, 32,769 is 35"
pub record PressureRouted (r : CompositionRegistry) (t : PlatformInputRouter) (e : PlatformInputEvent)
    (p : PointerInput) : Type 0 where
  pub passes : Fits t e → is_upright p.tilt_x_degrees ≡ true → is_upright p.tilt_y_degrees ≡ true
      → p.pressure_q15 ≡ 32768 → Passes r t e
  pub refused : p.pressure_q15 ≡ 32769 → route_number r t e ≡ 35

-- "Tilt 90 passes, -91 is 36", on either axis
pub record TiltRouted (r : CompositionRegistry) (t : PlatformInputRouter) (e : PlatformInputEvent)
    (p : PointerInput) : Type 0 where
  pub x_passes : Fits t e → is_upright p.tilt_y_degrees ≡ true → p.tilt_x_degrees ≡ pos 90 → Passes r t e
  pub y_passes : Fits t e → is_upright p.tilt_x_degrees ≡ true → p.tilt_y_degrees ≡ pos 90 → Passes r t e
  pub x_refused : p.tilt_x_degrees ≡ neg_ℤ (pos 91) → route_number r t e ≡ 36
  pub y_refused : p.tilt_y_degrees ≡ neg_ℤ (pos 91) → route_number r t e ≡ 36

-- "Selection 2 to 3 in 3 bytes passes; 3 to 4 and 2 to 1 are 37"
pub record SelectionRouted (r : CompositionRegistry) (t : PlatformInputRouter) (e : PlatformInputEvent)
    (c : CompositionInput) : Type 0 where
  pub passes : Fits t e → c.selection_start ≡ 2 → c.selection_end ≡ 3 → Passes r t e
  pub past_end : c.selection_start ≡ 3 → c.selection_end ≡ 4 → route_number r t e ≡ 37
  pub backwards : c.selection_start ≡ 2 → c.selection_end ≡ 1 → route_number r t e ≡ 37
