-- An event that passes the tests before its payload's is answered the payload's number; and it goes on to its work if that is 0 and the tests after it pass.
use Rattle.std.specs.Prelude.{Ok, Err}
use Rattle.std.specs.Result.{result_and}
use Prim.Native.Nat.{ℕ}
use mathlib.Core.Path.{◌≡◌, refl, sym, ap, ◌∙◌}
use mathlib.Core.Bool.{false}
use lib.Dec.{eqb, ltb}
use native.Mathlib.Omega.{arith}
use Rattle.composition_state.specs.declared.registry.CompositionRegistry.{CompositionRegistry}
use Rattle.input_events.specs.declared.event.CompositionInput.{CompositionInput}
use Rattle.input_events.specs.declared.event.PlatformInputEvent.{PlatformInputEvent}
use Rattle.input_events.specs.declared.event.PlatformInputPayload.{PlatformInputPayload}
use Rattle.input_events.specs.declared.event.PlatformInputPayload.TheVariants.{Pointer, Composition}
use Rattle.input_events.specs.declared.event.PointerInput.{PointerInput}
use Rattle.input_events.specs.Checks.{payload_refusal, event_refusal}
use Rattle.input_events.specs.RouterErrors.{router_number_of, RouterOutcome}
use Rattle.input_events.proofs.ClaimLaws as events
use Rattle.input_router.specs.declared.router.PlatformInputRouter.{PlatformInputRouter}
use Rattle.input_route.specs.Checks.{room_refusal, order_refusal, route_refusal}
use Rattle.input_route.specs.Route.{routed_after, routed}
use Rattle.counter_table.specs.Routes.{route_number, Arrives, Fits, Passes, PressureRouted, TiltRouted, SelectionRouted}
use Rattle.input_releases.specs.Answers.{routed_outcome}

module _ (r : CompositionRegistry) (t : PlatformInputRouter) (e : PlatformInputEvent) (x : Arrives r t e) where
  -- what is left of the checks
  payload_first : route_refusal r t e ≡ result_and (payload_refusal e.payload) (result_and (room_refusal t e) (order_refusal t e.header))
  unfolding route_refusal event_refusal
  payload_first = rw (x.registry, x.router, x.device, x.header)

  stops : (o rest : RouterOutcome) → (router_number_of o ≡ 0 → ⊥) → router_number_of (routed_outcome (routed_after r t e (result_and o rest))) ≡ router_number_of o
  stops (Ok _) rest n = absurd (n refl)
  stops (Err y) rest n = refl

  refused : (n : ℕ) → (n ≡ 0 → ⊥) → router_number_of (payload_refusal e.payload) ≡ n → route_number r t e ≡ n
  unfolding routed
  refused n some q =
      ap (λ (o : RouterOutcome). router_number_of (routed_outcome (routed_after r t e o))) payload_first
      ∙ stops (payload_refusal e.payload) _ (λ z. some (sym q ∙ z)) ∙ q

  passes : Fits t e → payload_refusal e.payload ≡ Ok tt → Passes r t e
  unfolding routed
  passes y q =
      let all : route_refusal r t e ≡ Ok tt = payload_first ∙ rw (q, y.room, y.order) in
      ap (routed_after r t e) all

  -- ---- the rows, of a payload that is known
  module _ (p : PointerInput) (is : e.payload ≡ Pointer p) (contact : eqb p.contact 4294967295 ≡ false) where
    number_of : (n : ℕ) → (n ≡ 0 → ⊥) → router_number_of (payload_refusal (Pointer p)) ≡ n → route_number r t e ≡ n
    number_of n some q = refused n some (ap (λ (z : PlatformInputPayload). router_number_of (payload_refusal z)) is ∙ q)

    pass : Fits t e → payload_refusal (Pointer p) ≡ Ok tt → Passes r t e
    pass z q = passes z (ap payload_refusal is ∙ q)

    pub pressure_routed : PressureRouted r t e p
    unfolding payload_refusal
    pressure_routed = record {
      passes = λ z x y pressure. pass z (rw (contact, pressure, x, y));
      refused = λ q. number_of 35 (λ z. omega arith) (((events.claims).pressure p contact).refused q);
    }

    pub tilt_routed : ltb 32768 p.pressure_q15 ≡ false → TiltRouted r t e p
    unfolding payload_refusal
    tilt_routed pressure = record {
      x_passes = λ z y x. pass z (rw (contact, pressure, x, y));
      y_passes = λ z x y. pass z (rw (contact, pressure, x, y));
      x_refused = λ q. number_of 36 (λ z. omega arith) (((events.claims).tilt p contact pressure).x_refused q);
      y_refused = λ q. number_of 36 (λ z. omega arith) (((events.claims).tilt p contact pressure).y_refused q);
    }

  module _ (c : CompositionInput) (is : e.payload ≡ Composition c) (long : c.length ≡ 3) where
    text_number : (n : ℕ) → (n ≡ 0 → ⊥) → router_number_of (payload_refusal (Composition c)) ≡ n → route_number r t e ≡ n
    text_number n some q = refused n some (ap (λ (z : PlatformInputPayload). router_number_of (payload_refusal z)) is ∙ q)

    pub selection_routed : SelectionRouted r t e c
    unfolding payload_refusal
    selection_routed = record {
      passes = λ z start end. passes z (ap payload_refusal is ∙ rw (start, end, long));
      past_end = λ start end. text_number 37 (λ z. omega arith) (((events.claims).selection c long).past_end start end);
      backwards = λ start end. text_number 37 (λ z. omega arith) (((events.claims).selection c long).backwards start end);
    }
