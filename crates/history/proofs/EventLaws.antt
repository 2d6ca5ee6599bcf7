-- Every routed event is right: refused by a check, or recorded, which changes no press, and then a disconnect, a view's loss or an arbitration.
use Rattle.input_events.specs.RouterErrors.{RouterOutcome}
use Rattle.records.specs.declared.error.CompositionError.{CompositionError}
use Rattle.std.specs.Prelude.{None, Option, Some, Result, Ok, Err}
use Rattle.std.specs.Result.{result_and}
use mathlib.Core.Path.{◌≡◌, refl, sym, ap, ◌∙◌, subst}
use mathlib.Core.Bool.{true, false}
use mathlib.Core.List.{[]}
use Rattle.lists.specs.Tables.{entries_of}
use Rattle.lists.proofs.ListLaws.{by_test}
use Rattle.lists.proofs.TableLaws.{entries_packed}
use Rattle.handles.specs.declared.GenerationalHandle.{GenerationalHandle}
use Rattle.composition_state.specs.declared.registry.CompositionRegistry.{CompositionRegistry}
use Rattle.records.specs.Traces.{deliveries}
use Rattle.composition_arbitration.specs.Arbitration.{Arbitrated}
use Rattle.composition_arbitration.specs.declared.arbitrate.ArbitrationResult.{ArbitrationResult}
use Rattle.composition_arbitration.specs.Arbitration.{arbitrated}
use Rattle.composition_arbitration.proofs.CallClaimLaws as arbitration
use Rattle.composition_soundness.specs.Claims.{Undamaged}
use Rattle.input_events.specs.declared.error.PlatformInputError.TheVariants as error
use Rattle.input_events.specs.declared.event.PlatformInputEvent.{PlatformInputEvent}
use Rattle.input_events.specs.declared.event.PlatformInputHeader.{PlatformInputHeader}
use Rattle.input_events.specs.declared.event.PlatformInputPayload.{PlatformInputPayload}
use Rattle.input_events.specs.declared.event.PlatformInputPayload.TheVariants.{Pointer, Wheel, Key, Shortcut, Text, Composition, GamepadSnapshot, FocusChanged, VisibilityChanged, DeviceDisconnected}
use Rattle.input_events.specs.ArbitrationEvents.{arbitration_event, is_loss, is_disconnect}
use Rattle.input_events.specs.Checks.{event_refusal}
use Rattle.input_events.specs.Presses.{effect_of, receiver_of}
use Rattle.input_router.specs.declared.router.PlatformInputRouter.{PlatformInputRouter}
use Rattle.input_router.specs.Damage.{is_router_sound}
use Rattle.input_router.specs.Order.{has_place}
use Rattle.release_lists.specs.Releases.{releases}
use Rattle.input_router.specs.Router.{presses_of}
use Rattle.input_router.proofs.ClaimLaws as router
use Rattle.input_route.specs.Checks.{effect_refusal, route_refusal}
use Rattle.input_route.specs.Route.{held_for, hits_for, tracked, arbitrated_after, routed_arbitration, routed_payload, recorded_event, routed_after, routed}
use Rattle.calls.specs.declared.call.Call.TheVariants.{Router}
use Rattle.calls.specs.declared.call.Lists.{Lists}
use Rattle.calls.specs.declared.call.RouterCall.TheVariants.{Route}
use Rattle.book.specs.Book.{Told, Book}
use Rattle.book.specs.Notes.{receiver, payload_change, router_change, change}
use Rattle.book.specs.Owed.{nothing, payload_concern, router_concern, concern, is_same_press_of, is_same_release, none_twice, without_concerned}
use Rattle.registry_book.specs.Agreement.{is_open}
use Rattle.registry_book.proofs.ClaimLaws as registry
use Rattle.counter.specs.declared.step.Counter.{Counter}
use Rattle.counter.specs.Step.{router_step, stepped}
use Rattle.history.proofs.SafeLaws.{Safe, recorded_room, checked}
use Rattle.history.proofs.JoinLaws.{Joined, accepted, nothing_owed, nothing_twice}
use Rattle.history.proofs.RegistryLaws.{same_quiet, follow, Goes}
use Rattle.history.proofs.RouteLaws.{at, route_entry, RouteGoes, route_refused, route_noted, device_seen, view_seen}
use Rattle.history.proofs.LossLaws.{disconnect_goes, loss_goes}
use Rattle.history.proofs.TrackLaws.{change_for, payload_changes, payload_concerns, receiver_is, receiver_open, tracked_joined}

module _ (l : Lists) (r : CompositionRegistry) (t : PlatformInputRouter) (b : Book) (u : Undamaged r) (s : is_router_sound t ≡ true) (j : Joined None (at r t) b) where
  -- ---- an event that is arbitrated
  module _ (e : PlatformInputEvent) (here : is_disconnect e.payload ≡ false) (seen : is_loss e.payload ≡ false) (room : effect_refusal t (effect_of e) ≡ Ok tt) where
    abbrev answer : Arbitrated
    answer = arbitrated r e.header.view (arbitration_event e (held_for t e)) (hits_for r e)

    abbrev to : ArbitrationResult → Option GenerationalHandle
    to y = receiver_of y.consumed_by y.deliveries

    live_receiver : (y : ArbitrationResult) → answer.outcome ≡ Ok y → (h : GenerationalHandle) → to y ≡ Some h → is_open r h ≡ true
    live_receiver y q = receiver_open r y.consumed_by y.deliveries
        (λ h k. (registry.claims).consumed r e.header.view h (arbitration_event e (held_for t e)) (hits_for r e) u y q k)
        ((registry.claims).delivered r e.header.view (arbitration_event e (held_for t e)) (hits_for r e) u y q)

    -- it concerns nothing, and its change of a press is the router's
    idle : concern (Router (Route e)) ≡ nothing
    unfolding concern router_concern
    idle = payload_concerns e.header.device e.header.view e.payload here seen

    same_change : (y : ArbitrationResult) (a : Told) → a.consumer ≡ y.consumed_by → a.deliveries ≡ entries_of deliveries y.deliveries → change (Router (Route e)) a ≡ change_for (effect_of e) (to y)
    unfolding change router_change
    same_change y a c d =
        (λ i. payload_change e.payload e.header.device (receiver (c i) (d i)))
        ∙ ap (payload_change e.payload e.header.device) (receiver_is y.consumed_by y.deliveries)
        ∙ payload_changes e.header.device e.payload (to y)

    arbitrated_after_lem : (o : Result ArbitrationResult CompositionError) → answer.outcome ≡ o → RouteGoes l b e (arbitrated_after answer t e o)
    unfolding none_twice without_concerned
    arbitrated_after_lem (Ok y) q a =
        let f = (registry.claims).arbitrate r b e.header.view (arbitration_event e (held_for t e)) (hits_for r e) u j.shared.agrees
        (ap (λ (o : Result ArbitrationResult CompositionError). result_and o (Ok tt)) q) in
        let after = answer.registry in
        let x = route_entry l e (arbitrated_after answer t e (Ok y)) in
        accepted x b (at after (tracked t (effect_of e) (to y))) refl
        (nothing_owed x b (concern (Router (Route e))) idle (entries_packed releases [])) (ap (none_twice is_same_release) (entries_packed releases []))
        (nothing_twice is_same_press_of b (concern (Router (Route e))) idle)
        (subst (Joined None (at after (tracked t (effect_of e) (to y)))) (sym (route_noted l e _ b nothing (change_for (effect_of e) (to y)) idle (same_change y _ refl refl)))
        (tracked_joined after t b s (follow (at r t) b b after j f (same_quiet b j.shared.captures_rise)) (effect_of e) (to y) room (λ h k. (f.keeps.stays h (live_receiver y q h k)).0)))
    arbitrated_after_lem (Err x) q a =
        route_refused l b e (error.Composition x) answer.registry t
        (subst (λ (after : CompositionRegistry). Joined None (at after t) b) (sym (arbitration.refused r e.header.view (arbitration_event e (held_for t e)) (hits_for r e) x q)) j) a

    arbitration_goes : RouteGoes l b e (routed_arbitration r t e)
    unfolding routed_arbitration
    arbitration_goes = arbitrated_after_lem answer.outcome refl

  -- ---- each payload
  module _ (h : PlatformInputHeader) where
    abbrev event : PlatformInputPayload → PlatformInputEvent
    event p = record { header = h; payload = p }

    payload_goes : (p : PlatformInputPayload) → event_refusal r.views (event p) ≡ Ok tt → effect_refusal t (effect_of (event p)) ≡ Ok tt → RouteGoes l b (event p) (routed_payload r t (event p))
    unfolding routed_payload is_disconnect is_loss concern router_concern payload_concern change router_change payload_change
    payload_goes (Pointer p) c room = arbitration_goes (event (Pointer p)) refl refl room
    payload_goes (Wheel w) c room = arbitration_goes (event (Wheel w)) refl refl room
    payload_goes (Key k) c room = arbitration_goes (event (Key k)) refl refl room
    payload_goes (Shortcut x) c room = arbitration_goes (event (Shortcut x)) refl refl room
    payload_goes (Text x) c room = arbitration_goes (event (Text x)) refl refl room
    payload_goes (Composition x) c room = arbitration_goes (event (Composition x)) refl refl room
    payload_goes (GamepadSnapshot g) c room = arbitration_goes (event (GamepadSnapshot g)) refl refl room
    payload_goes (FocusChanged true) c room = arbitration_goes (event (FocusChanged true)) refl refl room
    payload_goes (FocusChanged false) c room = loss_goes l r t b u s j (event (FocusChanged false)) (λ a. refl) h.view (view_seen r (event (FocusChanged false)) c) refl
    payload_goes (VisibilityChanged true) c room = arbitration_goes (event (VisibilityChanged true)) refl refl room
    payload_goes (VisibilityChanged false) c room = loss_goes l r t b u s j (event (VisibilityChanged false)) (λ a. refl) h.view (view_seen r (event (VisibilityChanged false)) c) refl
    payload_goes DeviceDisconnected c room = disconnect_goes l r t b u s j (event DeviceDisconnected) (λ a. refl) h.device (device_seen r (event DeviceDisconnected) c) refl

-- what is recorded of an event changes no press
recorded_presses : (t : PlatformInputRouter) (e : PlatformInputEvent) → presses_of (recorded_event t e) ≡ presses_of t
recorded_presses t e = by_test (has_place t e.header.device) (λ k. rw k) (λ k. rw k)

recorded_joined : (r : CompositionRegistry) (t : PlatformInputRouter) (e : PlatformInputEvent) (b : Book) → Joined None (at r t) b → Joined None (at r (recorded_event t e)) b
recorded_joined r t e b j = record { shared = j.shared; own = record { presses = recorded_presses t e ∙ j.own.presses; hosted = j.own.hosted } }

route_after : (l : Lists) (c : Counter) (b : Book) → Safe c → Joined None c b → (e : PlatformInputEvent) (o : RouterOutcome) → route_refusal c.registry c.router e ≡ o → RouteGoes l b e (routed_after c.registry c.router e o)
route_after l c b v j e (Ok _) q =
    let seen = checked c.registry c.router e q in
    payload_goes l c.registry (recorded_event c.router e) b v.registry
    ((router.claims).recorded_sound c.router e.header.device e.header.sequence e.header.timestamp_micros v.router)
    (recorded_joined c.registry c.router e b j) e.header e.payload seen.event (recorded_room c.router e (effect_of e) ∙ seen.room)
route_after l c b v j e (Err x) q = route_refused l b e x c.registry c.router j

pub route_goes : (c : Counter) (b : Book) → Safe c → Joined None c b → (l : Lists) (e : PlatformInputEvent) → Goes c b (Router (Route e)) l
unfolding stepped router_step routed
route_goes c b v j l e = route_after l c b v j e (route_refusal c.registry c.router e) refl
