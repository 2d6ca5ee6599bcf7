-- No call leaves a registry or a router that the damage test rejects, whatever it answers and whatever a refusal has
-- written, and none answers 42 to states that it accepts.
use Rattle.maps.specs.declared.bindings.Binding.{Binding}
use Rattle.std.specs.Prelude.{Option, None, Some, Result, Ok, Err}
use Rattle.std.specs.Result.{result_and}
use mathlib.Core.Path.{◌≡◌, refl, sym, ap, ◌∙◌, subst}
use mathlib.Core.Bool.{true, not, cond}
use borrow.Author.Tests.{not-false}
use Rattle.lists.proofs.ListLaws.{by_test, clash}
use Rattle.handles.specs.declared.GenerationalHandle.{GenerationalHandle}
use Rattle.maps.specs.declared.keys.InputDeviceId.{InputDeviceId}
use Rattle.records.specs.declared.error.CompositionError.{CompositionError}
use Rattle.records.specs.declared.error.CompositionError.TheVariants.{InvalidSurface, StaleSurface}
use Rattle.records.specs.Surfaces.{SurfaceTable, surface_status}
use Rattle.records.specs.Errors.{number_of, Outcome}
use Rattle.composition_state.specs.declared.registry.CompositionRegistry.{CompositionRegistry}
use Rattle.composition_input.specs.Captures.{CapturesReleased}
use Rattle.composition_input.specs.Focus.{Suspended}
use Rattle.composition_input.specs.Captures.{release_device_pointer_captures}
use Rattle.composition_input.specs.Focus.{suspend_view_input}
use Rattle.composition_arbitration.specs.Arbitration.{Arbitrated}
use Rattle.composition_arbitration.specs.declared.arbitrate.ArbitrationResult.{ArbitrationResult}
use Rattle.composition_state.specs.Registry.{outcome_of}
use Rattle.composition_arbitration.specs.Arbitration.{arbitrated}
use Rattle.composition_close.specs.Close.{close_surface}
use Rattle.composition_close.specs.Shutdown.{shutdown_of}
use Rattle.composition_soundness.specs.Claims.{Undamaged, Kept}
use Rattle.composition_soundness.proofs.CaseLaws.{either}
use Rattle.composition_soundness.proofs.ClaimLaws as registry
use Rattle.composition_soundness.proofs.ClearLaws.{status_clear}
use Rattle.input_events.specs.declared.error.PlatformInputError.TheVariants as error
use Rattle.input_events.specs.declared.event.PlatformInputEvent.{PlatformInputEvent}
use Rattle.input_events.specs.declared.presses.Effect.{Effect}
use Rattle.input_events.specs.declared.presses.Effect.TheVariants.{Opens, Ends, Nothing}
use Rattle.input_events.specs.ArbitrationEvents.{arbitration_event, is_loss, is_disconnect}
use Rattle.input_events.specs.Checks.{event_refusal}
use Rattle.input_events.specs.Presses.{effect_of}
use Rattle.release_lists.specs.Releases.{Releases}
use Rattle.input_router.specs.declared.router.PlatformInputRouter.{PlatformInputRouter}
use Rattle.input_router.specs.declared.releases.Released.{Released}
use Rattle.input_router.specs.declared.view_releases.ViewReleased.{ViewReleased}
use Rattle.input_router.specs.Damage.{is_router_sound}
use Rattle.input_router.specs.Order.{has_place}
use Rattle.input_router.specs.Presses.{has_room}
use Rattle.input_router.specs.Releases.{release_outcome, release_surface, release_all}
use Rattle.input_router.specs.Router.{presses_of}
use Rattle.input_router.specs.ViewReleases.{closed_refusal, first_closed, release_view}
use Rattle.input_router.proofs.ClaimLaws as router
use Rattle.input_releases.specs.declared.answer.Routed.{Routed}
use Rattle.input_route.specs.Checks.{damaged_refusal, effect_refusal, room_refusal, order_refusal, route_refusal}
use Rattle.input_releases.specs.Losses.{disconnect_after, routed_disconnect, loss_after, suspended_loss, loss_from, routed_loss}
use Rattle.input_route.specs.Route.{held_for, hits_for, tracked, arbitrated_after, routed_arbitration, routed_payload, recorded_event, routed_after, routed}
use Rattle.calls.specs.declared.call.Call.{Call}
use Rattle.calls.specs.declared.call.Call.TheVariants.{Panel, Input, ReleaseDevice, Shortcut, Arbitrate, Close, Router, Read}
use Rattle.calls.specs.declared.call.CloseCall.{CloseCall}
use Rattle.calls.specs.declared.call.CloseCall.TheVariants as close
use Rattle.calls.specs.declared.call.InputCall.TheVariants as input
use Rattle.calls.specs.declared.call.Lists.{Lists}
use Rattle.calls.specs.declared.call.ReadCall.{ReadCall}
use Rattle.calls.specs.declared.call.RouterCall.{RouterCall}
use Rattle.calls.specs.declared.call.RouterCall.TheVariants as route
use Rattle.registry_step.specs.Steps.{panel_step, input_step, shortcut_step}
use Rattle.read_step.specs.Reads.{read_step, outcome_of as read_outcome}
use Rattle.counter.specs.declared.step.Counter.{Counter}
use Rattle.counter.specs.declared.step.Stepped.{Stepped}
use Rattle.counter.specs.Step.{from_released, from_read, close_step, router_step, stepped}
use Rattle.input_events.specs.RouterErrors.{from_composition, RouterOutcome}
use Rattle.history.proofs.NumberLaws.{then_first, then_last, if_accepted}
use Rattle.history.proofs.ClearLaws.{is42, Clear, accepted, from_clear, route_clear, read_clear}
use Rattle.composition_state.proofs.SettleLaws.{without_value}
use Rattle.maps.specs.Bindings.{Bindings}
use Rattle.release_lists.specs.Captures.{CaptureList}
use Rattle.records.specs.declared.view.ViewInputState.{ViewInputState}
use Rattle.input_releases.specs.Answers.{routed_outcome}

-- the damage tests accept both states
pub record Safe (c : Counter) : Type 0 where
  pub registry : Undamaged c.registry
  pub router : is_router_sound c.router ≡ true

-- both states are safe after a call, and its answer is not 42
pub record SafeStep (s : Stepped) : Type 0 where
  pub safe : Safe s.counter
  pub clear : Clear s.answer.outcome

-- ---- the calls on the registry
kept_step : (o : Outcome) (r : CompositionRegistry) (t : PlatformInputRouter) (s : Stepped) → Kept o r → is_router_sound t ≡ true
    → s.counter ≡ record { registry = r; router = t } → s.answer.outcome ≡ from_composition o → SafeStep s
kept_step o r t s k sound q w = record {
  safe = subst Safe (sym q) (record { registry = k.undamaged; router = sound });
  clear = subst Clear (sym w) (from_clear o k.not_42);
}

-- ---- route, with what its refusals have written
record SafeRouted (x : Routed) : Type 0 where
  registry : Undamaged x.registry
  router : is_router_sound x.router ≡ true
  clear : Clear (routed_outcome x)

-- a refusal of the registry inside the router's
refused_clear : {T : Type 0} (o : Result T CompositionError) (e : CompositionError) → o ≡ Err e → (number_of (result_and o (Ok tt)) ≡ 42 → ⊥) → Clear (Err (error.Composition e))
refused_clear {T} o e q k = from_clear (Err e) (λ n. k (ap (λ (x : Result T CompositionError). number_of (result_and x (Ok tt))) q ∙ n))

disconnect_safe : (c : CapturesReleased) (t : PlatformInputRouter) (d : InputDeviceId) (o : Result CaptureList CompositionError) → c.outcome ≡ o → Kept (outcome_of c) c.registry → is_router_sound t ≡ true
    → SafeRouted (disconnect_after c t d o)
disconnect_safe c t d (Ok _) q k s = record { registry = k.undamaged; router = (router.claims).device_sound t d s; clear = accepted }
disconnect_safe c t d (Err e) q k s =
    record { registry = k.undamaged; router = (router.claims).device_presses_sound t d s; clear = refused_clear c.outcome e q k.not_42 }

suspend_safe : (x : Suspended) (t : PlatformInputRouter) (l : Releases) (o : Result ViewInputState CompositionError) → x.outcome ≡ o → Kept (outcome_of x) x.registry → is_router_sound t ≡ true
    → SafeRouted (loss_after x t l o)
suspend_safe x t l (Ok _) q k s = record { registry = k.undamaged; router = s; clear = accepted }
suspend_safe x t l (Err e) q k s = record { registry = k.undamaged; router = s; clear = refused_clear x.outcome e q k.not_42 }

-- a view's suspend is the call of that name with the registry's own revision
suspended : (r : CompositionRegistry) → Undamaged r → (view : GenerationalHandle) → Kept (outcome_of (suspend_view_input r view r.revision)) (suspend_view_input r view r.revision).registry
unfolding input_step
suspended r u view = (registry.claims).input r u (input.SuspendViewInput (record { handle = view; revision = r.revision }))

loss_safe : (r : CompositionRegistry) → Undamaged r → (view : GenerationalHandle) (x : ViewReleased) (o : Result Bindings CompositionError) → is_router_sound x.router ≡ true → (number_of (result_and o (Ok tt)) ≡ 42 → ⊥)
    → SafeRouted (loss_from r view x o)
unfolding suspended_loss
loss_safe r u view x (Ok _) s k =
    let y = suspend_view_input r view r.revision in
    suspend_safe y x.router _ y.outcome refl (suspended r u view) s
loss_safe r u view x (Err e) s k = record { registry = u; router = s; clear = from_clear (Err e) k }

tracked_safe : (t : PlatformInputRouter) (e : Effect) (to : Option GenerationalHandle) → is_router_sound t ≡ true → effect_refusal t e ≡ Ok tt → is_router_sound (tracked t e to) ≡ true
tracked_safe t (Opens key) None s room = s
tracked_safe t (Opens key) (Some h) s room = (router.claims).opened_sound t key h s (not-false (has_room t key) (if_accepted (not (has_room t key)) _ room))
tracked_safe t (Ends key) to s room = (router.claims).ended_sound t key s
tracked_safe t Nothing to s room = s

arbitrated_safe : (a : Arbitrated) (t : PlatformInputRouter) (e : PlatformInputEvent) (o : Result ArbitrationResult CompositionError) → a.outcome ≡ o → Kept (outcome_of a) a.registry → is_router_sound t ≡ true
    → effect_refusal t (effect_of e) ≡ Ok tt → SafeRouted (arbitrated_after a t e o)
arbitrated_safe a t e (Ok y) q k s room = record { registry = k.undamaged; router = tracked_safe t (effect_of e) _ s room; clear = accepted }
arbitrated_safe a t e (Err x) q k s room = record {
  registry = k.undamaged;
  router = s;
  clear = refused_clear a.outcome x q k.not_42;
}

-- what is recorded of an event leaves the room for its press
pub recorded_room : (t : PlatformInputRouter) (e : PlatformInputEvent) (f : Effect) → effect_refusal (recorded_event t e) f ≡ effect_refusal t f
recorded_room t e (Opens key) = by_test (has_place t e.header.device) (λ b. rw b) (λ b. rw b)
recorded_room t e (Ends key) = refl
recorded_room t e Nothing = refl

-- what the checks of an event have seen
pub record Checked (r : CompositionRegistry) (t : PlatformInputRouter) (e : PlatformInputEvent) : Type 0 where
  pub event : event_refusal r.views e ≡ Ok tt
  pub room : effect_refusal t (effect_of e) ≡ Ok tt

pub checked : (r : CompositionRegistry) (t : PlatformInputRouter) (e : PlatformInputEvent) → route_refusal r t e ≡ Ok tt → Checked r t e
unfolding route_refusal
checked r t e h =
    let rest = then_last (damaged_refusal r t) _ h in
    let work = then_last (event_refusal r.views e) _ rest in
    record { event = then_first (event_refusal r.views e) _ rest; room = then_first (room_refusal t e) (order_refusal t e.header) work }

-- 11 and 12 of a press's closed panel
closed_clear : (surfaces : SurfaceTable) (o : Option Binding) → number_of (closed_refusal surfaces o) ≡ 42 → ⊥
closed_clear surfaces None q = clash (ap is42 q) refl
closed_clear surfaces (Some x) q = clash (ap is42 q) (status_clear (surface_status surfaces x.surface) InvalidSurface StaleSurface refl refl).clear

module _ (r : CompositionRegistry) (u : Undamaged r) where
  disconnected : (t : PlatformInputRouter) (d : InputDeviceId) → is_router_sound t ≡ true → SafeRouted (routed_disconnect r t d)
  unfolding routed_disconnect
  disconnected t d s =
      let x = release_device_pointer_captures r d.value d.generation in
      disconnect_safe x t d x.outcome refl ((registry.claims).release_device r u d.value d.generation) s

  lost : (t : PlatformInputRouter) (view : GenerationalHandle) → is_router_sound t ≡ true → SafeRouted (routed_loss r t view)
  unfolding routed_loss release_view
  lost t view s =
      let x = release_view t r.surfaces view in
      loss_safe r u view x x.outcome ((router.claims).view_sound_lem t r.surfaces view s) (λ n. closed_clear r.surfaces (first_closed r.surfaces (presses_of t)) (ap number_of (sym (without_value _ _)) ∙ n))

  arbitrates : (t : PlatformInputRouter) (e : PlatformInputEvent) → is_router_sound t ≡ true → effect_refusal t (effect_of e) ≡ Ok tt → SafeRouted (routed_arbitration r t e)
  unfolding routed_arbitration
  arbitrates t e s room =
      let x = arbitrated r e.header.view (arbitration_event e (held_for t e)) (hits_for r e) in
      arbitrated_safe x t e x.outcome refl ((registry.claims).arbitrate r u e.header.view (arbitration_event e (held_for t e)) (hits_for r e)) s room

  payload_safe : (t : PlatformInputRouter) (e : PlatformInputEvent) → is_router_sound t ≡ true → effect_refusal t (effect_of e) ≡ Ok tt → SafeRouted (routed_payload r t e)
  unfolding routed_payload
  payload_safe t e s room =
      either SafeRouted (is_disconnect e.payload) (routed_disconnect r t e.header.device) (cond (is_loss e.payload) (routed_loss r t e.header.view) (routed_arbitration r t e))
      (disconnected t e.header.device s)
      (either SafeRouted (is_loss e.payload) (routed_loss r t e.header.view) (routed_arbitration r t e) (lost t e.header.view s) (arbitrates t e s room))

  route_safe : (t : PlatformInputRouter) (e : PlatformInputEvent) (o : RouterOutcome) → route_refusal r t e ≡ o → is_router_sound t ≡ true → SafeRouted (routed_after r t e o)
  route_safe t e (Ok _) q s =
      payload_safe (recorded_event t e) e ((router.claims).recorded_sound t e.header.device e.header.sequence e.header.timestamp_micros s)
      (recorded_room t e (effect_of e) ∙ (checked r t e q).room)
  route_safe t e (Err x) q s = record { registry = u; router = s; clear = subst Clear q (route_clear r t e u.sound s) }

-- ---- any call
close_safe : (c : Counter) → Safe c → (call : CloseCall) → SafeStep (close_step c call)
unfolding close_step
close_safe c v (close.CloseSurface h) =
    let x = close_surface c.registry h in
    kept_step (outcome_of x) x.registry c.router _ ((registry.claims).close_surface_lem c.registry v.registry h) v.router refl refl
close_safe c v close.Shutdown =
    let x = shutdown_of c.registry in
    kept_step (outcome_of x) x.registry c.router _ ((registry.claims).shutdown c.registry v.registry) v.router refl refl

released_safe : (c : Counter) → Safe c → (x : Released) → is_router_sound x.router ≡ true → release_outcome x ≡ Ok tt → SafeStep (from_released c.registry x)
released_safe c v x s q = record { safe = record { registry = v.registry; router = s }; clear = subst Clear (sym q) accepted }

router_safe : (c : Counter) → Safe c → (call : RouterCall) → SafeStep (router_step c call)
unfolding router_step routed release_surface release_all
router_safe c v (route.Route e) =
    let x = route_safe c.registry v.registry c.router e (route_refusal c.registry c.router e) refl v.router in
    record { safe = record { registry = x.registry; router = x.router }; clear = x.clear }
router_safe c v (route.ReleaseSurface h) = released_safe c v (release_surface c.router h) ((router.claims).surface_sound c.router h v.router) (rw v.router)
router_safe c v route.ReleaseAll = released_safe c v (release_all c.router) ((router.claims).all_sound c.router v.router) (rw v.router)

read_safe : (c : Counter) → Safe c → (call : ReadCall) → SafeStep (from_read c (read_step c.registry c.router call))
read_safe c v call = record { safe = v; clear = from_clear (read_outcome (read_step c.registry c.router call)) (read_clear c.registry c.router v.registry.sound v.router call) }

pub step_safe : (c : Counter) → Safe c → (call : Call) (l : Lists) → SafeStep (stepped c call l)
unfolding stepped
step_safe c v (Panel call) l =
    let x = panel_step c.registry call in
    kept_step x.outcome x.registry c.router _ ((registry.claims).panel c.registry v.registry call) v.router refl refl
step_safe c v (Input call) l =
    let x = input_step c.registry call in
    kept_step x.outcome x.registry c.router _ ((registry.claims).input c.registry v.registry call) v.router refl refl
step_safe c v (ReleaseDevice a) l =
    let x = release_device_pointer_captures c.registry a.device a.device_generation in
    kept_step (outcome_of x) x.registry c.router _ ((registry.claims).release_device c.registry v.registry a.device a.device_generation) v.router refl refl
step_safe c v (Shortcut call) l =
    let x = shortcut_step c.registry call l.registrations in
    kept_step x.outcome x.registry c.router _ ((registry.claims).shortcut c.registry v.registry call l.registrations) v.router refl refl
step_safe c v (Arbitrate a) l =
    let x = arbitrated c.registry a.view a.event l.hits in
    kept_step (outcome_of x) x.registry c.router _ ((registry.claims).arbitrate c.registry v.registry a.view a.event l.hits) v.router refl refl
step_safe c v (Close call) l = close_safe c v call
step_safe c v (Router call) l = router_safe c v call
step_safe c v (Read call) l = read_safe c v call
