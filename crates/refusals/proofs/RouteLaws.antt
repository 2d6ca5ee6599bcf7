-- A refused event: its checks leave all; once they have passed, its work is refused as its payload says, and the sequence and time stay.
use Rattle.std.specs.Prelude.{Option, None, Some, Result, Ok, Err}
use Rattle.std.specs.Result.{result_and}
use mathlib.Core.Path.{◌≡◌, refl, sym, ap, subst, ◌∙◌}
use mathlib.Core.Bool.{Bool, true, false, cond, not, ◌&&◌}
use borrow.Author.Tests.{not-true, eq-eqb}
use lib.Dec.{eqb}
use lib.ListN.{length}
use Rattle.lists.proofs.ListLaws.{by_test, clash, and_left, and_right}
use Rattle.handles.specs.declared.arena.SlotStatus.{SlotStatus}
use Rattle.handles.specs.declared.arena.SlotStatus.TheVariants.{Live, Invalid, Stale}
use Rattle.handles.specs.declared.GenerationalHandle.{GenerationalHandle}
use Rattle.maps.specs.declared.bindings.Binding.{Binding}
use Rattle.maps.specs.declared.keys.InputDeviceId.{InputDeviceId}
use Rattle.maps.specs.Keys.{device_valid}
use Rattle.records.specs.declared.error.CompositionError.{CompositionError}
use Rattle.records.specs.declared.error.CompositionError.TheVariants.{InvalidView, StaleView, InvalidSurface, StaleSurface}
use Rattle.composition_state.specs.declared.registry.CompositionRegistry.{CompositionRegistry}
use Rattle.composition_state.specs.Damage.{is_sound}
use Rattle.records.specs.Errors.{status_refusal, refusal_if, Outcome}
use Rattle.records.specs.Layers.{is_live}
use Rattle.composition_state.specs.Registry.{settled, answered}
use Rattle.records.specs.Surfaces.{surface_status}
use Rattle.records.specs.Views.{view_status, view_refusal}
use Rattle.composition_input.specs.Captures.{CapturesReleased}
use Rattle.composition_input.specs.Focus.{Suspended}
use Rattle.composition_input.specs.Captures.{device_captures, device_refusal, release_device_pointer_captures}
use Rattle.composition_input.specs.Focus.{suspend_refusal, suspend_view_input}
use Rattle.composition_arbitration.specs.Arbitration.{Arbitrated}
use Rattle.composition_arbitration.specs.declared.arbitrate.ArbitrationResult.{ArbitrationResult}
use Rattle.composition_arbitration.specs.Arbitration.{arbitrated}
use Rattle.composition_arbitration.proofs.CallClaimLaws as arbitrations
use Rattle.composition_soundness.proofs.CaseLaws.{status_live}
use Rattle.input_events.specs.declared.error.PlatformInputError.{PlatformInputError}
use Rattle.input_events.specs.declared.error.PlatformInputError.TheVariants as error
use Rattle.input_events.specs.declared.event.PlatformInputEvent.{PlatformInputEvent}
use Rattle.input_events.specs.ArbitrationEvents.{arbitration_event, is_disconnect, is_loss}
use Rattle.input_events.specs.Checks.{device_refusal as id_refusal, header_refusal_in, header_refusal, event_refusal}
use Rattle.input_events.specs.RouterErrors.{router_error_number, from_composition, RouterOutcome}
use Rattle.release_lists.specs.Releases.{Releases}
use Rattle.input_router.specs.declared.router.PlatformInputRouter.{PlatformInputRouter}
use Rattle.input_router.specs.declared.view_releases.ViewReleased.{ViewReleased}
use Rattle.input_router.specs.Damage.{is_router_sound}
use Rattle.input_router.specs.Router.{presses_of}
use Rattle.input_router.proofs.ClaimLaws as routers
use Rattle.input_router.proofs.ClaimLaws.{first_passes}
use Rattle.input_releases.specs.declared.answer.Routed.{Routed}
use Rattle.input_route.specs.Checks.{damaged_refusal, room_refusal, route_refusal}
use Rattle.input_releases.specs.Losses.{disconnect_after, routed_disconnect, loss_after, suspended_loss, loss_from, routed_loss}
use Rattle.input_route.specs.Route.{held_for, hits_for, arbitrated_after, routed_arbitration, routed_payload, recorded_event, routed_after, routed}
use Rattle.counter.specs.declared.step.Counter.{Counter}
use Rattle.refusals.specs.Left.{recorded_by, closed_owner, in_view, lost_view}
use Rattle.refusals.specs.Written.{Written, order, disconnect, loss, closed_owner_lem, after_refusal, loss_written, work_written, route_written}
use Rattle.refusals.proofs.LateLaws.{accepted≢refused, taken≢refused, same_refusal, Late, advanced_late, Kept}
use Rattle.refusals.proofs.LeftLaws.{device_presses_lem, release_to, owner_met, before_owner, cleared, device_left}
use Rattle.refusals.proofs.NumberLaws.{Within}
use Rattle.refusals.proofs.RoutedArbitrationLaws.{is_late, arbitration_late}
use Rattle.input_releases.specs.Answers.{routed_outcome, report_of}
use Rattle.composition_state.proofs.SettleLaws.{error_given}
use Rattle.release_lists.specs.Captures.{CaptureList}
use Rattle.records.specs.declared.view.ViewInputState.{ViewInputState}
use Rattle.maps.specs.Bindings.{Bindings}

-- ---- what the passed checks say
first_passed : (a b : RouterOutcome) → result_and a b ≡ Ok tt → a ≡ Ok tt
first_passed (Ok _) b h = refl
first_passed (Err e) b h = h

rest_passed : (a b : RouterOutcome) → result_and a b ≡ Ok tt → b ≡ Ok tt
rest_passed (Ok _) b h = h
rest_passed (Err e) b h = accepted≢refused (sym h)

test_passed : (b : Bool) (e : PlatformInputError) → refusal_if (not b) e ≡ Ok tt → b ≡ true
test_passed true e h = refl
test_passed false e h = accepted≢refused (sym h)

carried_passed : (o : Outcome) → from_composition o ≡ Ok tt → o ≡ Ok tt
carried_passed (Ok _) h = refl
carried_passed (Err e) h = accepted≢refused (sym h)

record Passed (c : Counter) (x : PlatformInputEvent) : Type 0 where
  whole : is_sound c.registry ≡ true
  device : device_valid x.header.device ≡ true
  live : view_status c.registry.views x.header.view ≡ Live
  recorded : recorded_event c.router x ≡ recorded_by x c.router

passed : (c : Counter) (x : PlatformInputEvent) → route_refusal c.registry c.router x ≡ Ok tt → Passed c x
unfolding route_refusal event_refusal header_refusal_in
passed c x h =
    let whole = rest_passed (damaged_refusal c.registry c.router) _ h in
    let event = first_passed (event_refusal c.registry.views x) _ whole in
    let roomed = rest_passed (event_refusal c.registry.views x) _ whole in
    let n = x.header.sequence in
    let time = x.header.timestamp_micros in
    let header = first_passed (header_refusal c.registry.views x.header) _ (rest_passed (id_refusal x.header.device) _ event) in
    record {
      whole = and_left (is_sound c.registry) (is_router_sound c.router) (test_passed (is_sound c.registry && is_router_sound c.router) error.Damaged (first_passed (damaged_refusal c.registry c.router) _ h));
      device = test_passed (device_valid x.header.device) error.InvalidDevice (first_passed (id_refusal x.header.device) _ event);
      live = status_live (view_status c.registry.views x.header.view) InvalidView StaleView
          (carried_passed (view_refusal c.registry.views x.header.view) (first_passed (from_composition (view_refusal c.registry.views x.header.view)) _ header));
      recorded = (routers.claims).in_order c.router x.header.device n time
          (rest_passed (room_refusal c.router x) _ roomed);
    }

-- ---- a change after checks that have passed is refused by 21 alone
settled_only : (o : Outcome) (r changed : CompositionRegistry) → o ≡ Ok tt → (e : CompositionError) → (settled o r changed).outcome ≡ Err e
    → Late changed e (settled o r changed).registry
settled_only (Ok _) r changed k e q = advanced_late changed e q
settled_only (Err f) r changed k e q = taken≢refused (sym k)

listed_only : (None : Bool) (o : Outcome) (r changed : CompositionRegistry) → o ≡ Ok tt → (e : CompositionError)
    → (cond None (answered o r) (settled o r changed)).outcome ≡ Err e → Late changed e (cond None (answered o r) (settled o r changed)).registry
listed_only false o r changed k e q = settled_only o r changed k e q
listed_only true o r changed k e q = taken≢refused (sym k ∙ q)

abbrev left_by : Routed → Counter
left_by y = record { registry = y.registry; router = y.router }

module _ (c : Counter) (x : PlatformInputEvent) where
  abbrev recorded_router : PlatformInputRouter
  recorded_router = recorded_by x c.router

  abbrev KeptBy : Written → Routed → Type 0
  KeptBy w y = (e : PlatformInputError) → routed_outcome y ≡ Err e → Kept c (report_of y) (left_by y) w (router_error_number e)

  abbrev view : GenerationalHandle
  view = x.header.view

  abbrev device : InputDeviceId
  device = x.header.device

  -- a refusal comes by 21, after a change
  abbrev LateBy : {T : Type 0} → CompositionRegistry → Result T CompositionError → CompositionRegistry → Type 0
  LateBy changed o after = (e : CompositionError) → o ≡ Err e → Late changed e after

  -- ---- a disconnect
  device_passed : Passed c x → device_refusal c.registry x.header.device.value x.header.device.generation ≡ Ok tt
  device_passed p =
      let value = not-true (eqb x.header.device.value 0) (and_left (not (eqb x.header.device.value 0)) _ p.device) in
      let generation = not-true (eqb x.header.device.generation 0) (and_right (not (eqb x.header.device.value 0)) _ p.device) in
      rw (p.whole, value, generation)

  after_disconnect : (s : CapturesReleased) (o : Result CaptureList CompositionError) → LateBy (cleared device c.registry) o s.registry
      → KeptBy (disconnect x) (disconnect_after s recorded_router device o)
  after_disconnect s (Ok _) k e q = accepted≢refused q
  after_disconnect s (Err y) k e q =
      let stays = (k y refl).stays ∙ device_left device c.registry in
      rw (sym (same_refusal q), sym (k y refl).last)
      (record {
        leaves = λ i. record { registry = stays i; router = device_presses_lem recorded_router device i };
        comes_with_lem = refl;
        unlisted = refl;
      })

  disconnected : Passed c x → KeptBy (disconnect x) (routed_disconnect c.registry recorded_router device)
  unfolding routed_disconnect release_device_pointer_captures
  disconnected p =
      let s = release_device_pointer_captures c.registry device.value device.generation in
      let listed = device_captures c.registry.views device.value device.generation in
      let checked = device_refusal c.registry device.value device.generation in
      after_disconnect s s.outcome (λ e q.
      listed_only (eqb (length listed) 0) checked c.registry (cleared device c.registry) (device_passed p) e (error_given _ e _ q))

  -- ---- a view's loss
  -- without a closed owner: the router without the presses on the view's panels, then the view suspended
  abbrev lost_router : PlatformInputRouter
  lost_router = (after_refusal c (loss x)).router

  abbrev lost_registry : CompositionRegistry
  lost_registry = in_view view lost_view c.registry

  after_loss : (s : Suspended) (l : Releases) (o : Result ViewInputState CompositionError) → LateBy lost_registry o s.registry
      → KeptBy (loss x) (loss_after s lost_router l o)
  after_loss s l (Ok _) k e q = accepted≢refused q
  after_loss s l (Err y) k e q =
      rw (sym (same_refusal q), sym (k y refl).last)
      (record {
        leaves = λ i. record { registry = (k y refl).stays i; router = lost_router };
        comes_with_lem = refl;
        unlisted = refl;
      })

  suspend_passed : Passed c x → suspend_refusal c.registry view c.registry.revision ≡ Ok tt
  suspend_passed p = rw (p.whole, eq-eqb c.registry.revision c.registry.revision refl, p.live)

  suspended : Passed c x → (l : Releases) → KeptBy (loss x) (suspended_loss c.registry lost_router view l)
  unfolding suspended_loss suspend_view_input
  suspended p l =
      let s = suspend_view_input c.registry view c.registry.revision in
      let checked = suspend_refusal c.registry view c.registry.revision in
      after_loss s l s.outcome (λ e q. settled_only checked c.registry lost_registry (suspend_passed p) e (error_given _ e _ q))

  -- with one: 11/12 of its panel, which is not live
  module _ (owner : Binding) (v : ViewReleased) (k : v.router ≡ (after_refusal c (closed_owner_lem x owner)).router) where
    stays : record { registry = c.registry; router = v.router } ≡ after_refusal c (closed_owner_lem x owner)
    stays = λ i. record { registry = c.registry; router = k i }

    closed : (presses : Bindings) (s : SlotStatus) → is_live s ≡ false
        → KeptBy (closed_owner_lem x owner) (loss_from c.registry view v (result_and (status_refusal s InvalidSurface StaleSurface) (Ok presses)))
    closed presses Live n e q = clash refl n
    closed presses Invalid n e q = rw (sym (same_refusal q)) (record { leaves = stays; comes_with_lem = refl; unlisted = refl })
    closed presses Stale n e q = rw (sym (same_refusal q)) (record { leaves = stays; comes_with_lem = refl; unlisted = refl })

  -- by the owner that the release meets, if any
  abbrev loss_to : ViewReleased → Routed
  loss_to v = loss_from c.registry view v v.outcome

  by_owner : Passed c x → (o : Option Binding) → closed_owner c.registry c.router ≡ o
      → KeptBy (loss_written x o) (loss_to (release_to c.registry recorded_router view o))
  by_owner p None m e q = suspended p _ e q
  by_owner p (Some owner) m e q =
      let status = surface_status c.registry.surfaces owner.surface in
      closed owner (release_to c.registry recorded_router view (Some owner))
      (before_owner c.registry recorded_router view owner) _
      status (not-true (is_live status) (first_passes _ (presses_of c.router) owner m)) e q

  abbrev owned : Option Binding
  owned = closed_owner c.registry c.router

  lost : Passed c x → KeptBy (loss_written x owned) (routed_loss c.registry recorded_router view)
  unfolding routed_loss
  lost p =
      subst (λ (v : ViewReleased). KeptBy (loss_written x owned) (loss_to v))
      (sym (owner_met c.registry recorded_router view)) (by_owner p owned refl)

  -- ---- any other event
  after_arbitration : (a : Arbitrated) (o : Result ArbitrationResult CompositionError) → Within is_late (result_and o (Ok tt))
      → ((e : CompositionError) → o ≡ Err e → a.registry ≡ c.registry)
      → KeptBy (order x) (arbitrated_after a recorded_router x o)
  after_arbitration a (Ok _) n k e q = accepted≢refused q
  after_arbitration a (Err y) n k e q =
      rw (sym (same_refusal q)) (record { leaves = ap (λ (r : CompositionRegistry). record { registry = r; router = recorded_router }) (k y refl); comes_with_lem = n.is; unlisted = refl })

  ordered : Passed c x → KeptBy (order x) (routed_arbitration c.registry recorded_router x)
  unfolding routed_arbitration
  ordered p =
      let event = arbitration_event x (held_for recorded_router x) in
      let a = arbitrated c.registry x.header.view event (hits_for c.registry x) in
      after_arbitration a a.outcome (arbitration_late c.registry p.whole x p.live event) (arbitrations.refused c.registry x.header.view event (hits_for c.registry x))

  -- ---- by payload, and by the checks
  worked : Passed c x → KeptBy (work_written c x) (routed_payload c.registry recorded_router x)
  unfolding routed_payload
  worked p = by_test (is_disconnect x.payload)
      (λ t. rw t (disconnected p))
      (λ t. rw t (by_test (is_loss x.payload)
      (λ u. rw u (lost p))
      (λ u. rw u (ordered p))))

  by_checks : (o : RouterOutcome) → route_refusal c.registry c.router x ≡ o → KeptBy (route_written c x) (routed_after c.registry c.router x o)
  by_checks (Ok _) k e q =
      let p = passed c x k in
      let work : PlatformInputRouter → Type 0 = λ t. KeptBy (work_written c x) (routed_payload c.registry t x) in
      rw k (subst work (sym p.recorded) (worked p) e q)
  by_checks (Err y) k e q = rw k (record { leaves = refl; comes_with_lem = refl; unlisted = refl })

  pub route_kept : KeptBy (route_written c x) (routed c.registry c.router x)
  unfolding routed
  route_kept = by_checks (route_refusal c.registry c.router x) refl
