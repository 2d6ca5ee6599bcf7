-- What a routed event and a release list: at most 16 deliveries, and 640 releases, of 128 presses and 512 captures.
use Rattle.input_events.specs.RouterErrors.{RouterOutcome}
use Rattle.records.specs.Errors.{Outcome}
use Rattle.std.specs.Prelude.{Result, is_ok, Ok, Err}
use Rattle.std.specs.Result.{result_unwrap_or}
use Rattle.records.specs.declared.error.CompositionError.{CompositionError}
use Rattle.composition_arbitration.specs.declared.arbitrate.ArbitrationResult.{ArbitrationResult}
use Prim.Native.Nat.{◌≤◌}
use mathlib.Core.Bool.{Bool, true, false, cond}
use mathlib.Core.List.{List, []}
use mathlib.Core.Path.{◌≡◌}
use native.Mathlib.Omega.{arith}
use lib.ListN.{length}
use Rattle.lists.specs.Lists.{keep}
use Rattle.lists.specs.Tables.{entries_of, packed}
use Rattle.lists.proofs.ListLaws.{by_test, length_keep}
use Rattle.lists.proofs.TableLaws as table
use Rattle.handles.specs.declared.GenerationalHandle.{GenerationalHandle}
use Rattle.maps.specs.Bindings.{Bindings, bindings}
use Rattle.maps.specs.Captures.{captures}
use Rattle.maps.specs.declared.bindings.Binding.{Binding}
use Rattle.maps.specs.declared.captures.Capture.{Capture}
use Rattle.maps.specs.declared.keys.InputDeviceId.{InputDeviceId}
use Rattle.records.specs.Traces.{deliveries}
use Rattle.records.specs.Views.{view_at}
use Rattle.release_lists.specs.Captures.{CaptureList, capture_list}
use Rattle.release_lists.specs.Releases.{releases, is_on, by_panel, add_captures, Releases}
use Rattle.release_lists.proofs.ReleaseLaws.{length_adds, by_panel_length}
use Rattle.composition_state.specs.declared.registry.CompositionRegistry.{CompositionRegistry}
use Rattle.composition_input.specs.Captures.{release_device_pointer_captures}
use Rattle.composition_input.specs.Focus.{suspend_view_input}
use Rattle.composition_input.specs.Captures.{CapturesReleased}
use Rattle.composition_input.specs.Focus.{Suspended}
use Rattle.composition_arbitration.specs.Arbitration.{Arbitrated}
use Rattle.composition_arbitration.specs.Arbitration.{arbitrated}
use Rattle.input_events.specs.ArbitrationEvents.{arbitration_event, is_loss, is_disconnect}
use Rattle.input_events.specs.declared.event.PlatformInputEvent.{PlatformInputEvent}
use Rattle.input_router.specs.Damage.{is_router_sound}
use Rattle.input_router.specs.Order.{has_place}
use Rattle.input_router.specs.Releases.{releases_of, is_of_device, device_presses, released, damaged_release, release_surface, release_all}
use Rattle.input_router.specs.Router.{presses_of}
use Rattle.input_router.specs.ViewReleases.{closed_refusal, first_closed, is_taken, release_view}
use Rattle.input_router.specs.declared.router.PlatformInputRouter.{PlatformInputRouter}
use Rattle.input_router.specs.declared.view_releases.ViewReleased.{ViewReleased}
use Rattle.input_releases.specs.Answers.{report_of, no_result, no_report}
use Rattle.input_releases.specs.Losses.{disconnect_after, routed_disconnect, loss_after, suspended_loss, loss_from, routed_loss}
use Rattle.input_releases.specs.declared.answer.PlatformInputRoutingReport.{PlatformInputRoutingReport}
use Rattle.input_releases.specs.declared.answer.Routed.{Routed}
use Rattle.input_route.specs.Checks.{route_refusal}
use Rattle.input_route.specs.Route.{held_for, hits_for, arbitrated_after, routed_arbitration, routed_payload, recorded_event, routed_after, routed}
use Rattle.answer_words.specs.Lengths.{All, ViewLengths}
use Rattle.answer_words.proofs.EntryLaws.{given_few, packed_few, few_if}
use Rattle.answer_words.proofs.ListLaws.{FewDelivered, captures_few, released_few, arbitrated_few}
use Rattle.records.specs.declared.view.ViewInputState.{ViewInputState}

-- the two lists of a report
pub record Few (x : PlatformInputRoutingReport) : Type 0 where
  pub delivered : FewDelivered x.arbitration.deliveries
  pub listed : length (entries_of releases x.synthesized_releases) ≤ 640

none_delivered : FewDelivered no_result.deliveries
none_delivered = packed_few deliveries [] 16 (omega arith)

none_few : Few no_report
none_few = record { delivered = none_delivered; listed = packed_few releases [] 640 (omega arith) }

if_few : (b : Bool) (x y : Routed) → Few (report_of x) → Few (report_of y) → Few (report_of (cond b x y))
if_few true x y h k = h
if_few false x y h k = k

-- presses and captures one after the other
added_few : (l : List Binding) (cs : List Capture) → length l ≤ 128 → length cs ≤ 512
    → length (entries_of releases (packed releases (add_captures l cs))) ≤ 640
added_few l cs h k = packed_few releases (add_captures l cs) 640 (omega (arith, length_adds l cs))

-- ---- an arbitrated event
arbitration_few : (a : Arbitrated) (t : PlatformInputRouter) (e : PlatformInputEvent) (o : Result ArbitrationResult CompositionError)
    → FewDelivered (result_unwrap_or o no_result).deliveries → Few (report_of (arbitrated_after a t e o))
arbitration_few a t e (Ok _) h =
    record { delivered = h; listed = packed_few releases [] 640 (omega arith) }
arbitration_few a t e (Err x) h = none_few

module _ (t : PlatformInputRouter) (h : length t.bindings.table.items ≡ 128) where
  presses_few : length (presses_of t) ≤ 128
  presses_few = table.few bindings t.bindings h

  kept_few : (p : Binding → Bool) → length (keep p (presses_of t)) ≤ 128
  kept_few p = omega (arith, length_keep p (presses_of t), presses_few)

  -- ---- a release of the router
  if_released : (b : Bool) (l : List Binding) (r : PlatformInputRouter) → length l ≤ 128
      → length (entries_of releases (releases_of (cond b (released l r) (damaged_release t)))) ≤ 128
  if_released true l r k = packed_few releases l 128 k
  if_released false l r k = packed_few releases [] 128 (omega arith)

  pub surface_few : (surface : GenerationalHandle)
      → length (entries_of releases (releases_of (release_surface t surface))) ≤ 128
  unfolding release_surface
  surface_few surface = if_released (is_router_sound t) (keep (is_on surface) (presses_of t)) _ (kept_few (is_on surface))

  pub all_few : length (entries_of releases (releases_of (release_all t))) ≤ 128
  unfolding release_all
  all_few =
      let l = presses_of t in
      if_released (is_router_sound t) (by_panel l) _ (omega (arith, by_panel_length l, presses_few))

  module _ (r : CompositionRegistry) (x : All ViewLengths r.views.records) where
    -- ---- a disconnect
    disconnect_after_lem : (device : InputDeviceId) (c : CapturesReleased) (o : Result CaptureList CompositionError)
        → length (entries_of capture_list (result_unwrap_or o (packed capture_list []))) ≤ 512 → Few (report_of (disconnect_after c t device o))
    disconnect_after_lem device c (Ok cs) k = record {
      delivered = none_delivered;
      listed =
          added_few (entries_of bindings (device_presses t device)) (entries_of capture_list cs)
          (packed_few bindings (keep (is_of_device device) (presses_of t)) 128 (kept_few (is_of_device device))) k;
    }
    disconnect_after_lem device c (Err e) k = none_few

    disconnect_few : (device : InputDeviceId) → Few (report_of (routed_disconnect r t device))
    unfolding routed_disconnect
    disconnect_few device =
        let c = release_device_pointer_captures r device.value device.generation in
        disconnect_after_lem device c c.outcome (released_few r x device.value device.generation)

    -- ---- a view's loss
    loss_after_lem : (s : Suspended) (u : PlatformInputRouter) (l : Releases) (o : Result ViewInputState CompositionError)
        → length (entries_of releases l) ≤ 640 → Few (report_of (loss_after s u l o))
    loss_after_lem s u l (Ok _) k = record { delivered = none_delivered; listed = k }
    loss_after_lem s u l (Err e) k = none_few

    loss_from_lem : (view : GenerationalHandle) (v : ViewReleased) (o : Result Bindings CompositionError)
        → length (entries_of bindings (result_unwrap_or o (packed bindings []))) ≤ 128 → Few (report_of (loss_from r view v o))
    unfolding suspended_loss
    loss_from_lem view v (Ok presses) k =
        let s = suspend_view_input r view r.revision in
        let held = entries_of captures (view_at r.views view).pointer_captures in
        loss_after_lem s v.router _ s.outcome
        (added_few (entries_of bindings presses) held k (omega (arith, captures_few r.views x view)))
    loss_from_lem view v (Err e) k = none_few

    loss_few : (view : GenerationalHandle) → Few (report_of (routed_loss r t view))
    unfolding routed_loss release_view
    loss_few view =
        let stop = first_closed r.surfaces (presses_of t) in
        let v = release_view t r.surfaces view in
        loss_from_lem view v v.outcome
        (given_few (λ (l : Bindings). length (entries_of bindings l) ≤ 128) (closed_refusal r.surfaces stop) _ _
        (packed_few bindings _ 128 (kept_few (is_taken r.surfaces view stop))) (packed_few bindings [] 128 (omega arith)))

    payload_few : (e : PlatformInputEvent) → Few (report_of (routed_payload r t e))
    unfolding routed_payload routed_arbitration
    payload_few e =
        let h = e.header in
        let event = arbitration_event e (held_for t e) in
        let a = arbitrated r h.view event (hits_for r e) in
        if_few (is_disconnect e.payload) (routed_disconnect r t h.device) _ (disconnect_few h.device)
        (if_few (is_loss e.payload) (routed_loss r t h.view) (routed_arbitration r t e) (loss_few h.view)
        (arbitration_few a t e a.outcome (arbitrated_few r x h.view event (hits_for r e))))

-- ---- a routed event
recorded_long : (t : PlatformInputRouter) (e : PlatformInputEvent)
    → length t.bindings.table.items ≡ 128 → length (recorded_event t e).bindings.table.items ≡ 128
recorded_long t e h = by_test (has_place t e.header.device) (λ q. rw q h) (λ q. rw q h)

module _ (r : CompositionRegistry) (x : All ViewLengths r.views.records)
    (t : PlatformInputRouter) (h : length t.bindings.table.items ≡ 128) (e : PlatformInputEvent) where
  routed_after_lem : (o : RouterOutcome) → Few (report_of (routed_after r t e o))
  routed_after_lem (Ok _) = payload_few (recorded_event t e) (recorded_long t e h) r x e
  routed_after_lem (Err y) = none_few

  pub routed_few : Few (report_of (routed r t e))
  unfolding routed
  routed_few = routed_after_lem (route_refusal r t e)
