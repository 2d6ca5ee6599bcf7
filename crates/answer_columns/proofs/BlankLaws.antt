-- A refused call answers no consumer, no delivery, no release and no capture: each case by its outcome.
use Rattle.records.specs.Errors.{Outcome}
use Rattle.std.specs.Prelude.{Result, is_ok, None, Some, Ok, Err}
use mathlib.Core.Bool.{Bool, true, false, cond}
use mathlib.Core.List.{[]}
use mathlib.Core.Path.{◌≡◌, refl, ap}
use Rattle.std.specs.Result.{result_and, result_unwrap_or}
use Rattle.lists.specs.Tables.{packed}
use Rattle.lists.proofs.ListLaws.{clash}
use Rattle.handles.specs.declared.GenerationalHandle.{GenerationalHandle}
use Rattle.maps.specs.declared.keys.InputDeviceId.{InputDeviceId}
use Rattle.records.specs.Traces.{deliveries}
use Rattle.composition_state.specs.declared.registry.CompositionRegistry.{CompositionRegistry}
use Rattle.composition_input.specs.Captures.{CapturesReleased}
use Rattle.composition_input.specs.Focus.{Suspended}
use Rattle.release_lists.specs.Captures.{capture_list}
use Rattle.composition_input.specs.Captures.{release_device_pointer_captures}
use Rattle.composition_input.specs.Focus.{suspend_view_input}
use Rattle.composition_arbitration.specs.Arbitration.{Arbitrated}
use Rattle.composition_arbitration.specs.declared.arbitrate.ArbitrationResult.{ArbitrationResult}
use Rattle.records.specs.declared.error.CompositionError.{CompositionError}
use Rattle.composition_arbitration.specs.Arbitration.{arbitrated}
use Rattle.input_events.specs.declared.event.PlatformInputEvent.{PlatformInputEvent}
use Rattle.input_events.specs.ArbitrationEvents.{arbitration_event, is_loss, is_disconnect}
use Rattle.input_events.specs.RouterErrors.{from_composition, RouterOutcome}
use Rattle.release_lists.specs.Releases.{Releases, releases}
use Rattle.input_router.specs.declared.releases.Released.{Released}
use Rattle.input_router.specs.declared.view_releases.ViewReleased.{ViewReleased}
use Rattle.input_router.specs.declared.router.PlatformInputRouter.{PlatformInputRouter}
use Rattle.input_router.specs.Damage.{is_router_sound}
use Rattle.input_router.specs.Releases.{release_surface, release_all}
use Rattle.input_router.specs.ViewReleases.{release_view}
use Rattle.input_releases.specs.declared.answer.Routed.{Routed}
use Rattle.input_releases.specs.Answers.{no_result, no_report}
use Rattle.input_route.specs.Checks.{route_refusal}
use Rattle.input_releases.specs.Losses.{disconnect_after, routed_disconnect, loss_after, suspended_loss, loss_from, routed_loss}
use Rattle.input_route.specs.Route.{held_for, hits_for, arbitrated_after, routed_arbitration, routed_payload, recorded_event, routed_after, routed}
use Rattle.calls.specs.declared.call.Call.{Call}
use Rattle.calls.specs.declared.call.Call.TheVariants.{Panel, Input, ReleaseDevice, Shortcut, Arbitrate, Close, Router, Read}
use Rattle.calls.specs.declared.call.CloseCall.TheVariants as close
use Rattle.calls.specs.declared.call.Lists.{Lists}
use Rattle.calls.specs.declared.call.RouterCall.TheVariants as router
use Rattle.counter.specs.declared.answer.Answer.{Answer}
use Rattle.counter.specs.declared.step.Counter.{Counter}
use Rattle.counter.specs.Answers.{nothing_listed, captures_listed, close_listed, shutdown_listed, arbitration_alone, releases_alone}
use Rattle.counter.specs.Step.{close_step, router_step, stepped}

-- nothing stands in columns 4 to 6
pub record Blank (a : Answer) : Type 0 where
  pub consumer : a.report.arbitration.consumed_by ≡ None
  pub delivered : a.report.arbitration.deliveries ≡ packed deliveries []
  pub released : a.report.synthesized_releases ≡ packed releases []
  pub captured : a.listed.captures ≡ packed capture_list []

-- a refusal of the registry is one inside the router's
refused : (o : Outcome) → is_ok (from_composition o) ≡ false → is_ok o ≡ false
refused (Ok _) h = h
refused (Err e) h = refl

-- what a refused answer has in place of its value
blank_value : {T E : Type 0} (o : Result T E) (v : T) → is_ok (result_and o (Ok (tt {0}))) ≡ false → result_unwrap_or o v ≡ v
blank_value (Ok x) v h = clash refl h
blank_value (Err e) v h = refl

-- ---- every call
module _ (k : Counter) (l : Lists) where
  pub blank : (call : Call) → is_ok (stepped k call l).answer.outcome ≡ false → Blank (stepped k call l).answer
  unfolding stepped close_step router_step nothing_listed captures_listed close_listed shutdown_listed arbitration_alone releases_alone
  blank (Panel call) h = record { consumer = refl; delivered = refl; released = refl; captured = refl }
  blank (Input call) h = record { consumer = refl; delivered = refl; released = refl; captured = refl }
  blank (ReleaseDevice a) h = record { consumer = refl; delivered = refl; released = refl; captured = blank_value _ (packed capture_list []) (refused _ h) }
  blank (Shortcut call) h = record { consumer = refl; delivered = refl; released = refl; captured = refl }
  blank (Arbitrate a) h =
      let q = blank_value (arbitrated k.registry a.view a.event l.hits).outcome no_result (refused _ h) in
      record { consumer = ap (λ (x : ArbitrationResult). x.consumed_by) q; delivered = ap (λ (x : ArbitrationResult). x.deliveries) q; released = refl; captured = refl }
  blank (Close (close.CloseSurface s)) h = record { consumer = refl; delivered = refl; released = refl; captured = refl }
  blank (Close close.Shutdown) h = record { consumer = refl; delivered = refl; released = refl; captured = refl }
  blank (Router (router.Route e)) h =
      let q = blank_value (routed k.registry k.router e).outcome no_report h in
      record { consumer = rw q; delivered = rw q; released = rw q; captured = refl }
  blank (Router (router.ReleaseSurface s)) h = record { consumer = refl; delivered = refl; released = blank_value _ (packed releases []) h; captured = refl }
  blank (Router router.ReleaseAll) h = record { consumer = refl; delivered = refl; released = blank_value _ (packed releases []) h; captured = refl }
  blank (Read call) h = record { consumer = refl; delivered = refl; released = refl; captured = refl }
