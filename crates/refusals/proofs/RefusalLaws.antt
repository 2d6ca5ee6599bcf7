-- What a refusal of `step` leaves is what the refusal of its call leaves, since a refusal of the registry is carried whole.
use Rattle.std.specs.Prelude.{Result, Ok, Err}
use Rattle.std.specs.Result.{result_unwrap_or}
use mathlib.Core.Path.{◌≡◌, refl, sym, ap}
use mathlib.Core.Bool.{Bool, true, false, cond, not, ◌&&◌}
use lib.Dec.{eqb}
use Rattle.lists.specs.Lists.{keep}
use Rattle.handles.specs.declared.GenerationalHandle.{GenerationalHandle}
use Rattle.maps.specs.MapTables.{retained}
use Rattle.maps.specs.Bindings.{bindings}
use Rattle.records.specs.declared.error.CompositionError.{CompositionError}
use Rattle.composition_state.specs.declared.registry.CompositionRegistry.{CompositionRegistry}
use Rattle.records.specs.Errors.{error_number, Outcome}
use Rattle.composition_input.specs.Captures.{release_device_pointer_captures}
use Rattle.composition_arbitration.specs.declared.arbitrate.ArbitrationResult.{ArbitrationResult}
use Rattle.composition_state.specs.Registry.{outcome_of}
use Rattle.composition_arbitration.specs.Arbitration.{arbitrated}
use Rattle.composition_arbitration.proofs.CallClaimLaws as arbitrations
use Rattle.composition_close.specs.Close.{close_surface}
use Rattle.composition_close.specs.Shutdown.{shutdown_of}
use Rattle.composition_close.proofs.ClaimLaws as closes
use Rattle.input_events.specs.declared.error.PlatformInputError.{PlatformInputError}
use Rattle.input_events.specs.declared.error.PlatformInputError.TheVariants.{Damaged}
use Rattle.input_events.specs.RouterErrors.{router_error_number, from_composition}
use Rattle.input_router.specs.declared.releases.Released.{Released}
use Rattle.input_router.specs.Damage.{is_router_sound}
use Rattle.release_lists.specs.Releases.{is_on, by_panel}
use Rattle.input_router.specs.Releases.{release_outcome, releases_of, released, damaged_release, release_surface, release_all}
use Rattle.input_router.specs.Router.{empty_router, with_bindings, presses_of}
use Rattle.input_releases.specs.declared.answer.PlatformInputRoutingReport.{PlatformInputRoutingReport}
use Rattle.input_releases.specs.Answers.{no_result, no_report}
use Rattle.calls.specs.declared.call.Call.{Call}
use Rattle.calls.specs.declared.call.Call.TheVariants.{Panel, Input, ReleaseDevice, Shortcut, Arbitrate, Close, Router, Read}
use Rattle.calls.specs.declared.call.CloseCall.TheVariants as close
use Rattle.calls.specs.declared.call.Lists.{Lists}
use Rattle.calls.specs.declared.call.RouterCall.TheVariants as router
use Rattle.registry_step.specs.Steps.{panel_step, input_step, shortcut_step}
use Rattle.counter.specs.declared.step.Counter.{Counter}
use Rattle.counter.specs.Answers.{arbitration_alone, releases_alone}
use Rattle.counter.specs.Step.{close_step, router_step, stepped}
use Rattle.refusals.specs.Changes.{panel_change, input_change, device_change, shortcut_change}
use Rattle.refusals.specs.Refusals.{IsRefused, written_with, StepRefusals}
use Rattle.refusals.specs.Written.{nothing, change_if, is_own_end, close_written, written_by}
use Rattle.refusals.proofs.CloseLaws.{close_kept}
use Rattle.refusals.proofs.InputLaws.{input_late, shortcut_late, device_late}
use Rattle.refusals.proofs.LateLaws.{accepted≢refused, same_refusal, refused_answer, Kept, at, KeptAt, carried, kept_if}
use Rattle.refusals.proofs.PanelLaws.{panel_late}
use Rattle.refusals.proofs.RouteLaws.{route_kept}

-- ---- the calls on the registry
-- a call that settles
changed_kept : (c : Counter) (r changed : CompositionRegistry) (b : Bool) (o : Outcome)
    → ((x : CompositionError) → o ≡ Err x → r ≡ cond (b && eqb (error_number x) 21) changed c.registry)
    → (e : PlatformInputError) → from_composition o ≡ Err e → KeptAt c r (change_if (b && eqb (router_error_number e) 21) changed) (router_error_number e)
changed_kept c r changed b o k e q = carried (λ n. KeptAt c r (change_if (b && eqb n 21) changed) n) o (λ x p. kept_if c r changed b (error_number x) (k x p)) e q

-- a call whose every refusal leaves the registry, and has a blank report
unwritten : (c : Counter) (report : PlatformInputRoutingReport) (r : CompositionRegistry) (o : Outcome) → ((x : CompositionError) → o ≡ Err x → r ≡ c.registry)
    → ((x : CompositionError) → o ≡ Err x → report ≡ no_report) → (e : PlatformInputError) → from_composition o ≡ Err e → Kept c report (at c r) nothing (router_error_number e)
unwritten c report r o k b e q = carried (λ n. Kept c report (at c r) nothing n) o (λ x p. record { leaves = ap (at c) (k x p); comes_with_lem = refl; unlisted = b x p }) e q

blank_arbitration : (o : Result ArbitrationResult CompositionError) (x : CompositionError) → o ≡ Err x → arbitration_alone (result_unwrap_or o no_result) ≡ no_report
unfolding arbitration_alone
blank_arbitration o x p = rw p

-- ---- a router release refuses the damaged router alone, which stays
module _ (c : Counter) (x : Released) (whole : release_outcome x ≡ Ok tt) (e : PlatformInputError) where
  release_kept : (sound : Bool) → release_outcome (cond sound x (damaged_release c.router)) ≡ Err e
      → Kept c (releases_alone (releases_of (cond sound x (damaged_release c.router)))) (record { registry = c.registry; router = (cond sound x (damaged_release c.router)).router }) nothing (router_error_number e)
  unfolding releases_alone
  release_kept true q = accepted≢refused (rw whole at q)
  release_kept false q = record { leaves = refl; comes_with_lem = refl; unlisted = refl }

  damaged_only : (sound : Bool) → release_outcome (cond sound x (damaged_release c.router)) ≡ Err e → e ≡ Damaged
  damaged_only true q = accepted≢refused (rw whole at q)
  damaged_only false q = sym (same_refusal q)

-- what the two releases answer of a whole router
abbrev of_surface : Counter → GenerationalHandle → Released
of_surface c h = released (keep (is_on h) (presses_of c.router)) (with_bindings (retained bindings (λ b. not (is_on h b)) c.router.bindings) c.router)

abbrev of_all : Counter → Released
of_all c = released (by_panel (presses_of c.router)) (empty_router c.router.max_active_bindings)

-- ---- every call
kept : (c : Counter) (call : Call) (l : Lists) (e : PlatformInputError) → IsRefused c call l e → Kept c (stepped c call l).answer.report (stepped c call l).counter (written_with c call l e) (router_error_number e)
unfolding stepped close_step router_step written_by release_surface release_all
kept c (Panel x) l e q =
    let s = panel_step c.registry x in
    changed_kept c s.registry (panel_change c.registry x) (not (is_own_end c.registry x)) s.outcome (panel_late c.registry x) e q
kept c (Input x) l e q =
    let s = input_step c.registry x in
    changed_kept c s.registry (input_change c.registry x) true s.outcome (input_late c.registry x) e q
kept c (ReleaseDevice a) l e q =
    let s = release_device_pointer_captures c.registry a.device a.device_generation in
    changed_kept c s.registry (device_change c.registry a) true (outcome_of s) (device_late c.registry a) e q
kept c (Shortcut x) l e q =
    let s = shortcut_step c.registry x l.registrations in
    changed_kept c s.registry (shortcut_change c.registry x l.registrations) true s.outcome (shortcut_late c.registry x l.registrations) e q
kept c (Arbitrate a) l e q =
    let s = arbitrated c.registry a.view a.event l.hits in
    unwritten c (arbitration_alone (result_unwrap_or s.outcome no_result)) s.registry (outcome_of s)
    (λ x p. arbitrations.refused c.registry a.view a.event l.hits x (refused_answer s.outcome x p))
    (λ x p. blank_arbitration s.outcome x (refused_answer s.outcome x p)) e q
kept c (Close (close.CloseSurface h)) l e q =
    let s = close_surface c.registry h in
    carried (λ n. KeptAt c s.registry (close_written c.registry h n) n) (outcome_of s) (close_kept c h) e q
kept c (Close close.Shutdown) l e q =
    let s = shutdown_of c.registry in
    unwritten c no_report s.registry (outcome_of s) ((closes.claims).shutdown_refused c.registry) (λ x p. refl) e q
kept c (Router (router.Route x)) l e q = route_kept c x e q
kept c (Router (router.ReleaseSurface h)) l e q = release_kept c (of_surface c h) refl e (is_router_sound c.router) q
kept c (Router router.ReleaseAll) l e q = release_kept c (of_all c) refl e (is_router_sound c.router) q
kept c (Read x) l e q = record { leaves = refl; comes_with_lem = refl; unlisted = refl }

pub claims : StepRefusals
unfolding stepped router_step release_surface release_all
claims = record {
  leaves = λ c call l e q. (kept c call l e q).leaves;
  comes_with_lem = λ c call l e q. (kept c call l e q).comes_with_lem;
  unlisted = λ c call l e q. (kept c call l e q).unlisted;
  release_surface_lem = λ c h l e q. damaged_only c (of_surface c h) refl e (is_router_sound c.router) q;
  release_all_lem = λ c l e q. damaged_only c (of_all c) refl e (is_router_sound c.router) q;
  read = λ c call l. refl;
}
