-- Any call of the port on any counter: each case is sent to the definition of its call. A refusal of the registry keeps
-- its own number.
use Rattle.std.specs.Prelude.{None, Result}
use Rattle.composition_state.specs.declared.registry.CompositionRegistry.{CompositionRegistry}
use Rattle.composition_arbitration.specs.Arbitration.{Arbitrated}
use Rattle.composition_state.specs.Registry.{outcome_of}
use Rattle.composition_arbitration.specs.Arbitration.{arbitrated}
use Rattle.composition_close.specs.Close.{SurfaceClosed, closed_report, close_surface}
use Rattle.composition_close.specs.Shutdown.{Shutdown, shutdown_report, shutdown_of}
use Rattle.composition_input.specs.Captures.{CapturesReleased, listed_captures, release_device_pointer_captures}
use Rattle.input_events.specs.RouterErrors.{from_composition}
use Rattle.input_releases.specs.declared.answer.Routed.{Routed}
use Rattle.input_route.specs.Route.{routed}
use Rattle.input_router.specs.declared.releases.Released.{Released}
use Rattle.input_router.specs.declared.router.PlatformInputRouter.{PlatformInputRouter}
use Rattle.input_router.specs.Releases.{release_outcome, releases_of, release_surface, release_all}
use Rattle.calls.specs.declared.call.Call.{Call}
use Rattle.calls.specs.declared.call.Call.TheVariants.{Panel, Input, ReleaseDevice, Shortcut, Arbitrate, Close, Router, Read}
use Rattle.calls.specs.declared.call.CloseCall.{CloseCall}
use Rattle.calls.specs.declared.call.CloseCall.TheVariants as close
use Rattle.calls.specs.declared.call.Lists.{Lists}
use Rattle.calls.specs.declared.call.RouterCall.{RouterCall}
use Rattle.calls.specs.declared.call.RouterCall.TheVariants as router
use Rattle.registry_step.specs.declared.steps.RegistryStepped.{RegistryStepped}
use Rattle.counter.specs.declared.answer.Answer.{Answer}
use Rattle.counter.specs.declared.step.Counter.{Counter}
use Rattle.counter.specs.declared.step.Stepped.{Stepped}
use Rattle.counter.specs.Answers.{captures_listed, close_listed, shutdown_listed, arbitration_alone, releases_alone, shown_answer, listing_answer, report_answer}
use Rattle.calls.specs.declared.shown.Shown.{Shown}
use Rattle.records.specs.declared.error.CompositionError.{CompositionError}
use Rattle.input_releases.specs.Answers.{no_result, routed_outcome, report_of}
use Rattle.std.specs.Result.{result_unwrap_or}
use Rattle.read_step.specs.Reads.{outcome_of as read_outcome, shown_of, read_step}
use Rattle.registry_step.specs.Steps.{panel_step, input_step, shortcut_step}

-- an answer, and the counter after it
abbrev pub stepped_to : Answer → CompositionRegistry → PlatformInputRouter → Stepped
stepped_to a r t = record { answer = a; counter = record { registry = r; router = t } }

-- a call on the registry leaves the router as it was
abbrev pub from_registry : RegistryStepped → PlatformInputRouter → Stepped
from_registry s t = stepped_to (shown_answer s.outcome s.handle s.shown) s.registry t

abbrev pub from_captures : CapturesReleased → PlatformInputRouter → Stepped
from_captures c t = stepped_to (listing_answer (outcome_of c) (captures_listed (listed_captures c))) c.registry t

abbrev pub from_arbitrated : Arbitrated → PlatformInputRouter → Stepped
from_arbitrated a t =
    stepped_to (report_answer (from_composition (outcome_of a))
    (arbitration_alone (result_unwrap_or a.outcome no_result))) a.registry t

abbrev pub from_closed : SurfaceClosed → PlatformInputRouter → Stepped
from_closed c t = stepped_to (listing_answer (outcome_of c) (close_listed (closed_report c))) c.registry t

abbrev pub from_shutdown : Shutdown → PlatformInputRouter → Stepped
from_shutdown s t = stepped_to (listing_answer (outcome_of s) (shutdown_listed (shutdown_report s))) s.registry t

abbrev pub from_routed : Routed → Stepped
from_routed x = stepped_to (report_answer (routed_outcome x) (report_of x)) x.registry x.router

-- `release_surface` and `release_all` refuse 42 only, and leave the registry as it was
abbrev pub from_released : CompositionRegistry → Released → Stepped
from_released r x = stepped_to (report_answer (release_outcome x) (releases_alone (releases_of x))) r x.router

-- a call that alters nothing leaves both as they were
abbrev pub from_read : Counter → Result Shown CompositionError → Stepped
from_read c x = record { answer = shown_answer (read_outcome x) None (shown_of x); counter = c }

unfoldable pub close_step : Counter → CloseCall → Stepped
close_step c (close.CloseSurface surface) = from_closed (close_surface c.registry surface) c.router
close_step c close.Shutdown = from_shutdown (shutdown_of c.registry) c.router

unfoldable pub router_step : Counter → RouterCall → Stepped
router_step c (router.Route event) = from_routed (routed c.registry c.router event)
router_step c (router.ReleaseSurface surface) = from_released c.registry (release_surface c.router surface)
router_step c router.ReleaseAll = from_released c.registry (release_all c.router)

unfoldable pub stepped : Counter → Call → Lists → Stepped
stepped c (Panel call) l = from_registry (panel_step c.registry call) c.router
stepped c (Input call) l = from_registry (input_step c.registry call) c.router
stepped c (ReleaseDevice a) l =
    from_captures (release_device_pointer_captures c.registry a.device a.device_generation) c.router
stepped c (Shortcut call) l = from_registry (shortcut_step c.registry call l.registrations) c.router
stepped c (Arbitrate a) l = from_arbitrated (arbitrated c.registry a.view a.event l.hits) c.router
stepped c (Close call) l = close_step c call
stepped c (Router call) l = router_step c call
stepped c (Read call) l = from_read c (read_step c.registry c.router call)
