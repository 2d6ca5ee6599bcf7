-- The contract of each in-place entry: what stands behind its references at exit, and what it answers.
-- The entries and `in_place_history` cite these definitions.
use Rattle.std.specs.Prelude.{◌≡◌, Result}
use Rattle.handles.specs.declared.GenerationalHandle.{GenerationalHandle}
use Rattle.composition_state.specs.declared.registry.CompositionRegistry.{CompositionRegistry}
use Rattle.input_events.specs.declared.event.PlatformInputEvent.{PlatformInputEvent}
use Rattle.input_events.specs.declared.error.PlatformInputError.{PlatformInputError}
use Rattle.input_releases.specs.declared.answer.PlatformInputRoutingReport.{PlatformInputRoutingReport}
use Rattle.input_route.specs.Route.{routed}
use Rattle.release_lists.specs.Releases.{Releases}
use Rattle.input_router.specs.declared.releases.Released.{Released}
use Rattle.input_router.specs.declared.router.PlatformInputRouter.{PlatformInputRouter}
use Rattle.input_router.specs.Releases.{release_surface, release_all}
use Rattle.calls.specs.declared.call.Call.{Call}
use Rattle.calls.specs.declared.call.Lists.{Lists}
use Rattle.counter.specs.declared.answer.Answer.{Answer}
use Rattle.counter.specs.declared.step.Counter.{Counter}
use Rattle.counter.specs.Step.{stepped}

-- what an event reports, or why it is refused
abbrev pub RouteAnswer : Type 0
RouteAnswer = Result PlatformInputRoutingReport PlatformInputError

-- what a router release lists, or 42 of a damaged router
abbrev pub ReleaseAnswer : Type 0
ReleaseAnswer = Result Releases PlatformInputError

-- `step`, from a counter, a call and its lists: the counter at exit and the answer are those of the call by value
abbrev pub StepInPlace : Counter → Call → Lists → Counter → Answer → Type 0
StepInPlace c call l exit answer = (exit ≡ (stepped c call l).counter) × (answer ≡ (stepped c call l).answer)

-- `route`, from registry, router and event: both at exit and the answer are those of the event routed by value
abbrev pub RouteInPlace : CompositionRegistry → PlatformInputRouter → PlatformInputEvent
    → CompositionRegistry → PlatformInputRouter → RouteAnswer → Type 0
RouteInPlace r t event registry router answer =
    (registry ≡ (routed r t event).registry)
    × (router ≡ (routed r t event).router)
    × (answer ≡ (routed r t event).outcome)

-- a router release, by what it is by value: the router at exit, and the answer
abbrev pub ReleasedInPlace : Released → PlatformInputRouter → ReleaseAnswer → Type 0
ReleasedInPlace done router answer = (router ≡ done.router) × (answer ≡ done.outcome)

-- `release_surface`, from router and panel: the router at exit, and the answer
abbrev pub ReleaseSurfaceInPlace : PlatformInputRouter → GenerationalHandle
    → PlatformInputRouter → ReleaseAnswer → Type 0
ReleaseSurfaceInPlace t surface = ReleasedInPlace (release_surface t surface)

-- `release_all`, from the router: the router at exit, and the answer
abbrev pub ReleaseAllInPlace : PlatformInputRouter → PlatformInputRouter → ReleaseAnswer → Type 0
ReleaseAllInPlace t = ReleasedInPlace (release_all t)
