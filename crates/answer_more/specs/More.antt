-- Column 8 of an answer line, by the call.
use Rattle.records.specs.declared.view.ViewInputState.{ViewInputState}
use Rattle.std.specs.Prelude.{cond, List, [], ◌∷◌, is_ok, Option, None, Some}
use Rattle.calls.specs.declared.call.Call.{Call}
use Rattle.calls.specs.declared.call.Call.TheVariants as call
use Rattle.calls.specs.declared.call.RouterCall.{RouterCall}
use Rattle.calls.specs.declared.call.RouterCall.TheVariants as router
use Rattle.input_releases.specs.declared.answer.RouteKind.{RouteKind}
use Rattle.input_releases.specs.declared.answer.RouteKind.TheVariants as kind
use Rattle.counter.specs.declared.answer.Answer.{Answer}
use Rattle.counter.specs.declared.step.Counter.{Counter}
use Rattle.answer_numbers.specs.Groups.{input_state_numbers}
use Rattle.answer_numbers.specs.Numbers.{Number, plain}
use Rattle.answer_more.specs.Closing.{closing_numbers}
use Rattle.answer_more.specs.Shown.{shown_more}

-- a view's loss: 2, I
abbrev pub loss_numbers : Option ViewInputState → List Number
loss_numbers None = plain 2 ∷ []
loss_numbers (Some s) = plain 2 ∷ input_state_numbers s

-- a routed event: 0 a disconnect, 1 arbitrated, 2 a view's loss
abbrev pub event_more : RouteKind → Option ViewInputState → Option (List Number)
event_more kind.Nothing s = None
event_more kind.Disconnected s = Some (plain 0 ∷ [])
event_more kind.Arbitrated s = Some (plain 1 ∷ [])
event_more kind.ViewReleased s = Some (loss_numbers s)

-- the releases of the router stand in column 6
abbrev pub router_more : RouterCall → RouteKind → Option ViewInputState → Option (List Number)
router_more (router.Route e) k s = event_more k s
router_more (router.ReleaseSurface h) k s = None
router_more router.ReleaseAll k s = None

-- what an accepted call shows: a close its report, a routed event what became of it, every other call what its answer
-- has to show
abbrev pub accepted_more : Call → Answer → Counter → Option (List Number)
accepted_more (call.Panel c) a k = shown_more a.shown k.registry
accepted_more (call.Input c) a k = shown_more a.shown k.registry
accepted_more (call.ReleaseDevice c) a k = shown_more a.shown k.registry
accepted_more (call.Shortcut c) a k = shown_more a.shown k.registry
accepted_more (call.Arbitrate c) a k = shown_more a.shown k.registry
accepted_more (call.Close c) a k = Some (closing_numbers c a.listed.closed a.listed.shutdown)
accepted_more (call.Router c) a k = router_more c a.report.kind a.report.view_release
accepted_more (call.Read c) a k = shown_more a.shown k.registry

-- a refused call shows nothing
unfoldable pub more_of : Call → Answer → Counter → Option (List Number)
more_of c a k = cond (is_ok a.outcome) (accepted_more c a k) None
