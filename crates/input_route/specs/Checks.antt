-- RULES.md, Route: 42, 31, 8/9, 39, 20, then 34 to 38 by payload, 40, 32, 33, 41; all before anything is written.
use Rattle.input_events.specs.RouterErrors.{RouterOutcome}
use Rattle.records.specs.Errors.{refusal_if}
use Rattle.std.specs.Result.{result_and}
use Rattle.std.specs.Prelude.{Bool, not, ◌&&◌, Ok, Err}
use Rattle.composition_state.specs.declared.registry.CompositionRegistry.{CompositionRegistry}
use Rattle.records.specs.Views.{ViewTable}
use Rattle.composition_state.specs.Damage.{is_sound}
use Rattle.input_events.specs.declared.error.PlatformInputError.TheVariants as error
use Rattle.input_events.specs.declared.event.PlatformInputEvent.{PlatformInputEvent}
use Rattle.input_events.specs.declared.event.PlatformInputHeader.{PlatformInputHeader}
use Rattle.input_events.specs.declared.presses.Effect.{Effect}
use Rattle.input_events.specs.declared.presses.Effect.TheVariants.{Opens, Ends, Nothing}
use Rattle.input_events.specs.Checks.{event_refusal}
use Rattle.input_events.specs.Presses.{effect_of}
use Rattle.input_router.specs.declared.router.PlatformInputRouter.{PlatformInputRouter}
use Rattle.input_router.specs.Damage.{is_router_sound}
use Rattle.input_router.specs.Order.{order_of}
use Rattle.input_router.specs.Presses.{has_room}

-- 42: the registry or the router handed in is damaged
abbrev pub damaged_refusal : CompositionRegistry → PlatformInputRouter → RouterOutcome
damaged_refusal r t = refusal_if (not (is_sound r && is_router_sound t)) error.Damaged

-- 40: a press that would open finds no room; it comes before order and receiver
abbrev pub effect_refusal : PlatformInputRouter → Effect → RouterOutcome
effect_refusal t (Opens key) = refusal_if (not (has_room t key)) error.Capacity
effect_refusal t (Ends key) = Ok tt
effect_refusal t Nothing = Ok tt

abbrev pub room_refusal : PlatformInputRouter → PlatformInputEvent → RouterOutcome
room_refusal t e = effect_refusal t (effect_of e)

-- 32, 33, 41 (unseen device, table full)
abbrev pub order_refusal : PlatformInputRouter → PlatformInputHeader → RouterOutcome
order_refusal t h = order_of t h.device h.sequence h.timestamp_micros

-- the first refusal of an event, in the order of RULES.md, Route, from what the damage test of the registry says
abbrev pub refusal_with : Bool → ViewTable → PlatformInputRouter → PlatformInputEvent → RouterOutcome
refusal_with sound views t e =
    result_and (refusal_if (not (sound && is_router_sound t)) error.Damaged)
    (result_and (event_refusal views e)
    (result_and (room_refusal t e)
    (order_refusal t e.header)))

unfoldable pub route_refusal : CompositionRegistry → PlatformInputRouter → PlatformInputEvent → RouterOutcome
route_refusal r t e = refusal_with (is_sound r) r.views t e
