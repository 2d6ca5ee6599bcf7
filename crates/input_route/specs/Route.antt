-- RULES.md, Route, Presses: what is recorded, and then the disconnect, the view's loss or the arbitration of an event.
use Rattle.maps.specs.declared.keys.BindingKey.{BindingKey}
use Rattle.input_events.specs.RouterErrors.{RouterOutcome}
use Rattle.records.specs.declared.error.CompositionError.{CompositionError}
use Rattle.handles.specs.declared.GenerationalHandle.{GenerationalHandle}
use Rattle.std.specs.Prelude.{cond, [], Option, None, Some, Result, Ok, Err}
use Rattle.lists.specs.Tables.{packed}
use Rattle.composition_state.specs.declared.registry.CompositionRegistry.{CompositionRegistry}
use Rattle.records.specs.Traces.{Hits, hits}
use Rattle.composition_hits.specs.HitTest.{view_hits}
use Rattle.composition_arbitration.specs.Arbitration.{Arbitrated}
use Rattle.composition_arbitration.specs.declared.arbitrate.ArbitrationResult.{ArbitrationResult}
use Rattle.composition_arbitration.specs.Arbitration.{arbitrated}
use Rattle.input_events.specs.declared.error.PlatformInputError.TheVariants as error
use Rattle.input_events.specs.declared.event.PlatformInputEvent.{PlatformInputEvent}
use Rattle.input_events.specs.declared.presses.Effect.{Effect}
use Rattle.input_events.specs.declared.presses.Effect.TheVariants.{Opens, Ends, Nothing}
use Rattle.input_events.specs.ArbitrationEvents.{arbitration_event, needs_hits, point_of, is_loss, is_disconnect}
use Rattle.input_events.specs.Presses.{press_of, effect_of, receiver_of}
use Rattle.input_router.specs.declared.router.PlatformInputRouter.{PlatformInputRouter}
use Rattle.input_router.specs.Order.{recorded}
use Rattle.input_router.specs.Presses.{held_by, opened, ended}
use Rattle.release_lists.specs.Releases.{releases}
use Rattle.input_releases.specs.declared.answer.PlatformInputRoutingReport.{PlatformInputRoutingReport}
use Rattle.input_releases.specs.declared.answer.RouteKind.TheVariants as kind
use Rattle.input_releases.specs.declared.answer.Routed.{Routed}
use Rattle.input_releases.specs.Answers.{refused_with}
use Rattle.input_route.specs.Checks.{route_refusal}
use Rattle.input_releases.specs.Losses.{routed_disconnect, routed_loss}

-- the panel that holds the press of an event
abbrev pub held_at : PlatformInputRouter → Option BindingKey → Option GenerationalHandle
held_at t None = None
held_at t (Some key) = held_by t key

abbrev pub held_for : PlatformInputRouter → PlatformInputEvent → Option GenerationalHandle
held_for t e = held_at t (press_of e)

-- the hits at the point of an event that is aimed by it
unfoldable pub hits_for : CompositionRegistry → PlatformInputEvent → Hits
hits_for r e =
    cond (needs_hits e.payload) (packed hits (view_hits r e.header.view (point_of e.payload))) (packed hits [])

-- Presses: "with a receiver opens the press or moves it to the new receiver, with no release listed. Without a receiver
-- an older press is unchanged.
-- Up, Cancel or a disconnected snapshot ends it, even if its panel was not delivered to."
abbrev pub tracked : PlatformInputRouter → Effect → Option GenerationalHandle → PlatformInputRouter
tracked t (Opens key) None = t
tracked t (Opens key) (Some surface) = opened t key surface
tracked t (Ends key) receiver = ended t key
tracked t Nothing receiver = t

-- an arbitrated event lists no release
abbrev pub arbitrated_report : ArbitrationResult → PlatformInputRoutingReport
arbitrated_report a =
    record {
      kind = kind.Arbitrated;
      arbitration = a;
      synthesized_releases = packed releases [];
      view_release = None;
      composition_revision = a.revision;
    }

-- an accepted arbitration tracks the press; a refused one leaves the presses
abbrev pub arbitrated_after : Arbitrated → PlatformInputRouter → PlatformInputEvent
    → Result ArbitrationResult CompositionError → Routed
arbitrated_after a t e (Ok x) = record {
  outcome = Ok (arbitrated_report x);
  registry = a.registry;
  router = tracked t (effect_of e) (receiver_of x.consumed_by x.deliveries);
}
arbitrated_after a t e (Err x) = refused_with (error.Composition x) a.registry t

-- the event is arbitrated in its view, aimed by the press's panel or the hits
unfoldable pub routed_arbitration : CompositionRegistry → PlatformInputRouter → PlatformInputEvent → Routed
routed_arbitration r t e =
    let a = arbitrated r e.header.view (arbitration_event e (held_for t e)) (hits_for r e) in
    arbitrated_after a t e a.outcome

-- a device's disconnect, a view's loss, or an event to arbitrate
unfoldable pub routed_payload : CompositionRegistry → PlatformInputRouter → PlatformInputEvent → Routed
routed_payload r t e =
    cond (is_disconnect e.payload) (routed_disconnect r t e.header.device)
    (cond (is_loss e.payload) (routed_loss r t e.header.view)
    (routed_arbitration r t e))

-- Route keeps the sequence and time once recorded
abbrev pub recorded_event : PlatformInputRouter → PlatformInputEvent → PlatformInputRouter
recorded_event t e = recorded t e.header.device e.header.sequence e.header.timestamp_micros

abbrev pub routed_after : CompositionRegistry → PlatformInputRouter → PlatformInputEvent → RouterOutcome → Routed
routed_after r t e (Ok _) = routed_payload r (recorded_event t e) e
routed_after r t e (Err x) = refused_with x r t

-- an event that the checks refuse writes nothing; any other is recorded before its work
unfoldable pub routed : CompositionRegistry → PlatformInputRouter → PlatformInputEvent → Routed
routed r t e = routed_after r t e (route_refusal r t e)
