-- `route_arbitrated` meets its contract, by what is decided of the event.
use mathlib.Core.Path.{◌≡◌, sym, ap, ◌∙◌}
use Rattle.std.proofs.Common.{rules}
use Rattle.composition_arbitration.specs.Decisions.{accepted_trace}
use Rattle.composition_arbitration.proofs.DecisionLaws.{accepts, refuses, same_decision}
use Rattle.input_route.proofs.RouteLaws.{decision, dropped, arbitrated}
use Rattle.input_route.proofs.route.route_arbitrated.Goals as goal

pub returns-in-Err : goal.returns-in-Err
returns-in-Err c =
    let a = c.args in
    let made : accepted_trace c.decide-decision.result ≡ decision a.registry.now a.router a.event =
    ap accepted_trace c.decide-decision.ensures ∙ same_decision _ a.registry.now a.event.header.view _ _
    ∙ rw (c.hits_for.ensures, c.arbitration_event-asked.ensures, c.held_for.ensures) in
    c.refused.ensures ∙ rw c.into.ensures (sym (dropped a.registry.now a.router a.event c.requires _ (sym made ∙ refuses _ _ c.in-Err.is)))

pub returns : goal.returns
returns c =
    let a = c.args in
    let made : accepted_trace c.decide-decision.result ≡ decision a.registry.now a.router a.event =
    ap accepted_trace c.decide-decision.ensures ∙ same_decision _ a.registry.now a.event.header.view _ _
    ∙ rw (c.hits_for.ensures, c.arbitration_event-asked.ensures, c.held_for.ensures) in
    rw (
      c.with_traces_at.ensures,
      c.arbitrated_report.ensures,
      c.result_of.ensures,
      c.track.ensures,
      c.receiver.ensures,
      c.effect_of.ensures,
      c.push_trace-traces.ensures,
    )
    (sym (arbitrated a.registry.now a.router a.event c.requires _ (sym made ∙ accepts _ c.in_default.is)))
