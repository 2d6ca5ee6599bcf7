-- `arbitrate` meets its contract, by what is decided of the event.
use mathlib.Core.Path.{sym, ap, ◌∙◌}
use Rattle.composition_arbitration.specs.Decisions.{accepted_trace}
use Rattle.composition_arbitration.proofs.DecisionLaws.{accepts, refuses, same_decision, accepted, refused}
use Rattle.composition_arbitration.proofs.arbitrate.arbitrate.Goals as goal

pub returns-in-Err : goal.returns-in-Err
returns-in-Err c =
    let a = c.args in
    let made = ap accepted_trace c.decide-decision.ensures ∙ same_decision c.damage.result a.registry a.view a.event a.hits in
    sym (refused a.registry a.view a.event a.hits _ (rw (sym c.damage.ensures) (sym made ∙ refuses _ _ c.in-Err.is)))

pub returns : goal.returns
returns c =
    let a = c.args in
    let made = ap accepted_trace c.decide-decision.ensures ∙ same_decision c.damage.result a.registry a.view a.event a.hits in
    rw (c.result_of.ensures, c.with_traces_at.ensures, c.push_trace-traces.ensures)
    (sym (accepted a.registry a.view a.event a.hits _ (rw (sym c.damage.ensures) (sym made ∙ accepts _ c.in_default.is))))
