-- `put_more` meets its contract: a refused call shows nothing, a close and a routed event their own, and any other call
-- what its answer has to show.
use mathlib.Core.Path.{sym}
use Rattle.answer_more.specs.More.{more_of}
use Rattle.answer_more.proofs.ShownLaws.{own_shown}
use Rattle.answer_more.proofs.more.put_more.Goals as goal

pub returns-then-not-is_ok : goal.returns-then-not-is_ok
unfolding more_of
returns-then-not-is_ok c = rw (sym c.is_ok.ensures.value, c.if-not-is_ok.true) c.put_none.ensures

pub returns-in-Close : goal.returns-in-Close
unfolding more_of
returns-in-Close c = rw (sym c.is_ok.ensures.value, c.if-not-is_ok.false, c.in-Close.is) c.put_closing.ensures

pub returns-in-Router : goal.returns-in-Router
unfolding more_of
returns-in-Router c = rw (sym c.is_ok.ensures.value, c.if-not-is_ok.false, c.in-Router.is) c.put_routed.ensures

pub returns-in_default : goal.returns-in_default
unfolding more_of
returns-in_default c =
    let a = c.args in
    rw (sym c.is_ok.ensures.value, c.if-not-is_ok.false, own_shown a.call a.answer a.counter c.in_default.not-Close c.in_default.not-Router) c.put_shown.ensures
