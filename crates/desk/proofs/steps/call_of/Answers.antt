-- `call_of` meets its contract: each number's call is the definition's.
use borrow.Author.Tests.{ne_eqb}
use Rattle.desk.specs.Steps.{call_of}
use Rattle.desk.proofs.steps.call_of.Goals as goal

pub returns-in-1 : goal.returns-in-1
unfolding call_of
returns-in-1 c = rw c.in-1.is c.down.ensures

pub returns-in-2 : goal.returns-in-2
unfolding call_of
returns-in-2 c = rw c.in-2.is

pub returns-in-3 : goal.returns-in-3
unfolding call_of
returns-in-3 c = rw c.in-3.is

pub returns-in-4 : goal.returns-in-4
unfolding call_of
returns-in-4 c = rw c.in-4.is c.down-in-4.ensures

pub returns-in-5 : goal.returns-in-5
unfolding call_of
returns-in-5 c = rw c.in-5.is c.down-in-5.ensures

pub returns-in-6 : goal.returns-in-6
unfolding call_of
returns-in-6 c = rw c.in-6.is c.disconnect.ensures

pub returns-in-7 : goal.returns-in-7
unfolding call_of
returns-in-7 c = rw c.in-7.is c.down-in-7.ensures

pub returns-in_default : goal.returns-in_default
unfolding call_of
returns-in_default c =
    let others = c.in_default.in_default-own.rest in
    rw (ne_eqb _ 1 others.0.0.0.0.0.0.1, ne_eqb _ 2 others.0.0.0.0.0.1, ne_eqb _ 3 others.0.0.0.0.1, ne_eqb _ 4 others.0.0.0.1, ne_eqb _ 5 others.0.0.1, ne_eqb _ 6 others.0.1, ne_eqb _ 7 others.1) c.down-in_default.ensures
