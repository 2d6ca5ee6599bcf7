-- `is_window_in_use` meets its contract: a turn adds a slot to those tested, and one whose view stands there decides.
use Rattle.std.proofs.Common.{◌≡◌, ◌∙◌, sym, ap, not, arith}
use Rattle.lists.specs.Below.{all_below}
use Rattle.lists.proofs.BelowLaws.{all_none, all_next, all_fails}
use Rattle.composition_panels.specs.Windows.{stands_in, is_window_in_use}
use Rattle.records.specs.Views.{view_slots}
use Rattle.records.proofs.ViewLaws.{few_slots}
use Rattle.composition_panels.proofs.windows.is_window_in_use.Goals as goal

pub loop-i-init : goal.loop-i-init
loop-i-init c = all_none _

pub loop-i-preserved : goal.loop-i-preserved
loop-i-preserved c = all_next _ c.loop-i.i c.loop-i.invariant (ap not (sym c.stands_in.ensures ∙ c.if-stands_in.false))

pub returns-then-stands_in : goal.returns-then-stands_in
unfolding is_window_in_use
returns-then-stands_in c =
    let a = c.args in
    let stands = ap not (sym c.stands_in.ensures ∙ c.if-stands_in.true) in
    sym (ap not (all_fails (λ k. not (stands_in a.views a.window k)) (view_slots a.views) c.loop-i.i (omega (arith, c.slots-i-end.ensures)) stands))
