-- `device_cleared` meets its contract: after i turns the first i slots are cleared.
use Rattle.std.proofs.Common.{sym, ◌∙◌}
use Rattle.lists.proofs.BelowLaws.{iter_none, iter_more}
use Rattle.composition_input.proofs.captures.device_cleared.Goals as goal

pub loop-i-init : goal.loop-i-init
loop-i-init c = sym (iter_none _ _)

pub loop-i-preserved : goal.loop-i-preserved
loop-i-preserved c = let l = c.loop-i in c.cleared_at-cleared.ensures ∙ rw l.invariant (sym (iter_more _ l.i _))
