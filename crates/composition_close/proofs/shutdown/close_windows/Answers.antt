-- After i turns the windows of the first i slots are closed.
use Rattle.std.proofs.Common.{sym, ◌∙◌}
use Rattle.lists.proofs.BelowLaws.{iter_none, iter_more}
use Rattle.composition_close.proofs.shutdown.close_windows.Goals as goal

pub loop-i-init : goal.loop-i-init
loop-i-init c = sym (iter_none _ _)

pub loop-i-preserved : goal.loop-i-preserved
loop-i-preserved c = let l = c.loop-i in c.close_window_at-left.ensures ∙ rw l.invariant (sym (iter_more _ l.i _))
