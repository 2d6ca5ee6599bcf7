-- After i turns the windows of the first i slots are closed.
use Rattle.std.proofs.Common.{◌≡◌}
use Rattle.lists.specs.Below.{iter_below}
use Rattle.composition_close.specs.Shutdown.{window_closed_at}
use Rattle.composition_close.proofs.shutdown.close_windows.Given as goal

abbrev pub invariant-loop-i : goal.invariant-loop-i
invariant-loop-i l = l.left ≡ iter_below window_closed_at l.i l.initial.left
