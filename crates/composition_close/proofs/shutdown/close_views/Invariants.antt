-- After i turns the views of the first i slots are closed.
use Rattle.std.proofs.Common.{◌≡◌, ◌*◌, ◌≤◌}
use Rattle.lists.specs.Below.{iter_below}
use Rattle.composition_close.specs.Shutdown.{view_closed_at}
use Rattle.composition_close.proofs.shutdown.close_views.Given as goal

abbrev pub invariant-loop-i : goal.invariant-loop-i
invariant-loop-i l = (l.work.reports.len ≤ l.i * 16) × (l.work ≡ iter_below view_closed_at l.i l.initial.work)
