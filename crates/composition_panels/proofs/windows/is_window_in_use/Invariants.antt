-- `is_window_in_use` meets its contract: no view of the first i slots stands in the window.
use Rattle.std.proofs.Common.{◌≡◌}
use mathlib.Core.Bool.{true, not}
use Rattle.lists.specs.Below.{all_below}
use Rattle.composition_panels.specs.Windows.{stands_in}
use Rattle.composition_panels.proofs.windows.is_window_in_use.Given as goal

abbrev pub invariant-loop-i : goal.invariant-loop-i
invariant-loop-i l = all_below (λ k. not (stands_in l.views l.window k)) l.i ≡ true
