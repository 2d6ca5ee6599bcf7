-- `device_cleared` meets its contract: after i turns the first i slots are cleared.
use Rattle.std.proofs.Common.{◌≡◌}
use Rattle.lists.specs.Below.{iter_below}
use Rattle.composition_input.specs.Captures.{cleared_at}
use Rattle.composition_input.proofs.captures.device_cleared.Given as goal

abbrev pub invariant-loop-i : goal.invariant-loop-i
invariant-loop-i l = l.cleared ≡ iter_below (cleared_at l.device.value l.device.generation) l.i l.initial.cleared
