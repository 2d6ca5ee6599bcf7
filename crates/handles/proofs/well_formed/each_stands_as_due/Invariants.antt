-- Every slot passed stands in the free list as often as is due.
use Rattle.std.proofs.Common.{◌≡◌, true}
use Rattle.lists.specs.Below.{all_below}
use Rattle.handles.specs.WellFormed.{stands_as_due}
use Rattle.handles.proofs.well_formed.each_stands_as_due.Given as goal

abbrev pub invariant-loop-i : goal.invariant-loop-i
invariant-loop-i l = all_below (stands_as_due l.slots l.free) l.i ≡ true
