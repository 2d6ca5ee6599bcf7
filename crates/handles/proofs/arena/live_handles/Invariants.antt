-- The table holds the handles of the slots passed.
use Rattle.std.proofs.Common.{◌≡◌}
use Rattle.lists.specs.Tables.{packed}
use Rattle.handles.specs.Slots.{handles_table, handles_below, used_places}
use Rattle.handles.proofs.arena.live_handles.Given as goal

abbrev pub invariant-loop-i : goal.invariant-loop-i
invariant-loop-i l = (l.live ≡ packed handles_table (handles_below l.a.slots l.i)) × (l.i-end ≡ used_places l.a)
