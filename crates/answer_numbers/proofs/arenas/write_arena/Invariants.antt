-- `write_arena` meets its contract: after some turns the count and the first slots are written.
use Rattle.std.proofs.Common.{◌∷◌, ◌≡◌}
use Rattle.handles.specs.Slots.{slot_at}
use Rattle.answer_numbers.specs.Numbers.{plain, each, indices}
use Rattle.answer_numbers.specs.Writers.{written}
use Rattle.answer_numbers.specs.Arenas.{slot_numbers}
use Rattle.answer_numbers.proofs.arenas.write_arena.Given as goal

abbrev pub invariant-loop-i : goal.invariant-loop-i
invariant-loop-i g l =
    l.to ≡ written (plain l.used ∷ each (λ i. slot_numbers (g.V.SlotValues.value l.values i) (slot_at l.arena i)) (indices l.i)) l.fn.to
