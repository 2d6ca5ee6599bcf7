-- `write_list` meets its contract: after some turns the count and the numbers of the first entries are written.
use Rattle.std.proofs.Common.{◌∷◌, ◌≡◌, length, take}
use Rattle.answer_numbers.specs.Numbers.{plain, each}
use Rattle.answer_numbers.specs.Writers.{written}
use Rattle.answer_numbers.proofs.numbered.write_list.Given as goal

abbrev pub invariant-loop-e : goal.invariant-loop-e
invariant-loop-e g l =
    l.to ≡ written (plain (length l.entries) ∷ each g.E.Numbered.numbers (take l.e-index l.entries)) l.fn.to
