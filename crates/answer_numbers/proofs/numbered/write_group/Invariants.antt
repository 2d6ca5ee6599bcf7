-- `write_group` meets its contract: after some turns the count and those of the group among the first are written.
use Rattle.std.proofs.Common.{◌∷◌, ◌≡◌, eqb, length, take}
use Rattle.lists.specs.Lists.{keep}
use Rattle.answer_numbers.specs.Numbers.{plain, each}
use Rattle.answer_numbers.specs.Writers.{written}
use Rattle.answer_numbers.proofs.EachLaws.{if_passes}
use Rattle.answer_numbers.proofs.numbered.write_group.Given as goal

abbrev pub invariant-loop-e : goal.invariant-loop-e
invariant-loop-e g l =
    l.to
    ≡ written (plain (length (keep (λ e. eqb (g.E.Grouped.group e) l.group) l.entries)) ∷ each (if_passes (λ e. eqb (g.E.Grouped.group e) l.group) g.E.Numbered.numbers) (take l.e-index l.entries)) l.fn.to
