-- `write_releases` meets its contract: after some turns the count and the first entries are written.
use Rattle.std.proofs.Common.{◌∷◌, ◌≡◌, length, take}
use Rattle.answer_numbers.specs.Numbers.{plain, each}
use Rattle.answer_numbers.specs.Writers.{written}
use Rattle.answer_more.specs.Closing.{released_numbers}
use Rattle.answer_more.proofs.closing.write_releases.Given as goal

abbrev pub invariant-loop-entry : goal.invariant-loop-entry
invariant-loop-entry l = l.to ≡ written (plain (length l.entries) ∷ each released_numbers (take l.entry-index l.entries)) l.fn.to
