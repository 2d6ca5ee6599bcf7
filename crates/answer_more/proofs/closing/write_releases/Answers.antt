-- `write_releases` meets its contract: each turn writes one entry more.
use Rattle.std.proofs.Common.{arith, ◌≡◌, length}
use lib.Seq.{take-length}
use Rattle.lists.specs.Tables.{entries_of}
use Rattle.answer_numbers.specs.Numbers.{plain, each}
use Rattle.answer_numbers.proofs.WriteLaws.{place_written}
use Rattle.answer_more.specs.Closing.{released_numbers}
use Rattle.answer_more.proofs.closing.write_releases.Goals as goal

pub loop-entry-init : goal.loop-entry-init
unfolding each
loop-entry-init c = c.write.ensures

pub loop-entry-preserved : goal.loop-entry-preserved
loop-entry-preserved c =
    place_written released_numbers _ c.loop-entry.entry-index _ (plain _) _ c.loop-entry-test.true c.loop-entry.invariant
    (rw c.release_number.ensures at c.plain.ensures)
