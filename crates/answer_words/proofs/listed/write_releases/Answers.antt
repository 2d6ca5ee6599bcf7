-- `write_releases` meets its contract: each turn writes one release more.
use Rattle.std.proofs.Common.{arith, ◌≡◌, length}
use lib.Seq.{take-length}
use Rattle.lists.specs.Tables.{entries_of}
use Rattle.answer_numbers.specs.Numbers.{plain, each}
use Rattle.answer_numbers.proofs.WriteLaws.{place_written}
use Rattle.answer_words.specs.Answers.{release_numbers}
use Rattle.answer_words.proofs.listed.write_releases.Goals as goal

pub loop-release-init : goal.loop-release-init
unfolding each
loop-release-init c = c.write.ensures

pub loop-release-preserved : goal.loop-release-preserved
loop-release-preserved c =
    place_written release_numbers _ c.loop-release.release-index _ (plain _) _ c.loop-release-test.true c.loop-release.invariant c.write_release.ensures
