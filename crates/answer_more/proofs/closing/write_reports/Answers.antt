-- `write_reports` meets its contract: each turn writes one entry more.
use Rattle.std.proofs.Common.{arith, ◌≡◌, length}
use lib.Seq.{take-length}
use Rattle.lists.specs.Tables.{entries_of}
use Rattle.answer_numbers.specs.Numbers.{plain, each}
use Rattle.answer_numbers.proofs.WriteLaws.{place_written}
use Rattle.answer_more.specs.Closing.{report_numbers}
use Rattle.answer_more.proofs.closing.write_reports.Goals as goal

pub loop-report-init : goal.loop-report-init
unfolding each
loop-report-init c = c.write.ensures

pub loop-report-preserved : goal.loop-report-preserved
loop-report-preserved c =
    place_written report_numbers _ c.loop-report.report-index _ (plain _) _ c.loop-report-test.true c.loop-report.invariant
    c.write_report.ensures
