-- `write_reports` meets its contract: after some turns the count and the first entries are written.
use Rattle.std.proofs.Common.{◌∷◌, ◌≡◌, length, take}
use Rattle.answer_numbers.specs.Numbers.{plain, each}
use Rattle.answer_numbers.specs.Writers.{written}
use Rattle.answer_more.specs.Closing.{report_numbers}
use Rattle.answer_more.proofs.closing.write_reports.Given as goal

abbrev pub invariant-loop-report : goal.invariant-loop-report
invariant-loop-report l = l.to ≡ written (plain (length l.reports) ∷ each report_numbers (take l.report-index l.reports)) l.fn.to
