-- `write` meets its contract: what ten calls write one after the other is one list.
use Rattle.answer_numbers.proofs.WriteLaws.{written_both}
use Rattle.answer_numbers.proofs.groups.ViewMetricsNumbered.write.Goals as goal

pub returns : goal.returns
returns c =
    simp (c.write-10.ensures, c.write-9.ensures, c.write-8.ensures, c.write-7.ensures, c.write-6.ensures, c.write-5.ensures, c.write-4.ensures, c.write-3.ensures, c.write-2.ensures, c.write.ensures, written_both)
