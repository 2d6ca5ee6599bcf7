-- `write` meets its contract: its parts are written one after the other.
use Rattle.answer_numbers.proofs.WriteLaws.{then}
use Rattle.answer_numbers.proofs.views.ViewRecordNumbered.write.Goals as goal

pub returns : goal.returns
returns c =
    then _ _ _ c.write.ensures
    (then _ _ _ c.write-2.ensures
    (then _ _ _ c.write-3.ensures
    (then _ _ _ c.write-4.ensures
    (then _ _ _ c.write-5.ensures
    (then _ _ _ c.write-6.ensures
    c.write-7.ensures)))))
