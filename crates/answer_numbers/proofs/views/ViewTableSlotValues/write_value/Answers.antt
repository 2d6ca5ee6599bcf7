-- `write_value` meets its contract: the record in the slot is written; past the table it is a blank, whose tables are packed.
use Rattle.lists.specs.Tables.{packed}
use Rattle.answer_numbers.proofs.views.ViewTableSlotValues.write_value.Goals as goal

pub returns : goal.returns
unfolding packed
returns c = rw c.item_or-view.ensures at c.write.ensures
