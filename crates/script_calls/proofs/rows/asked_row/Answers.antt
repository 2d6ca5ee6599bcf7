-- `asked_row` meets its contract: the row of its number behind its number.
use Rattle.script_calls.proofs.rows.asked_row.Goals as goal

pub returns : goal.returns
returns c = rw (c.with_row_of.ensures, c.begin.ensures)
