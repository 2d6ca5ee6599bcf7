-- The table holds: it is proved in `TableLaws.antt`.
use Rattle.counter_table.proofs.TableLaws.{table}
use Rattle.counter_table.proofs.counter_table.Goals as goal

pub returns : goal.returns
returns c = table
