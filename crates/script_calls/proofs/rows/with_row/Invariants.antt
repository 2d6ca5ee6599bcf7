-- `with_row` meets its contract: the letters to come answer as the whole row.
use Rattle.std.proofs.Common.{◌≡◌, ◌+◌, drop}
use Rattle.script_calls.proofs.RowLaws.{read_row}
use Rattle.script_calls.proofs.rows.with_row.Given as goal

abbrev pub invariant-loop-k : goal.invariant-loop-k
invariant-loop-k l = read_row l.initial.words l.row l.fields l.at ≡ read_row l.words (drop l.k l.row) l.fields (l.at + l.k)
