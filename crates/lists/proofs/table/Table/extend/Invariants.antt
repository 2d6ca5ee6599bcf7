-- The items taken so far stand after the table's own.
use Rattle.std.proofs.Common.{◌≡◌}
use Rattle.std.specs.List.{fold}
use Rattle.lists.specs.Tables.{table, pushed_within}
use Rattle.lists.proofs.table.Table.extend.Given as goal

abbrev pub invariant-loop-item : goal.invariant-loop-item
invariant-loop-item g l = l.next ≡ fold (pushed_within (table g.row.N g.T.Blank.BLANK)) l.fn.self l.yielded
