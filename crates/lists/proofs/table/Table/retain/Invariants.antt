-- Whatever test the closure is, the table holds what passes it of the entries passed.
use Rattle.std.proofs.Common.{◌≡◌, Bool, take}
use Rattle.lists.specs.Lists.{keep, AnswersAs}
use Rattle.lists.specs.Tables.{table, packed}
use Rattle.lists.proofs.table.Table.retain.Given as goal

abbrev pub invariant-loop-entry : goal.invariant-loop-entry
invariant-loop-entry g l = (test : g.row.T.Denot → Bool) → AnswersAs g.F.Fn l.passes test
    → l.kept ≡ packed (table g.row.N g.T.Blank.BLANK) (keep test (take l.entry-index l.entry-items))
