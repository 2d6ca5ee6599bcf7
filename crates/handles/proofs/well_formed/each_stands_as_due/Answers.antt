-- A slot that does not stand as is due fails the test of all.
use Rattle.std.proofs.Common.{sym, rules}
use Rattle.lists.proofs.BelowLaws.{all_fails}
use Rattle.handles.proofs.well_formed.each_stands_as_due.Goals as goal

pub returns-then-occurrences-entries_due : goal.returns-then-occurrences-entries_due
returns-then-occurrences-entries_due c = sym (all_fails _ _ _ c.loop-i-test.true (search rules))
