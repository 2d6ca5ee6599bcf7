-- Whatever the closure reads, the table holds the entries so far.
use Rattle.std.proofs.Common.{◌≡◌, ◌<◌, ℕ}
use Rattle.std.specs.Prelude.{Option, Some}
use Rattle.script_calls.specs.ListFields.{listed}
use Rattle.script_calls.proofs.list_fields.list_of.Given as goal

abbrev pub invariant-loop-k : goal.invariant-loop-k
invariant-loop-k g l = (entry : ℕ → Option g.row.T.Denot) → ((k : ℕ) (r : Option g.row.T.Denot) → k < l.n → goal.F-post g l.read k r → r ≡ entry k)
    → listed g.row.N g.T.Blank.BLANK entry l.k ≡ Some l.list × l.list.len ≡ l.k
