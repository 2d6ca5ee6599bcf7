-- `put_steps` meets its contract: after as many turns the first steps are taken and their lines put.
use mathlib.Core.Path.{◌≡◌}
use Rattle.answer_columns.specs.Lines.{held, holding}
use Rattle.desk.proofs.TableLaws.{State, lines}
use Rattle.desk.proofs.table.put_steps.Given as goal

abbrev pub invariant-loop-i : goal.invariant-loop-i
invariant-loop-i l =
    ◌≡◌ {A = State} (l.counter, held l.line) (lines l.opened.places l.i (l.opened.counter, held l.fn.line))
    × (l.line ≡ holding l.fn.line (held l.line))
