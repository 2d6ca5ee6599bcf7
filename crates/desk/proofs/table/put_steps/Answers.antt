-- `put_steps` meets its contract: after as many turns the first steps are taken and their lines put.
use mathlib.Core.Path.{refl, ap, ◌∙◌, ◌≡◌}
use native.Mathlib.Omega.{arith}
use Rattle.answer_columns.specs.Lines.{holding, held}
use Rattle.desk.proofs.TableLaws.{no_line, next_line, all_lines, kept, held_more}
use Rattle.desk.proofs.table.put_steps.Goals as goal

pub loop-i-init : goal.loop-i-init
loop-i-init c = (no_line _ _, refl)

pub loop-i-preserved : goal.loop-i-preserved
loop-i-preserved c =
    let l = c.loop-i in
    (next_line c.args.opened.places l.i _ l.counter c.call_of.result c.no_lists.result c.step-done.result l.invariant.0 c.call_of.ensures c.no_lists.ensures c.step-done.ensures (held_more _ l.line c.put_line.ensures), kept _ c.args.line.now l.invariant.1 c.put_line.ensures)

pub returns : goal.returns
returns c =
    let l = c.loop-i in
    let last : l.i ≡ 8 = omega arith in
    l.invariant.1 ∙ ap (holding c.args.line.now) (all_lines c.args.opened (held c.args.line.now) l.i last l.invariant.0)
