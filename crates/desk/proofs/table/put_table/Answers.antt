-- `put_table` meets its contract: the column line and the lines of the steps are put one after the other.
use Rattle.std.proofs.Common.{rules, sym, ap, ◌∙◌}
use Rattle.answer_columns.specs.declared.line.Line.{Line}
use Rattle.answer_columns.specs.Lines.{held}
use Rattle.answer_columns.proofs.LineLaws.{same_buffer}
use Rattle.desk.proofs.TableLaws.{table, held_more}
use Rattle.desk.proofs.table.put_table.Goals as goal

pub returns : goal.returns
returns c =
    let name = λ (l : Line). l.out.ghost_name in
    let same = sym (ap name c.put_steps.ensures ∙ ap name c.bytes.ensures ∙ same_buffer _ _) in
    let all = table c.args.out.now c.open_desk.result _ c.open_desk.ensures (held_more _ _ c.bytes.ensures) (ap held c.put_steps.ensures) in
    search (rules, same, all)
