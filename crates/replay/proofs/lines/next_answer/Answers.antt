-- `next_answer` meets its contract: what the calls in it answer is one turn.
use mathlib.Core.Path.{sym, ◌∙◌}
use Rattle.replay.proofs.TurnLaws.{turn_answered, turn_on}
use Rattle.replay.proofs.lines.next_answer.Goals as goal

pub returns-then-taken : goal.returns-then-taken
returns-then-taken c =
    let a = c.args in
    let taken = c.take_line-taken.ensures in
    record {
      turn = turn_answered a.session a.line.now a.len a.out.now a.chunk.now a.from _ _ taken.fact _ c.answer_bytes-answered.result
          (sym c.if-taken.true ∙ taken.complete_value)
          c.answer_bytes-answered.ensures.fact;
      next_value = taken.next_value;
    }

pub returns : goal.returns
returns c =
    let a = c.args in
    let taken = c.take_line-taken.ensures in
    record { turn = turn_on a.session a.line.now a.len a.out.now a.chunk.now a.from _ _ taken.fact (sym c.if-taken.false ∙ taken.complete_value); next_value = taken.next_value }
