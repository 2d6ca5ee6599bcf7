-- `answer_bytes` meets its contract: a line that is skipped has no answer, and any other that of `answer_line`; both are whole
-- texts, by the lengths that the session's type fixes.
use mathlib.Core.Path.{sym, ◌∙◌}
use Rattle.replay.proofs.TextLaws.{answered_whole}
use Rattle.replay.proofs.TurnLaws.{answered_skipped, answered_asked}
use Rattle.replay.proofs.lines.answer_bytes.Goals as goal

pub returns-then-is_line_skipped : goal.returns-then-is_line_skipped
returns-then-is_line_skipped c =
    let answer = answered_skipped _ _ _ (sym c.is_line_skipped.ensures ∙ c.if-is_line_skipped.true) in
    record { fact = answer; fact_2 = answered_whole _ c.state_lengths_held.ensures _ _ c.requires answer }

pub returns : goal.returns
returns c =
    let answer =
    rw c.parse_line.ensures at c.answer_line.ensures
    ∙ answered_asked _ _ _ (sym c.is_line_skipped.ensures ∙ c.if-is_line_skipped.false) in
    record { fact = answer; fact_2 = answered_whole _ c.state_lengths_held.ensures _ _ c.requires answer }
