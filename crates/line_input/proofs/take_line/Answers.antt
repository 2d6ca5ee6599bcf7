-- `take_line` meets its contract: the bytes up to the line feed are put.
use Rattle.std.proofs.Common.{Bor, List, ℕ, ◌-◌, length, take, refl, ap, ◌∙◌}
use Rattle.answer_text.specs.Put.{put}
use Rattle.line_input.proofs.InputLaws.{bytes_taken}
use Rattle.line_input.proofs.take_line.Goals as goal

pub returns-then-complete-clause-fact : goal.returns-then-complete-clause-fact
returns-then-complete-clause-fact c =
    c.put_clipped-filled.ensures
    ∙ ap (λ (t : List ℕ). put (take (length c.args.line.now - c.args.len) t) (c.args.line.now, c.args.len))
    (ap (λ (r : Bor (List ℕ)). r.now) c.unwrap_or.ensures ∙ bytes_taken c.args.chunk.now c.args.from _ c.find-end.ensures _ _ c.get.ensures.lookup refl)

pub returns-else-complete-clause-fact : goal.returns-else-complete-clause-fact
returns-else-complete-clause-fact c =
    c.put_clipped-filled.ensures
    ∙ ap (λ (t : List ℕ). put (take (length c.args.line.now - c.args.len) t) (c.args.line.now, c.args.len))
    (ap (λ (r : Bor (List ℕ)). r.now) c.unwrap_or.ensures ∙ bytes_taken c.args.chunk.now c.args.from _ c.find-end.ensures _ _ c.get.ensures.lookup refl)
