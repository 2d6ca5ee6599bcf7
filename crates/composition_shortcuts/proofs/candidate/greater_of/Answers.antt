-- `greater_of` meets its contract: a candidate replaces the best exactly if the best is less.
use mathlib.Core.Path.{sym, ◌∙◌}
use Rattle.composition_shortcuts.proofs.CandidateLaws.{none_more, new_more, old_more}
use Rattle.composition_shortcuts.proofs.candidate.greater_of.Goals as goal

pub returns-then-is_less : goal.returns-then-is_less
returns-then-is_less c = λ l e. new_more l _ _ (sym c.in-Some.is ∙ e) (sym c.is_less.ensures ∙ c.if-is_less.true)

pub returns-in-None : goal.returns-in-None
returns-in-None c = λ l e. none_more l _ (sym c.in-None.is ∙ e)

pub returns-else-is_less : goal.returns-else-is_less
returns-else-is_less c = λ l e. old_more l _ _ (sym c.in-Some.is ∙ e) (sym c.is_less.ensures ∙ c.if-is_less.false)
