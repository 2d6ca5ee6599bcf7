-- `plain` meets its contract: each kind of sink takes the number as its definition says.
use Rattle.std.proofs.Common.{◌∙◌}
use mathlib.Core.Logic.{⊎_elim}
use Rattle.answer_numbers.specs.Numbers.{plain}
use Rattle.answer_numbers.proofs.WriteLaws.{as_kind}
use Rattle.answer_numbers.proofs.writer.Writer.plain.Goals as goal

pub returns-in-Column : goal.returns-in-Column
returns-in-Column c = c.put_plain.ensures ∙ ⊎_elim (as_kind (plain _) _) (as_kind (plain _) _) c.in-Column.is

pub returns-in-Digest : goal.returns-in-Digest
returns-in-Digest c = c.add_number.ensures ∙ as_kind (plain _) _ c.in-Digest.is

pub returns-in-Words : goal.returns-in-Words
returns-in-Words c = c.put_word.ensures ∙ as_kind (plain _) _ c.in-Words.is
