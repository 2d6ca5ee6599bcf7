-- `signed` meets its contract: each kind of sink takes the number as its definition says, a raised one where it dumps.
use Rattle.std.proofs.Common.{◌∙◌, to_z-of_z}
use Rattle.answer_numbers.specs.Numbers.{signed}
use Rattle.answer_numbers.proofs.WriteLaws.{as_kind}
use Rattle.answer_numbers.proofs.writer.Writer.signed.Goals as goal

pub returns-in-Column : goal.returns-in-Column
returns-in-Column c = simp (to_z-of_z c.ranges.n) at c.put_signed.ensures ∙ as_kind (signed c.args.n) c.args.self.now c.in-Column.is

pub returns-in-Dump : goal.returns-in-Dump
returns-in-Dump c = simp (c.raise.ensures, to_z-of_z c.ranges.n) at c.put_plain.ensures ∙ as_kind (signed c.args.n) c.args.self.now c.in-Dump.is

pub returns-in-Digest : goal.returns-in-Digest
returns-in-Digest c = simp (c.raise-in-Digest.ensures, to_z-of_z c.ranges.n) at c.add_number.ensures ∙ as_kind (signed c.args.n) c.args.self.now c.in-Digest.is

pub returns-in-Words : goal.returns-in-Words
returns-in-Words c = simp (c.raise-in-Words.ensures, to_z-of_z c.ranges.n) at c.put_word.ensures ∙ as_kind (signed c.args.n) c.args.self.now c.in-Words.is
