-- `digest_of` meets its contract: what a digest sink takes in is the digest of the dump.
use Rattle.std.proofs.Common.{◌∙◌, ap}
use Rattle.answer_text.specs.Digests.{value_of}
use Rattle.answer_numbers.specs.declared.writer.Writer.{Writer}
use Rattle.answer_numbers.specs.Writers.{written}
use Rattle.answer_numbers.proofs.DigestSinkLaws.{digest_taken}
use Rattle.answer_numbers.proofs.numbered.digest_of.Goals as goal

pub returns : goal.returns
unfolding written
returns g c =
    c.value.ensures
    ∙ ap (λ (w : Writer). value_of w.sink.digest) c.write.ensures
    ∙ rw c.new.ensures (digest_taken (g.E.Numbered.numbers c.args.value.now) _ 0)
