-- `put_digits` meets its contract: the digits of the rest, before those that stand, are all.
use Rattle.answer_text.proofs.PutLaws.{Spelling}
use Rattle.answer_text.proofs.put.put_digits.Given as goal

abbrev pub invariant-loop-j : goal.invariant-loop-j
invariant-loop-j l = Spelling l.at l.n l.k l.initial.buf l.buf l.j l.rest
