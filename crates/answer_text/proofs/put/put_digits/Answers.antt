-- `put_digits` meets its contract: the digits of the rest, before those that stand, are all.
use Rattle.answer_text.proofs.PutLaws.{spell_start, spell_turn, spell_done}
use Rattle.answer_text.proofs.put.put_digits.Goals as goal

pub loop-j-preserved : goal.loop-j-preserved
loop-j-preserved c = spell_turn _ _ _ _ _ _ _ c.requires c.loop-j-test.true c.loop-j.invariant

pub returns : goal.returns
returns c = spell_done _ _ _ _ _ _ _ c.loop-j-test.false c.loop-j.invariant
