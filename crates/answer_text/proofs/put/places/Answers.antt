-- `places` meets its contract: the digits counted and those of the rest are all.
use native.Mathlib.Omega.{arith}
use Rattle.answer_text.proofs.DecimalLaws.{length_one, length_more}
use Rattle.answer_text.proofs.put.places.Goals as goal

pub loop-rest-preserved : goal.loop-rest-preserved
loop-rest-preserved c = omega (arith, length_more c.loop-rest.rest (omega arith) c.loop-rest-test.true)

pub returns : goal.returns
returns c = omega (arith, length_one c.loop-rest.rest c.loop-rest-test.false)
