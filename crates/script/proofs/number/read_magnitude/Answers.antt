-- `read_magnitude` meets its contract: its patterns are the definition's tests.
use Rattle.std.proofs.Common.{arith}
use Rattle.std.proofs.lemmas.Bool.Decides.{nat_tests}
use Rattle.script.specs.Numbers.{magnitude_of}
use Rattle.script.proofs.number.read_magnitude.Goals as goal

pub returns-in-empty : goal.returns-in-empty
unfolding magnitude_of
returns-in-empty c = grind (arith, nat_tests)

pub returns-in-48 : goal.returns-in-48
unfolding magnitude_of
returns-in-48 c = grind (arith, nat_tests)

pub returns-in_default : goal.returns-in_default
unfolding magnitude_of
returns-in_default c = grind (arith, nat_tests)
