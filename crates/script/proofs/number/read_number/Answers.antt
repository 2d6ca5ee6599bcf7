-- `read_number` meets its contract: the test of the first byte is the definition's.
use Rattle.std.proofs.Common.{◌≡◌, drop, ap, ◌∙◌, arith}
use Rattle.std.proofs.lemmas.Bool.Decides.{nat_tests}
use Rattle.script.proofs.WordLaws.{take_rest}
use Rattle.script.specs.Numbers.{magnitude_of, number_of}
use Rattle.script.proofs.number.read_number.Goals as goal

pub returns-in_err-magnitude-in-45 : goal.returns-in_err-magnitude-in-45
unfolding number_of
returns-in_err-magnitude-in-45 c = let e : c.read_magnitude.result ≡ magnitude_of (drop 1 c.args.s.now) = c.read_magnitude.ensures ∙ ap magnitude_of (take_rest c.args.s.now 1) in grind (arith, nat_tests)

pub returns-in_err-read_magnitude-in_default : goal.returns-in_err-read_magnitude-in_default
unfolding number_of
returns-in_err-read_magnitude-in_default c = grind (arith, nat_tests)

pub returns-in-0 : goal.returns-in-0
unfolding number_of
returns-in-0 c = let e : c.read_magnitude.result ≡ magnitude_of (drop 1 c.args.s.now) = c.read_magnitude.ensures ∙ ap magnitude_of (take_rest c.args.s.now 1) in grind (arith, nat_tests)

pub returns-in_default-2 : goal.returns-in_default-2
unfolding number_of
returns-in_default-2 c = let e : c.read_magnitude.result ≡ magnitude_of (drop 1 c.args.s.now) = c.read_magnitude.ensures ∙ ap magnitude_of (take_rest c.args.s.now 1) in grind (arith, nat_tests)

pub returns-in_ok-read_magnitude-in_default : goal.returns-in_ok-read_magnitude-in_default
unfolding number_of
returns-in_ok-read_magnitude-in_default c = grind (arith, nat_tests)
