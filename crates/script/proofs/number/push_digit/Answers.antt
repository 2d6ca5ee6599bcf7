-- `push_digit` meets its contract: what is no digit, or does not fit, makes no number.
use Rattle.std.proofs.Common.{arith}
use Rattle.std.proofs.lemmas.Grind.{common_steps}
use Rattle.script.specs.Numbers.{push_digit}
use Rattle.script.proofs.number.push_digit.Goals as goal

pub returns-then-not-is_ascii_digit : goal.returns-then-not-is_ascii_digit
unfolding push_digit
returns-then-not-is_ascii_digit c = grind (arith, common_steps)

pub returns-in_err-checked_mul : goal.returns-in_err-checked_mul
unfolding push_digit
returns-in_err-checked_mul c = grind (arith, common_steps)

pub returns : goal.returns
unfolding push_digit
returns c = grind (arith, common_steps)
