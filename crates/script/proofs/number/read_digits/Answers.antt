-- `read_digits` meets its contract: the digits to come make what all of them make.
use Rattle.std.proofs.Common.{sym, ap, ◌∙◌, drop, ◌+◌}
use mathlib.Core.List.{foldl}
use lib.ListN.{drop_of_length-le}
use Rattle.script.proofs.NumberLaws.{digit_next, digit_stops}
use Rattle.script.specs.Numbers.{digits_of, push_behind}
use Rattle.script.proofs.number.read_digits.Goals as goal

pub returns-in_err-n : goal.returns-in_err-n
unfolding digits_of
returns-in_err-n c = c.from_residual.ensures ∙ sym (c.loop-b.invariant ∙ digit_stops _ _ _ c.loop-b-test.true (sym c.in_err-n.ensures))

pub returns : goal.returns
unfolding digits_of
returns c = sym (c.loop-b.invariant ∙ rw (drop_of_length-le _ c.loop-b-test.false))
