-- `read_digits` meets its contract: the digits to come make what all of them make.
use Rattle.std.proofs.Common.{◌≡◌, drop}
use Rattle.std.specs.Prelude.{Some}
use mathlib.Core.List.{foldl}
use Rattle.script.specs.Numbers.{push_behind}
use Rattle.script.proofs.number.read_digits.Given as goal

abbrev pub invariant-loop-b : goal.invariant-loop-b
invariant-loop-b l = foldl push_behind (Some 0) l.s ≡ foldl push_behind (Some l.n) (drop l.b-index l.s)
