-- `places` meets its contract: the digits counted and those of the rest are all.
use Prim.Native.Nat.{◌+◌, ◌≤◌}
use mathlib.Core.Path.{◌≡◌}
use lib.ListN.{length}
use Rattle.answer_text.specs.Decimal.{decimal}
use Rattle.answer_text.proofs.put.places.Given as goal

abbrev pub invariant-loop-rest : goal.invariant-loop-rest
invariant-loop-rest l = (l.k + l.rest ≤ l.n + 1) × (l.k + length (decimal l.rest) ≡ 1 + length (decimal l.n))

abbrev pub decreases-loop-rest : goal.decreases-loop-rest
decreases-loop-rest l = l.rest
