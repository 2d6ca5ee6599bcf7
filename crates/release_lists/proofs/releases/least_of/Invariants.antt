-- After i turns it is the least panel of the first press and of i presses behind it.
use Rattle.std.proofs.Common.{◌∷◌, take}
use Rattle.release_lists.specs.Releases.{IsLeast}
use Rattle.release_lists.proofs.releases.least_of.Given as goal

abbrev pub invariant-loop-press : goal.invariant-loop-press
invariant-loop-press l = IsLeast l.least (l.fn.first ∷ take l.press-index l.rest)
