-- `is_under_epsilon` meets its contract: where the first test holds the second decides, and where it fails the size is not under.
use lib.Ieee.{of_bits, neg}
use Rattle.geometry.proofs.UnderEpsilon.{low_side, high_side}
use Rattle.geometry.proofs.transform.is_under_epsilon.Goals as goal

pub returns-then-determinant : goal.returns-then-determinant
unfolding of_bits neg
returns-then-determinant c = low_side c.args.determinant c.if-determinant.true

pub returns-else-determinant : goal.returns-else-determinant
unfolding of_bits neg
returns-else-determinant c = high_side c.args.determinant c.if-determinant.false
