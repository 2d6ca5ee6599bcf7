-- `matrix_entry` meets its contract: the literal 65536.0 is `q16`, and an `i32` in a local is itself.
use Rattle.std.proofs.Common.{ap, to_z-of_z}
use lib.Ieee.{of_bits}
use Rattle.geometry.specs.Transform.{matrix_entry}
use Rattle.geometry.proofs.transform.matrix_entry.Goals as goal

pub returns : goal.returns
unfolding of_bits
returns c = ap matrix_entry (to_z-of_z c.ranges.m_q16)
