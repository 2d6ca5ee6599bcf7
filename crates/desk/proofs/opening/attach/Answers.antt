-- `attach` meets its contract: the descriptor is handed on as it is made.
use mir.Facts.{to_z-of_z}
use mir.Syntax.{w32}
use Rattle.desk.specs.Opening.{attached}
use Rattle.desk.proofs.opening.attach.Goals as goal

pub returns : goal.returns
unfolding attached
returns c = rw (c.create.ensures, c.default.ensures, to_z-of_z {w = w32} c.ranges.z_order)
