-- `view_at` meets its contract: both parts of the slot are lent, and past the table stands a blank.
use Prim.Native.Nat.{◌+◌, ◌*◌}
use mathlib.Core.Path.{◌∙◌}
use native.Mathlib.Omega.{arith}
use Rattle.slices.proofs.PartLaws.{part_size}
use Rattle.state_slices.specs.Layout.{views_start, view_size, inputs_start, input_size}
use Rattle.state_slices.proofs.ViewLaws.{view_read_lem, view_past}
use Rattle.state_slices.proofs.views.view_at.Goals as goal

pub returns-then-i-lt16 : goal.returns-then-i-lt16
returns-then-i-lt16 c = let a = c.args in view_read_lem a.fixed.now a.moving.now a.i _ _ _ c.if-i-lt16.true (part_size (views_start + a.i * view_size) view_size) (part_size (inputs_start + a.i * input_size) input_size) c.view_from.ensures

pub returns : goal.returns
returns c = let a = c.args in c.new.ensures ∙ view_past a.fixed.now a.moving.now a.i (omega arith)
