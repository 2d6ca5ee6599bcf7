-- `panel_at` meets its contract: the row of the slot is lent, and past the table stands a blank.
use Prim.Native.Nat.{◌+◌, ◌*◌}
use Rattle.slices.proofs.PartLaws.{part_size}
use Rattle.state_slices.proofs.PanelLaws.{panel_read, panel_past}
use native.Mathlib.Omega.{arith}
use Rattle.state_slices.specs.Layout.{panels_start, panel_size}
use Rattle.state_slices.proofs.panels.panel_at.Goals as goal

pub returns-then-i-lt64 : goal.returns-then-i-lt64
returns-then-i-lt64 c =
    let a = c.args in
    panel_read a.fixed.now a.i _ _ c.if-i-lt64.true (part_size (panels_start + a.i * panel_size) panel_size) c.panel_from.ensures

pub returns : goal.returns
returns c = let a = c.args in panel_past a.fixed.now a.i (omega arith)
