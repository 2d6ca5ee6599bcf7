-- `fill` meets its contract: after each turn the numbers of the panels passed stand at the front, and the rest is as it was.
use Rattle.std.proofs.Common.{rules}
use native.Mathlib.Omega.{arith}
use Prim.Native.Nat.{◌<◌, ◌-◌}
use mathlib.Core.Path.{sym, ◌∙◌}
use lib.ListN.{length}
use Rattle.lists.specs.Tables.{entries_of}
use Rattle.lists.proofs.TableLaws.{few}
use Rattle.records.specs.Layers.{layers as state_layers}
use Rattle.view_panels.proofs.PanelLaws.{no_panel, standing_length, standing_here}
use Rattle.composition_hits.proofs.HitLaws.{start, room_for_two, turn}
use Rattle.composition_hits.proofs.stack.fill.Goals as goal

pub loop-i-init : goal.loop-i-init
loop-i-init c =
    let p = c.args.panels in
    let whole = few state_layers p.layers (search rules) in
    (omega (arith, c.count-i.ensures), whole, rw (c.count-i.ensures, sym (standing_length p)) (start _ _ _ (rw (standing_length p) whole) c.requires))

pub put_if-at-requires : goal.put_if-at-requires
put_if-at-requires c = room_for_two _ _ _ _ _ _ c.loop-i.invariant.2 (omega arith)

pub loop-i-preserved : goal.loop-i-preserved
loop-i-preserved c =
    let p = c.args.panels in
    let k = c.loop-i in
    let within : k.i - 1 < length (entries_of state_layers p.layers) = omega arith in
    let here = standing_here p (k.i - 1) within in
    let hit = c.is_record_hit-is_hit.ensures in
    let put = c.put_if-at.ensures in
    (omega arith, k.invariant.1, turn _ _ _ _ _ _ k.invariant.2 (omega arith) no_panel _ _ (put.place ∙ rw (here, hit)) (put.written ∙ rw (here, hit)))
