-- `fill` meets its contract: after each turn the numbers of the panels passed stand at the front, and the rest is as it was.
use Prim.Native.Nat.{◌≤◌}
use lib.ListN.{length}
use Rattle.lists.specs.Tables.{entries_of}
use Rattle.records.specs.Layers.{layers as state_layers}
use Rattle.view_panels.specs.Panels.{standing}
use Rattle.composition_hits.specs.HitTest.{is_panel_hit}
use Rattle.composition_hits.proofs.HitLaws.{Filling}
use Rattle.composition_hits.proofs.stack.fill.Given as goal

abbrev pub invariant-loop-i : goal.invariant-loop-i
invariant-loop-i l = (l.i ≤ length (entries_of state_layers l.panels.layers)) × (length (entries_of state_layers l.panels.layers) ≤ 16) × Filling (is_panel_hit l.point) (standing l.panels) l.initial.buffer l.buffer l.i l.at
