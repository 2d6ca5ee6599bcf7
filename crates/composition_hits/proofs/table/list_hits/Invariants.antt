-- `list_hits` meets its contract: after each turn the table holds the hits of the panels passed, from the top.
use Prim.Native.Nat.{◌≤◌}
use lib.ListN.{length}
use Rattle.lists.specs.Tables.{entries_of}
use Rattle.records.specs.Layers.{layers as state_layers}
use Rattle.view_panels.specs.Panels.{standing}
use Rattle.composition_hits.specs.HitTest.{is_panel_hit}
use Rattle.composition_hits.proofs.TableLaws.{Listing}
use Rattle.composition_hits.proofs.table.list_hits.Given as goal

abbrev pub invariant-loop-i : goal.invariant-loop-i
invariant-loop-i l = (l.i ≤ length (entries_of state_layers l.panels.layers)) × (length (entries_of state_layers l.panels.layers) ≤ 16) × Listing (is_panel_hit l.point) (standing l.panels) l.hits l.i
