-- `walk_layers` meets its contract: what is left of the panels answers as the whole, after what is delivered already.
use Prim.Native.Nat.{◌≤◌}
use lib.ListN.{length}
use Rattle.lists.specs.Tables.{entries_of}
use Rattle.records.specs.Layers.{layers as state_layers}
use Rattle.records.specs.Traces.{hits as state_hits}
use Rattle.view_panels.specs.Panels.{standing}
use Rattle.composition_arbitration.specs.Layers.{verdict_of}
use Rattle.composition_arbitration.proofs.WalkLaws.{Walking}
use Rattle.composition_arbitration.proofs.walk.walk_layers.Given as goal

abbrev pub invariant-loop-i : goal.invariant-loop-i
invariant-loop-i l = (l.i ≤ length (entries_of state_layers l.panels.layers)) × (length (entries_of state_layers l.panels.layers) ≤ 16) × Walking (verdict_of l.choice (entries_of state_hits l.hits)) (standing l.panels) l.deliveries l.i
