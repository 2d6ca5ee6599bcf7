-- What is left to close makes of the work so far what the whole makes of its start.
use Rattle.std.proofs.Common.{◌≡◌, ◌+◌, reverse, length}
use Rattle.lists.specs.Tables.{entries_of}
use Rattle.records.specs.Layers.{layers}
use Rattle.composition_close.specs.Shutdown.{layers_closed}
use Rattle.composition_close.proofs.shutdown.close_layers.Given as goal

abbrev pub invariant-loop-top : goal.invariant-loop-top
invariant-loop-top l =
    (layers_closed (reverse (entries_of layers l.fn.panels)) l.fn.work ≡ layers_closed (reverse l.rest) l.done)
    × (l.done.reports.len + length l.rest ≡ l.fn.work.reports.len + length (entries_of layers l.fn.panels))

abbrev pub decreases-loop-top : goal.decreases-loop-top
decreases-loop-top l = length l.rest
