-- `best_among` meets its contract: the best is that of the registrations gone over.
use mathlib.Core.Path.{◌≡◌}
use lib.ListN.{take}
use Rattle.composition_shortcuts.specs.Resolve.{best_among}
use Rattle.composition_shortcuts.proofs.resolve.best_among.Given as goal

abbrev pub invariant-loop-entry : goal.invariant-loop-entry
invariant-loop-entry l = l.best ≡ best_among l.views l.surfaces l.view l.class_mask (take l.entry-index l.entry-items)
