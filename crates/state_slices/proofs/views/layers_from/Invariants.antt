-- `layers_from` meets its contract: after i turns the first i layers stand.
use Rattle.state_slices.specs.ViewNumbers.{layer_at}
use Rattle.records.specs.Layers.{layers}
use Rattle.lists.specs.Lists.{pad}
use Rattle.slices.specs.Parts.{table}
use mathlib.Core.Path.{◌≡◌}
use Rattle.state_slices.proofs.views.layers_from.Given as goal

abbrev pub invariant-loop-i : goal.invariant-loop-i
invariant-loop-i l = l.items ≡ pad 16 layers.blank (table (layer_at l.b) l.i)
