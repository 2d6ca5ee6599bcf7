-- `captures_from` meets its contract: after i turns the first i captures stand.
use Rattle.state_slices.specs.ViewNumbers.{capture_at}
use Rattle.maps.specs.Captures.{captures}
use Rattle.lists.specs.Lists.{pad}
use Rattle.slices.specs.Parts.{table}
use mathlib.Core.Path.{◌≡◌}
use Rattle.state_slices.proofs.views.captures_from.Given as goal

abbrev pub invariant-loop-i : goal.invariant-loop-i
invariant-loop-i l = l.items ≡ pad 32 captures.blank (table (capture_at l.m) l.i)
