-- What is listed and what is left, panel by panel, is the whole.
use Rattle.std.proofs.Common.{◌≡◌, ◌≤◌, ◌++◌, length}
use Rattle.lists.specs.Tables.{entries_of, packed}
use Rattle.maps.specs.Bindings.{bindings}
use Rattle.release_lists.specs.Releases.{releases, by_panel}
use Rattle.release_lists.proofs.releases.by_panel.Given as goal

abbrev pub invariant-loop-surface : goal.invariant-loop-surface
invariant-loop-surface l =
    (l.list ≡ packed releases (entries_of releases l.list))
    × (by_panel (entries_of bindings l.fn.presses) ≡ entries_of releases l.list ++ by_panel (entries_of bindings l.left))
    × (length (entries_of bindings l.fn.presses) ≤ 128)

abbrev pub decreases-loop-surface : goal.decreases-loop-surface
decreases-loop-surface l = length (entries_of bindings l.left)
