-- After i turns the first i captures are added.
use Rattle.std.proofs.Common.{◌≡◌, take}
use Rattle.lists.specs.Tables.{entries_of, packed}
use Rattle.maps.specs.Bindings.{bindings}
use Rattle.release_lists.specs.Releases.{releases, add_captures}
use Rattle.release_lists.proofs.releases.add_all.Given as goal

abbrev pub invariant-loop-capture : goal.invariant-loop-capture
invariant-loop-capture l =
    l.list ≡ packed releases (add_captures (entries_of bindings l.fn.presses) (take l.capture-index l.captures))
