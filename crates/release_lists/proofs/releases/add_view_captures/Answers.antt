-- The map of a view has 32 places.
use Rattle.std.proofs.Common.{◌≤◌, ap, arith, length, rules}
use Rattle.lists.proofs.TableLaws.{few}
use Rattle.maps.specs.Captures.{captures}
use Rattle.release_lists.proofs.releases.add_view_captures.Goals as goal

pub add_all-requires : goal.add_all-requires
add_all-requires c = rw c.entries.ensures (omega (arith, few captures c.args.held (search rules)))
