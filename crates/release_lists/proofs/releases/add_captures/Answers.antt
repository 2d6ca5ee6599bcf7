-- The table of the list has 512 places.
use Rattle.std.proofs.Common.{◌≤◌, ap, arith, length, rules}
use Rattle.lists.proofs.TableLaws.{few}
use Rattle.release_lists.specs.Captures.{capture_list}
use Rattle.release_lists.proofs.releases.add_captures.Goals as goal

pub add_all-requires : goal.add_all-requires
add_all-requires c = rw c.entries.ensures (few capture_list c.args.list (search rules))
