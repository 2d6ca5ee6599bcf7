-- The closure's test is the order of the keys.
use Rattle.std.proofs.Common.{rules}
use Rattle.maps.specs.Keys.{key_lt}
use Rattle.maps.proofs.sorted_map.SortedMap.below.Goals as goal

pub returns : goal.returns
returns g c = c.retain.ensures (λ e. key_lt (g.E.Entry.key_of e) c.args.key) (λ x r h. search rules)
