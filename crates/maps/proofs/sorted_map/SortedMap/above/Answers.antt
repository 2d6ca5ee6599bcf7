-- The closure's test is the order of the keys.
use Rattle.std.proofs.Common.{rules}
use Rattle.maps.specs.Keys.{key_lt}
use Rattle.maps.proofs.sorted_map.SortedMap.above.Goals as goal

pub returns : goal.returns
returns g c = c.retain.ensures (λ e. key_lt c.args.key (g.E.Entry.key_of e)) (λ x r h. search rules)
