-- The entries below the key, the entry and those above it are the insertion.
use Rattle.std.proofs.Common.{◌≡◌, ◌∙◌, arith, rules}
use Rattle.std.specs.List.{fold}
use Rattle.std.proofs.lemmas.Grind.{common_steps}
use Rattle.lists.specs.Tables.{table, entries_of, pushed_within}
use Rattle.maps.specs.MapTables.{map_table}
use Rattle.maps.proofs.MapTableLaws.{placed}
use Rattle.maps.proofs.sorted_map.SortedMap.with.Goals as goal

pub returns : goal.returns
returns g c =
    let b = g.E.Blank.BLANK in
    let all : c.extend.result ≡ fold (pushed_within (table g.row.N b)) c.push_within.result (entries_of (map_table g.row.N b) c.above-above.result) = grind (arith, common_steps) in
    placed g.row.N b g.E.Entry.key_of c.args.entry c.args.self (search rules) c.requires (c.below-below.ensures ∙ rw c.key-key.ensures) c.push_within.ensures (c.above-above.ensures ∙ rw c.key-key.ensures) all
