-- After i turns the table has the records of the first i layers.
use Rattle.std.proofs.Common.{◌≡◌, [], map, take, get_or}
use Rattle.std.specs.List.{fold}
use Rattle.lists.specs.Tables.{table, packed, pushed_within}
use Rattle.records.specs.Surfaces.{no_surface}
use Rattle.records.proofs.layers.record_table.Given as goal

abbrev pub invariant-loop-at : goal.invariant-loop-at
invariant-loop-at l =
    l.found ≡ fold (pushed_within (table 16 no_surface)) (packed (table 16 no_surface) [])
    (map (λ h. get_or l.records h.index no_surface) (take l.at-index l.layers))
