-- After i turns the table has what describes the first i layers.
use Rattle.std.proofs.Common.{◌≡◌, [], map, take}
use Rattle.std.specs.List.{fold}
use Rattle.lists.specs.Tables.{packed, pushed_within}
use Rattle.records.specs.Surfaces.{descriptor_of}
use Rattle.composition_reads.specs.Reads.{descriptors}
use Rattle.composition_reads.proofs.described.Given as goal

abbrev pub invariant-loop-surface : goal.invariant-loop-surface
invariant-loop-surface l = l.found ≡ fold (pushed_within descriptors) (packed descriptors []) (map (descriptor_of l.surfaces) (take l.surface-index l.layers))
