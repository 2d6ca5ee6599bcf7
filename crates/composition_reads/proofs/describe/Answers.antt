-- A table that takes what describes the layers has it at each layer's place.
use Rattle.std.proofs.Common.{◌+◌, ◌≤◌, ◌∙◌, [], ap, arith, length, map, rules}
use lib.ListN.{length-map}
use Rattle.std.specs.List.{fold}
use Rattle.lists.specs.Tables.{entries_of, packed, pushed_within}
use Rattle.lists.proofs.TableLaws.{few, all_within}
use Rattle.records.specs.Layers.{layers}
use Rattle.records.specs.Surfaces.{descriptor_of}
use Rattle.records.specs.declared.surface.SurfaceDescriptor.{SurfaceDescriptor}
use Rattle.composition_reads.specs.Reads.{descriptors}
use Rattle.composition_reads.proofs.describe.Goals as goal

pub returns : goal.returns
returns c =
    let a = c.args in
    let found = map (descriptor_of a.surfaces) (entries_of layers a.layers) in
    let room : length {A = SurfaceDescriptor} [] + length found ≤ 16 = omega (arith, length-map (entries_of layers a.layers) (descriptor_of a.surfaces), few layers a.layers (search rules)) in
    c.described.ensures ∙ ap (λ l. fold (pushed_within descriptors) (packed descriptors []) (map (descriptor_of a.surfaces) l)) c.entries.ensures ∙ all_within descriptors [] found room
