-- A table that takes the records of the layers has one at each layer's place.
use Rattle.std.proofs.Common.{◌+◌, ◌≤◌, ◌∙◌, [], ap, arith, length, map, get_or, rules}
use lib.ListN.{length-map}
use Rattle.std.specs.List.{fold}
use Rattle.lists.specs.Tables.{table, entries_of, packed, pushed_within}
use Rattle.lists.specs.declared.table.Table.{Table}
use Rattle.lists.proofs.TableLaws.{few, all_within}
use Rattle.handles.specs.declared.GenerationalHandle.{GenerationalHandle}
use Rattle.records.specs.Layers.{layers, records_of}
use Rattle.records.specs.Surfaces.{no_surface}
use Rattle.records.specs.declared.surface.SurfaceRecord.{SurfaceRecord}
use Rattle.state_slices.specs.PanelNumbers.{panels_from}
use Rattle.state_slices.proofs.panels.records_at.Goals as goal

pub returns : goal.returns
unfolding records_of packed
returns c =
    let a = c.args in
    let at : GenerationalHandle → SurfaceRecord = λ h. get_or (panels_from a.fixed.now) h.index no_surface in
    let found = map at (entries_of layers a.layers) in
    let room : length {A = SurfaceRecord} [] + length found ≤ 16 = omega (arith, length-map (entries_of layers a.layers) at, few layers a.layers (search rules)) in
    ap (λ (t : Table SurfaceRecord 16). t.items) (c.record_table.ensures ∙ ap (λ l. fold (pushed_within (table 16 no_surface)) (packed (table 16 no_surface) []) (map at l)) c.entries.ensures ∙ all_within (table 16 no_surface) [] found room)
