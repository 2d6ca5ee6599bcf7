-- RULES.md, Reads: of a view 42, 8/9; of a panel 42, 11/12. Where it is not refused, the value is read.
use Rattle.records.specs.Errors.{Outcome}
use Rattle.records.specs.declared.error.CompositionError.{CompositionError}
use Rattle.geometry.specs.declared.metrics.ViewMetrics.{ViewMetrics}
use Rattle.maps.specs.Captures.{PointerCaptures}
use Rattle.records.specs.Layers.{Layers, layers}
use Rattle.records.specs.Surfaces.{SurfaceTable, no_surface, surface_at, surface_refusal, descriptor_of}
use Rattle.records.specs.Traces.{Traces}
use Rattle.records.specs.declared.view.ViewInputState.{ViewInputState}
use Rattle.std.specs.Result.{result_and}
use Rattle.std.specs.Prelude.{map, Result, Ok}
use Rattle.lists.specs.Tables.{Shape, table, entries_of, packed}
use Rattle.lists.specs.declared.table.Table.{Table}
use Rattle.handles.specs.declared.GenerationalHandle.{GenerationalHandle}
use Rattle.composition_state.specs.declared.registry.CompositionRegistry.{CompositionRegistry}
use Rattle.composition_state.specs.Damage.{damage_refusal}
use Rattle.records.specs.declared.surface.SurfaceDescriptor.{SurfaceDescriptor}
use Rattle.records.specs.declared.surface.SurfaceRecord.{SurfaceRecord}
use Rattle.records.specs.declared.view.ViewRecord.{ViewRecord}
use Rattle.records.specs.Views.{view_at, view_refusal, input_state}
use Rattle.composition_reads.specs.declared.DescribedLayers.{DescribedLayers}

-- 42, 8/9
abbrev pub view_read_refusal : CompositionRegistry → GenerationalHandle → Outcome
view_read_refusal r v = result_and (damage_refusal r) (view_refusal r.views v)

-- 42, 11/12
abbrev pub surface_read_refusal : CompositionRegistry → GenerationalHandle → Outcome
surface_read_refusal r s = result_and (damage_refusal r) (surface_refusal r.surfaces s)

-- the record of a view, or of a panel
abbrev pub view_read : CompositionRegistry → GenerationalHandle → Result ViewRecord CompositionError
view_read r v = result_and (view_read_refusal r v) (Ok (view_at r.views v))

abbrev pub surface_read : CompositionRegistry → GenerationalHandle → Result SurfaceRecord CompositionError
surface_read r s = result_and (surface_read_refusal r s) (Ok (surface_at r.surfaces s))

-- the window that a view stands in
abbrev pub view_window : CompositionRegistry → GenerationalHandle → Result GenerationalHandle CompositionError
view_window r v = result_and (view_read_refusal r v) (Ok (view_at r.views v).window)

-- the metrics of a view
abbrev pub view_metrics : CompositionRegistry → GenerationalHandle → Result ViewMetrics CompositionError
view_metrics r v = result_and (view_read_refusal r v) (Ok (view_at r.views v).metrics)

-- the focus, single capture and composition of a view
abbrev pub view_input_state : CompositionRegistry → GenerationalHandle → Result ViewInputState CompositionError
view_input_state r v = result_and (view_read_refusal r v) (Ok (input_state (view_at r.views v)))

-- the captured pointers of a view
abbrev pub view_pointer_captures : CompositionRegistry → GenerationalHandle → Result PointerCaptures CompositionError
view_pointer_captures r v = result_and (view_read_refusal r v) (Ok (view_at r.views v).pointer_captures)

-- the last arbitrations, oldest first: 42
abbrev pub traces_read : CompositionRegistry → Result Traces CompositionError
traces_read r = result_and (damage_refusal r) (Ok r.traces)

-- the descriptors of a view's panels: at most 16
abbrev pub Descriptors : Type 0
Descriptors = Table SurfaceDescriptor 16

abbrev pub descriptors : Shape SurfaceDescriptor Descriptors
descriptors = table 16 no_surface.descriptor

-- layers, and what describes each
abbrev pub described : SurfaceTable → Layers → DescribedLayers
described surfaces own = record {
  layers = own;
  descriptors = packed descriptors (map (descriptor_of surfaces) (entries_of layers own));
}

-- the panels of a view, the lowest first, and what describes each
abbrev pub view_layers : CompositionRegistry → GenerationalHandle → Result DescribedLayers CompositionError
view_layers r v = result_and (view_read_refusal r v) (Ok (described r.surfaces (view_at r.views v).surfaces))

-- what describes a panel
abbrev pub surface_descriptor : CompositionRegistry → GenerationalHandle → Result SurfaceDescriptor CompositionError
surface_descriptor r s = result_and (surface_read_refusal r s) (Ok (descriptor_of r.surfaces s))
