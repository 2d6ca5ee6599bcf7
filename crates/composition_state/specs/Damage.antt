-- RULES.md, Damage: 42 first, if the registry handed in is damaged in one of these ways, and in no other.
use Rattle.std.specs.Prelude.{ℕ, Bool, true, cond, not, ◌&&◌, ◌||◌, leb, eqb}
use Rattle.lists.specs.Lists.{all}
use Rattle.lists.specs.Below.{all_below}
use Rattle.lists.specs.Tables.{entries_of}
use Rattle.handles.specs.Handles.{handle_of}
use Rattle.handles.specs.Slots.{slot_at, lookup_of}
use Rattle.handles.specs.WellFormed.{well_formed}
use Rattle.handles.specs.declared.GenerationalHandle.{GenerationalHandle}
use Rattle.handles.specs.declared.arena.Arena.{Arena}
use Rattle.maps.specs.MapTables.{keys_rise}
use Rattle.maps.specs.Captures.{captures, capture_key}
use Rattle.records.specs.declared.error.CompositionError.TheVariants.{Damaged}
use Rattle.composition_state.specs.declared.registry.CompositionLimits.{CompositionLimits}
use Rattle.composition_state.specs.declared.registry.CompositionRegistry.{CompositionRegistry}
use Rattle.records.specs.Surfaces.{SurfaceTable}
use Rattle.records.specs.declared.trace.CompositionTrace.{CompositionTrace}
use Rattle.records.specs.Traces.{Traces, traces}
use Rattle.records.specs.declared.view.ViewRecord.{ViewRecord}
use Rattle.records.specs.Views.{ViewTable, view_at}
use Rattle.records.specs.Errors.{refusal_if, Outcome}
use Rattle.records.specs.Layers.{layers, is_layer_of, layers_rise, is_live}
use Rattle.composition_state.specs.Start.{any_zero, any_over_port}

-- a stored limit or first generation is one the start refuses
abbrev pub limits_sound : CompositionLimits → ℕ → Bool
limits_sound l generation = not (any_zero l || (any_over_port l || eqb generation 0))

-- counts within table and limit, generations, live counts and free lists of the three slot tables
unfoldable pub arenas_sound : CompositionLimits → Arena → Arena → Arena → Bool
arenas_sound l windows views surfaces =
    well_formed windows l.max_windows
    && (well_formed views l.max_views && well_formed surfaces l.max_surfaces)

-- a stored count exceeds its table: the hits and deliveries of a trace
abbrev pub trace_sound : CompositionTrace → Bool
trace_sound t = leb t.hits.len 16 && leb t.deliveries.len 16

-- a stored count exceeds its table or configured limit: the traces
unfoldable pub traces_sound : ℕ → Traces → Bool
traces_sound limit t = leb t.len limit && all trace_sound (entries_of traces t)

-- its layers are over the table or the limit, name a panel twice, not live or of another view, or are not in layer
-- order
unfoldable pub layers_sound : SurfaceTable → ℕ → GenerationalHandle → ViewRecord → Bool
layers_sound surfaces limit view v =
    leb v.surfaces.len limit
    && (all (is_layer_of surfaces view) (entries_of layers v.surfaces)
    && layers_rise surfaces.records v.surfaces)

-- a view's window is not live, its layers are damaged, or its captures are over the table or do not strictly rise
unfoldable pub view_sound : Arena → SurfaceTable → ℕ → GenerationalHandle → ViewRecord → Bool
view_sound windows surfaces limit view v =
    is_live (lookup_of windows v.window)
    && (layers_sound surfaces limit view v
    && (leb v.pointer_captures.table.len 32
    && keys_rise captures capture_key v.pointer_captures))

-- the handle of the view in a slot
abbrev pub view_handle : ViewTable → ℕ → GenerationalHandle
view_handle t i = handle_of i (slot_at t.arena i).generation

-- a slot that is not filled holds no view
abbrev pub slot_sound : Arena → SurfaceTable → ℕ → ViewTable → ℕ → Bool
slot_sound windows surfaces limit t i =
    cond (slot_at t.arena i).filled (view_sound windows surfaces limit (view_handle t i) (view_at t (view_handle t i)))
    true

unfoldable pub views_sound : Arena → SurfaceTable → ℕ → ViewTable → Bool
views_sound windows surfaces limit t = all_below (slot_sound windows surfaces limit t) t.arena.used

unfoldable pub is_sound : CompositionRegistry → Bool
is_sound r =
    limits_sound r.limits r.first_generation
    && (arenas_sound r.limits r.windows r.views.arena r.surfaces.arena
    && (leb r.shortcuts.len 256
    && (traces_sound r.limits.max_trace_entries r.traces
    && views_sound r.windows r.surfaces r.limits.max_surfaces_per_view r.views)))

abbrev pub damage_refusal : CompositionRegistry → Outcome
damage_refusal r = refusal_if (not (is_sound r)) Damaged
