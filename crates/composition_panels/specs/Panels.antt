-- RULES.md, Panels: attach 13, 8/9, 4, 3, 21; geometry 20, 13, 11/12, 21; policy 20, 11/12, 21. Each after 42.
use Rattle.std.specs.Result.{result_and}
use Rattle.std.specs.Prelude.{ℕ, not, List, length, eqb}
use Rattle.lists.specs.Tables.{entries_of}
use Rattle.geometry.specs.Surface.{is_valid_geometry}
use Rattle.geometry.specs.declared.surface.SurfaceGeometry.{SurfaceGeometry}
use Rattle.handles.specs.Slots.{allocated}
use Rattle.handles.specs.declared.GenerationalHandle.{GenerationalHandle}
use Rattle.handles.specs.declared.arena.Allocation.{Allocation}
use Rattle.records.specs.declared.error.CompositionError.TheVariants.{Capacity, PerViewCapacity, InvalidGeometry}
use Rattle.composition_state.specs.declared.registry.CompositionRegistry.{CompositionRegistry}
use Rattle.composition_state.specs.Registry.{Changed}
use Rattle.records.specs.declared.surface.SurfaceDescriptor.{SurfaceDescriptor}
use Rattle.records.specs.declared.surface.SurfaceInputPolicy.{SurfaceInputPolicy}
use Rattle.records.specs.declared.surface.SurfaceRecord.{SurfaceRecord}
use Rattle.records.specs.Surfaces.{SurfaceTable, surface_at, surface_refusal, with_surface, surfaces_with, with_geometry, with_input}
use Rattle.records.specs.Views.{ViewTable, view_at, view_refusal, with_view, with_layers}
use Rattle.records.specs.Errors.{refusal_if, Outcome}
use Rattle.composition_state.specs.Damage.{damage_refusal}
use Rattle.records.specs.Layers.{layers, layers_with}
use Rattle.composition_state.specs.Registry.{with_views, with_surfaces, with_shortcuts, conflict_refusal, settled}
use Rattle.records.specs.Shortcuts.{shortcuts_without}
use Rattle.records.specs.Surfaces.{surface_at, surface_refusal, with_surface, surfaces_with, with_geometry, with_input}
use Rattle.records.specs.Views.{view_at, view_refusal, with_view, with_layers}
use Rattle.composition_state.specs.Registry.{answered_with}
use Rattle.composition_panels.specs.Windows.{Created}

-- ---- attach
abbrev pub layer_count : ViewTable → GenerationalHandle → ℕ
layer_count views view = length (entries_of layers (view_at views view).surfaces)

abbrev pub attach_refusal : CompositionRegistry → SurfaceDescriptor → Outcome
attach_refusal r d =
    result_and (damage_refusal r)
    (result_and (refusal_if (not (is_valid_geometry d.geometry)) InvalidGeometry)
    (result_and (view_refusal r.views d.view)
    (result_and (refusal_if (eqb (layer_count r.views d.view) r.limits.max_surfaces_per_view)
    PerViewCapacity)
    (refusal_if (eqb r.surfaces.arena.live r.limits.max_surfaces) Capacity))))

abbrev pub new_surface : CompositionRegistry → Allocation
new_surface r = allocated r.surfaces.arena r.first_generation

-- the panels with the new one, described as given
abbrev pub surface_added : Allocation → SurfaceDescriptor → SurfaceTable → SurfaceTable
surface_added made d t = with_surface made.handle (record { descriptor = d }) (surfaces_with made.arena t)

-- a view with the new panel in its place among the layers
abbrev pub layer_added : List SurfaceRecord → GenerationalHandle → GenerationalHandle → ViewTable → ViewTable
layer_added records surface view t =
    with_view view (with_layers (layers_with records surface (view_at t view).surfaces) (view_at t view)) t

-- the registry with the new panel; it has no registration: those of its slot are dropped
unfoldable pub attached : Allocation → SurfaceDescriptor → CompositionRegistry → CompositionRegistry
attached made d r =
    let surfaces = surface_added made d r.surfaces in
    with_shortcuts (shortcuts_without made.handle.index r.shortcuts)
    (with_views (layer_added surfaces.records made.handle d.view r.views)
    (with_surfaces surfaces r))

unfoldable pub attach_surface : CompositionRegistry → SurfaceDescriptor → Created
attach_surface r d = answered_with (new_surface r).handle (settled (attach_refusal r d) r (attached (new_surface r) d r))

-- ---- geometry
abbrev pub geometry_refusal : CompositionRegistry → GenerationalHandle → SurfaceGeometry → ℕ → Outcome
geometry_refusal r surface g expected =
    result_and (damage_refusal r)
    (result_and (conflict_refusal r.revision expected)
    (result_and (refusal_if (not (is_valid_geometry g)) InvalidGeometry)
    (surface_refusal r.surfaces surface)))

unfoldable pub update_surface_geometry : CompositionRegistry → GenerationalHandle → SurfaceGeometry → ℕ → Changed
update_surface_geometry r surface g expected =
    settled (geometry_refusal r surface g expected) r
    (with_surfaces (with_surface surface (with_geometry g (surface_at r.surfaces surface)) r.surfaces) r)

-- ---- policy
abbrev pub policy_refusal : CompositionRegistry → GenerationalHandle → ℕ → Outcome
policy_refusal r surface expected =
    result_and (damage_refusal r)
    (result_and (conflict_refusal r.revision expected) (surface_refusal r.surfaces surface))

unfoldable pub update_surface_input_policy : CompositionRegistry → GenerationalHandle → SurfaceInputPolicy → ℕ → Changed
update_surface_input_policy r surface input expected =
    settled (policy_refusal r surface expected) r
    (with_surfaces (with_surface surface (with_input input (surface_at r.surfaces surface)) r.surfaces) r)
