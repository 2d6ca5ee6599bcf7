-- What holds of these calls beyond their equations.
use Rattle.std.specs.Prelude.{ℕ, ◌+◌, ◌≤◌, ◌≡◌, true, List, length, Ok}
use Rattle.lists.specs.Tables.{entries_of}
use Rattle.lists.specs.Maps.{insert}
use Rattle.geometry.specs.declared.metrics.ViewMetricsUpdate.{ViewMetricsUpdate}
use Rattle.geometry.specs.declared.surface.SurfaceGeometry.{SurfaceGeometry}
use Rattle.handles.specs.declared.GenerationalHandle.{GenerationalHandle}
use Rattle.composition_state.specs.declared.registry.CompositionRegistry.{CompositionRegistry}
use Rattle.records.specs.declared.surface.SurfaceDescriptor.{SurfaceDescriptor}
use Rattle.records.specs.declared.surface.SurfaceInputPolicy.{SurfaceInputPolicy}
use Rattle.records.specs.declared.surface.SurfaceRecord.{SurfaceRecord}
use Rattle.records.specs.Layers.{Layers, layers, itself, layer_lt, layers_with, layers_rise}
use Rattle.composition_state.specs.Registry.{with_revision, with_surfaces}
use Rattle.composition_state.specs.Settles.{Settles}
use Rattle.records.specs.Surfaces.{surface_at, with_surface, with_input}
use Rattle.composition_state.specs.Registry.{outcome_of}
use Rattle.composition_panels.specs.Windows.{create_window, close_window, create_view, close_view}
use Rattle.composition_panels.specs.Metrics.{update_view_metrics}
use Rattle.composition_panels.specs.Panels.{attach_surface, update_surface_geometry, update_surface_input_policy}

pub record PanelClaims : Type 0 where
  pub create_window_lem : (r : CompositionRegistry) → Settles r (outcome_of (create_window r)) (create_window r).registry
  pub close_window_lem : (r : CompositionRegistry) (w : GenerationalHandle)
      → Settles r (close_window r w).outcome (close_window r w).registry
  pub create_view_lem : (r : CompositionRegistry) (w : GenerationalHandle)
      → Settles r (outcome_of (create_view r w)) (create_view r w).registry
  pub close_view_lem : (r : CompositionRegistry) (v : GenerationalHandle)
      → Settles r (close_view r v).outcome (close_view r v).registry
  pub metrics : (r : CompositionRegistry) (v : GenerationalHandle) (u : ViewMetricsUpdate) (n : ℕ)
      → Settles r (outcome_of (update_view_metrics r v u n)) (update_view_metrics r v u n).registry
  pub attach : (r : CompositionRegistry) (d : SurfaceDescriptor)
      → Settles r (outcome_of (attach_surface r d)) (attach_surface r d).registry
  pub geometry : (r : CompositionRegistry) (s : GenerationalHandle) (g : SurfaceGeometry) (n : ℕ)
      → Settles r (update_surface_geometry r s g n).outcome (update_surface_geometry r s g n).registry
  pub policy : (r : CompositionRegistry) (s : GenerationalHandle) (p : SurfaceInputPolicy) (n : ℕ)
      → Settles r (update_surface_input_policy r s p n).outcome (update_surface_input_policy r s p n).registry
  -- RULES.md, Layers: a policy change alters nothing else than the policy and the revision: focus, captures, shortcuts
  -- and layers stay
  pub policy_alone : (r : CompositionRegistry) (s : GenerationalHandle) (p : SurfaceInputPolicy) (n : ℕ)
      → (update_surface_input_policy r s p n).outcome ≡ Ok tt
      → (update_surface_input_policy r s p n).registry
      ≡ with_revision (r.revision + 1)
      (with_surfaces (with_surface s (with_input p (surface_at r.surfaces s)) r.surfaces) r)
  -- RULES.md, Layers: layers stay in layer order, and a panel is put in its place
  pub layers_stay_sorted : (records : List SurfaceRecord) (h : GenerationalHandle) (t : Layers) → layers_rise records t
      ≡ true → layers_rise records (layers_with records h t) ≡ true
  pub layer_in_place : (records : List SurfaceRecord) (h : GenerationalHandle) (t : Layers)
      → length (entries_of layers t) + 1 ≤ 16
      → entries_of layers (layers_with records h t) ≡ insert itself (layer_lt records) h (entries_of layers t)
