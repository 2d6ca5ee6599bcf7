-- The calls on metrics, geometry, policy and registrations: a panel keeps its view and its place among the layers, and a list of registrations fits.
use Prim.Native.Nat.{ℕ, ◌≤◌}
use mathlib.Core.Path.{◌≡◌, refl, sym, ap, ◌∙◌, subst}
use mathlib.Core.Bool.{true, false, cond}
use borrow.Author.Tests.{leb-true}
use lib.ListN.{length-set}
use Rattle.lists.proofs.ListLaws.{by_test}
use Rattle.lists.proofs.TableLaws.{len_packed}
use Rattle.geometry.specs.declared.metrics.ViewMetricsUpdate.{ViewMetricsUpdate}
use Rattle.geometry.specs.declared.surface.SurfaceGeometry.{SurfaceGeometry}
use Rattle.handles.specs.Handles.{same_handle}
use Rattle.handles.specs.declared.GenerationalHandle.{GenerationalHandle}
use Rattle.composition_state.specs.declared.registry.CompositionRegistry.{CompositionRegistry}
use Rattle.records.specs.declared.surface.SurfaceInputPolicy.{SurfaceInputPolicy}
use Rattle.records.specs.declared.surface.SurfaceRecord.{SurfaceRecord}
use Rattle.records.specs.Surfaces.{SurfaceTable, no_surface, surface_at, surface_status, with_surface, with_geometry, with_input}
use Rattle.records.specs.Layers.{is_live, is_layer_of}
use Rattle.composition_state.specs.Registry.{with_surfaces}
use Rattle.records.specs.Shortcuts.{shortcuts}
use Rattle.records.specs.Views.{view_at, with_metrics}
use Rattle.composition_panels.specs.Metrics.{metrics_refusal, new_metrics, update_view_metrics}
use Rattle.composition_panels.specs.Panels.{geometry_refusal, update_surface_geometry, policy_refusal, update_surface_input_policy}
use Rattle.composition_shortcuts.specs.Registrations.{Registrations}
use Rattle.composition_shortcuts.specs.Register.{replaced_entries, fits, replaced, register_refusal, register_surface_system_shortcut_set}
use Rattle.composition_soundness.proofs.ListLaws.{field_kept}
use Rattle.composition_soundness.proofs.PartLaws.{Parts, keeps}
use Rattle.composition_soundness.proofs.ChangeLaws.{Remains, layers_remain, view_changed, surfaces_changed, shortcuts_changed}
use Rattle.composition_soundness.proofs.InputLaws.{as_before}

module _ (r : CompositionRegistry) (p : Parts r) where
  pub metrics : (view : GenerationalHandle) (u : ViewMetricsUpdate) (n : ℕ) → Parts (update_view_metrics r view u n).registry
  unfolding update_view_metrics
  metrics view u n = keeps (metrics_refusal r view u n) r _ p
      (λ a. view_changed r p view (with_metrics (new_metrics r view u) (view_at r.views view)) (λ g e i x. as_before _ x refl refl x.captured))

  -- a panel's record, to one with the same view and z_order
  module _ (h : GenerationalHandle) (s : SurfaceRecord) (view : s.descriptor.view ≡ (surface_at r.surfaces h).descriptor.view)
      (place : s.descriptor.z_order ≡ (surface_at r.surfaces h).descriptor.z_order) where
    abbrev after : SurfaceTable
    after = with_surface h s r.surfaces

    remains : (g at : GenerationalHandle) → is_layer_of r.surfaces g at ≡ true → Remains r.surfaces after g at
    remains g at y = record {
      layer = ap (λ (v : GenerationalHandle). cond (is_live (surface_status r.surfaces at)) (same_handle v g) false)
          (field_kept (λ (x : SurfaceRecord). x.descriptor.view) r.surfaces.records h.index at.index s no_surface view) ∙ y;
      place = field_kept (λ (x : SurfaceRecord). x.descriptor.z_order) r.surfaces.records h.index at.index s no_surface place;
    }

    described : Parts (with_surfaces after r)
    described = surfaces_changed r p after p.surfaces (length-set r.surfaces.records h.index s ∙ p.surface_records)
        (λ g e x. layers_remain r.surfaces after _ g (view_at r.views g).surfaces (is_layer_of r.surfaces g) (remains g) x.own x)

  pub geometry : (h : GenerationalHandle) (g : SurfaceGeometry) (n : ℕ) → Parts (update_surface_geometry r h g n).registry
  unfolding update_surface_geometry
  geometry h g n = keeps (geometry_refusal r h g n) r _ p (λ a. described h (with_geometry g (surface_at r.surfaces h)) refl refl)

  pub policy : (h : GenerationalHandle) (q : SurfaceInputPolicy) (n : ℕ) → Parts (update_surface_input_policy r h q n).registry
  unfolding update_surface_input_policy
  policy h q n = keeps (policy_refusal r h n) r _ p (λ a. described h (with_input q (surface_at r.surfaces h)) refl refl)

  pub register : (h : GenerationalHandle) (t : Registrations) (n : ℕ) → Parts (register_surface_system_shortcut_set r h t n).registry
  unfolding register_surface_system_shortcut_set
  register h t n = keeps (register_refusal r h t n) r _ p (λ a. shortcuts_changed r p (replaced h.index t r.shortcuts) (by_test (fits h.index t r.shortcuts)
      (λ y. rw y (subst (λ (m : ℕ). m ≤ 256) (sym (len_packed shortcuts (replaced_entries h.index t r.shortcuts))) (leb-true _ _ y)))
      (λ y. rw y p.shortcuts)))
