-- The claims about these calls: each settles a refusal or a change that keeps the revision, and the layers' laws are those of an insertion in order.
use Prim.Native.Nat.{◌+◌, ◌≤◌}
use mathlib.Core.Path.{◌≡◌, refl, sym, subst}
use Rattle.std.specs.Prelude.{Ok, Err}
use Rattle.std.specs.Result.{result_and}
use mathlib.Core.Bool.{true}
use mathlib.Core.List.{List}
use native.Mathlib.Omega.{arith}
use borrow.Author.Tests.{lt-ltb}
use lib.Dec.{ltb}
use lib.ListN.{length}
use Rattle.lists.specs.Tables.{entries_of}
use Rattle.lists.specs.Maps.{insert}
use Rattle.lists.proofs.ListLaws.{by_test}
use Rattle.lists.proofs.TableLaws.{entries_packed}
use Rattle.handles.specs.declared.GenerationalHandle.{GenerationalHandle}
use Rattle.records.specs.Layers.{Layers, layers, itself, layer_lt, layers_with, layers_rise}
use Rattle.records.specs.declared.surface.SurfaceRecord.{SurfaceRecord}
use Rattle.composition_state.specs.declared.registry.CompositionRegistry.{CompositionRegistry}
use Rattle.records.specs.declared.surface.SurfaceInputPolicy.{SurfaceInputPolicy}
use Rattle.composition_state.specs.Registry.{with_windows, with_views, with_surfaces, settled}
use Rattle.composition_state.specs.Settles.{Settles}
use Rattle.composition_state.specs.Registry.{Changed}
use Rattle.records.specs.Errors.{Outcome}
use Rattle.records.specs.Surfaces.{surface_at, with_surface, with_geometry, with_input}
use Rattle.records.specs.Views.{fresh_view, view_at, with_view, views_with, with_metrics}
use Rattle.handles.specs.Slots.{released}
use Rattle.records.proofs.LayerLaws as layer
use Rattle.composition_state.proofs.SettleLaws.{settles, accepted_is, settles_made}
use Rattle.composition_state.specs.Registry.{answered_with, outcome_of}
use Rattle.composition_panels.specs.Windows.{new_window, new_view, create_window_refusal, create_window, close_window_refusal, close_window, create_view_refusal, create_view, close_view_refusal, close_view}
use Rattle.composition_panels.specs.Metrics.{metrics_refusal, new_metrics, update_view_metrics}
use Rattle.composition_panels.specs.Panels.{new_surface, attach_refusal, attached, attach_surface, geometry_refusal, update_surface_geometry, policy_refusal, update_surface_input_policy}
use Rattle.composition_panels.specs.Claims.{PanelClaims}

in_place : (records : List SurfaceRecord) (h : GenerationalHandle) (t : Layers) → length (entries_of layers t) + 1 ≤ 16
    → entries_of layers (layers_with records h t) ≡ insert itself (layer_lt records) h (entries_of layers t)
in_place records h t room = rw (lt-ltb (length (entries_of layers t)) 16 (omega arith)) (entries_packed layers _)

stay_sorted : (records : List SurfaceRecord) (h : GenerationalHandle) (t : Layers) → layers_rise records t ≡ true → layers_rise records (layers_with records h t) ≡ true
stay_sorted records h t s = by_test (ltb (length (entries_of layers t)) 16)
    (λ b. rw (b, entries_packed layers (insert itself (layer_lt records) h (entries_of layers t))) ((layer.claims records).insert_rises h (entries_of layers t) s))
    (λ b. rw b s)

-- the registry with another policy for a panel
abbrev repoliced : CompositionRegistry → GenerationalHandle → SurfaceInputPolicy → CompositionRegistry
repoliced r s p = with_surfaces (with_surface s (with_input p (surface_at r.surfaces s)) r.surfaces) r

pub claims : PanelClaims
unfolding create_window close_window create_view close_view update_view_metrics attached attach_surface update_surface_geometry update_surface_input_policy
claims = record {
  create_window_lem = λ r. settles_made (new_window r).handle (create_window_refusal r) r (with_windows (new_window r).arena r) refl;
  close_window_lem = λ r w. settles (close_window_refusal r w) r (with_windows (released r.windows w).arena r) refl;
  create_view_lem = λ r w.
      settles_made (new_view r).handle (create_view_refusal r w) r (with_views (with_view (new_view r).handle (fresh_view w) (views_with (new_view r).arena r.views)) r) refl;
  close_view_lem = λ r v. settles (close_view_refusal r v) r (with_views (views_with (released r.views.arena v).arena r.views) r) refl;
  metrics = λ r v u n.
      settles_made (new_metrics r v u) (metrics_refusal r v u n) r (with_views (with_view v (with_metrics (new_metrics r v u) (view_at r.views v)) r.views) r) refl;
  attach = λ r d. settles_made (new_surface r).handle (attach_refusal r d) r (attached (new_surface r) d r) refl;
  geometry = λ r s g n.
      settles (geometry_refusal r s g n) r (with_surfaces (with_surface s (with_geometry g (surface_at r.surfaces s)) r.surfaces) r) refl;
  policy = λ r s p n. settles (policy_refusal r s n) r (repoliced r s p) refl;
  policy_alone = λ r s p n h. accepted_is (policy_refusal r s n) r (repoliced r s p) h;
  layers_stay_sorted = stay_sorted;
  layer_in_place = in_place;
}
