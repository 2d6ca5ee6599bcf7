-- The calls that the book does not name and that change no view's slot: each writes what the book does not read, so the book goes on agreeing.
use Rattle.std.specs.Prelude.{Option, None, Some, Ok}
use Prim.Native.Nat.{ℕ}
use mathlib.Core.Path.{◌≡◌, refl}
use Rattle.geometry.specs.declared.metrics.ViewMetricsUpdate.{ViewMetricsUpdate}
use Rattle.geometry.specs.declared.surface.SurfaceGeometry.{SurfaceGeometry}
use Rattle.handles.specs.declared.GenerationalHandle.{GenerationalHandle}
use Rattle.composition_state.specs.declared.registry.CompositionRegistry.{CompositionRegistry}
use Rattle.records.specs.declared.surface.SurfaceInputPolicy.{SurfaceInputPolicy}
use Rattle.records.specs.declared.surface.SurfaceRecord.{SurfaceRecord}
use Rattle.records.specs.declared.trace.ArbitrationEvent.{ArbitrationEvent}
use Rattle.records.specs.Traces.{Hits}
use Rattle.composition_state.specs.Registry.{with_surfaces}
use Rattle.records.specs.Surfaces.{no_surface, surface_at, with_surface, with_geometry, with_input}
use Rattle.records.specs.Views.{view_at, with_metrics, with_focus, with_ime}
use Rattle.composition_state.specs.Registry.{outcome_of}
use Rattle.composition_panels.specs.Windows.{new_window, create_window_refusal, create_window, close_window_refusal, close_window}
use Rattle.composition_panels.specs.Metrics.{metrics_refusal, new_metrics, update_view_metrics}
use Rattle.composition_panels.specs.Panels.{geometry_refusal, update_surface_geometry, policy_refusal, update_surface_input_policy}
use Rattle.composition_input.specs.Focus.{own_view, focus_refusal, set_focus, begin_ime_refusal, begin_ime, end_ime_refusal, end_ime}
use Rattle.composition_input.specs.Captures.{own_record}
use Rattle.composition_shortcuts.specs.Registrations.{Registrations}
use Rattle.composition_shortcuts.specs.Register.{register_refusal, register_surface_system_shortcut_set}
use Rattle.composition_shortcuts.specs.Resolve.{resolved_outcome}
use Rattle.composition_arbitration.specs.Arbitration.{own_hits, resolution, arbitrate_refusal, concluded, arbitrated}
use Rattle.composition_soundness.proofs.ListLaws.{field_kept}
use Rattle.book.specs.Book.{Book}
use Rattle.registry_book.specs.Agreement.{Agrees, Follows}
use Rattle.registry_book.proofs.AgreeLaws.{follows, made_follows, SamePanels, panels_follow, unread_follow}

module _ (r : CompositionRegistry) (b : Book) (a : Agrees r b) where
  untouched : (after : CompositionRegistry) → after.surfaces ≡ r.surfaces → SamePanels r after
  untouched after q = record { status = λ h. rw q; view = λ h. rw q }

  -- ---- windows, registrations and traces
  pub create_window_lem : outcome_of (create_window r) ≡ Ok tt → Follows r (create_window r).registry b
  unfolding create_window
  create_window_lem q = made_follows (new_window r).handle b (create_window_refusal r) r _ q (λ o. panels_follow r b a _ (untouched _ refl) refl)

  pub close_window_lem : (w : GenerationalHandle) → (close_window r w).outcome ≡ Ok tt → Follows r (close_window r w).registry b
  unfolding close_window
  close_window_lem w q = follows b (close_window_refusal r w) r _ q (λ o. panels_follow r b a _ (untouched _ refl) refl)

  pub register : (h : GenerationalHandle) (t : Registrations) (n : ℕ) → (register_surface_system_shortcut_set r h t n).outcome ≡ Ok tt
      → Follows r (register_surface_system_shortcut_set r h t n).registry b
  unfolding register_surface_system_shortcut_set
  register h t n q = follows b (register_refusal r h t n) r _ q (λ o. panels_follow r b a _ (untouched _ refl) refl)

  pub arbitrate : (v : GenerationalHandle) (e : ArbitrationEvent) (hits : Hits) → outcome_of (arbitrated r v e hits) ≡ Ok tt → Follows r (arbitrated r v e hits).registry b
  unfolding arbitrated concluded
  arbitrate v e hits q = made_follows _ b (arbitrate_refusal r v (own_hits e hits) (resolved_outcome (resolution r v e))) r _ q (λ o. panels_follow r b a _ (untouched _ refl) refl)

  -- ---- a panel's record, in its view
  described : (h : GenerationalHandle) (s : SurfaceRecord) → s.descriptor.view ≡ (surface_at r.surfaces h).descriptor.view → Follows r (with_surfaces (with_surface h s r.surfaces) r) b
  described h s q = panels_follow r b a (with_surfaces (with_surface h s r.surfaces) r) (record {
    status = λ g. refl;
    view = λ g. field_kept (λ (x : SurfaceRecord). x.descriptor.view) r.surfaces.records h.index g.index s no_surface q;
  }) refl

  pub geometry : (h : GenerationalHandle) (g : SurfaceGeometry) (n : ℕ) → (update_surface_geometry r h g n).outcome ≡ Ok tt → Follows r (update_surface_geometry r h g n).registry b
  unfolding update_surface_geometry
  geometry h g n q = follows b (geometry_refusal r h g n) r _ q (λ o. described h (with_geometry g (surface_at r.surfaces h)) refl)

  pub policy : (h : GenerationalHandle) (p : SurfaceInputPolicy) (n : ℕ) → (update_surface_input_policy r h p n).outcome ≡ Ok tt → Follows r (update_surface_input_policy r h p n).registry b
  unfolding update_surface_input_policy
  policy h p n q = follows b (policy_refusal r h n) r _ q (λ o. described h (with_input p (surface_at r.surfaces h)) refl)

  -- ---- a view's metrics, focus and composition
  pub metrics : (v : GenerationalHandle) (u : ViewMetricsUpdate) (n : ℕ) → outcome_of (update_view_metrics r v u n) ≡ Ok tt → Follows r (update_view_metrics r v u n).registry b
  unfolding update_view_metrics
  metrics v u n q = made_follows (new_metrics r v u) b (metrics_refusal r v u n) r _ q (λ o. unread_follow r b a v (with_metrics (new_metrics r v u) (view_at r.views v)) refl refl refl)

  pub focus : (v : GenerationalHandle) (h : Option GenerationalHandle) (n : ℕ) → (set_focus r v h n).outcome ≡ Ok tt → Follows r (set_focus r v h n).registry b
  unfolding set_focus
  focus v h n q = follows b (focus_refusal r v h n) r _ q (λ o. unread_follow r b a v (with_focus h (view_at r.views v)) refl refl refl)

  pub begin_ime_lem : (h : GenerationalHandle) (n : ℕ) → (begin_ime r h n).outcome ≡ Ok tt → Follows r (begin_ime r h n).registry b
  unfolding begin_ime
  begin_ime_lem h n q = follows b (begin_ime_refusal r h n) r _ q (λ o. unread_follow r b a (own_view r h) (with_ime (Some h) (own_record r h)) refl refl refl)

  pub end_ime_lem : (h : GenerationalHandle) (n : ℕ) → (end_ime r h n).outcome ≡ Ok tt → Follows r (end_ime r h n).registry b
  unfolding end_ime
  end_ime_lem h n q = follows b (end_ime_refusal r h n) r _ q (λ o. unread_follow r b a (own_view r h) (with_ime None (own_record r h)) refl refl refl)
