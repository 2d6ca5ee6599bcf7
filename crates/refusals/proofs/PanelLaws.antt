-- A refusal of a call on windows, views or panels: no check of it answers 21, but that of the metrics' own counter.
use Rattle.std.specs.Prelude.{Ok, Err}
use Rattle.std.specs.Result.{result_and}
use mathlib.Core.Path.{◌≡◌, refl}
use mathlib.Core.Bool.{Bool, true, false, cond, not, ◌&&◌}
use lib.Dec.{eqb}
use Rattle.lists.specs.Numbers.{max_u64}
use Rattle.geometry.specs.Metrics.{is_valid_metrics}
use Rattle.geometry.specs.Surface.{is_valid_geometry}
use Rattle.handles.specs.Slots.{released}
use Rattle.records.specs.declared.error.CompositionError.{CompositionError}
use Rattle.records.specs.declared.error.CompositionError.TheVariants.{Capacity, PerViewCapacity, WindowInUse, ViewInUse, InvalidGeometry, InvalidMetrics, RevisionExhausted}
use Rattle.composition_state.specs.declared.registry.CompositionRegistry.{CompositionRegistry}
use Rattle.composition_state.specs.Damage.{damage_refusal}
use Rattle.records.specs.Errors.{error_number, refusal_if, Outcome}
use Rattle.composition_state.specs.Registry.{conflict_refusal, settled}
use Rattle.records.specs.Views.{view_refusal}
use Rattle.composition_panels.specs.Metrics.{current_revision, update_view_metrics}
use Rattle.composition_panels.specs.Panels.{layer_count, attach_refusal, attach_surface, geometry_refusal, update_surface_geometry, policy_refusal, update_surface_input_policy}
use Rattle.composition_panels.specs.Windows.{create_window_refusal, create_window, is_window_in_use, close_window_refusal, close_window, create_view_refusal, create_view, has_layers, close_view_refusal, close_view}
use Rattle.calls.specs.declared.call.PanelCall.{PanelCall}
use Rattle.calls.specs.declared.call.PanelCall.TheVariants as panel
use Rattle.registry_step.specs.Steps.{panel_step}
use Rattle.refusals.specs.Changes.{panel_change}
use Rattle.refusals.specs.Written.{is_own_end}
use Rattle.refusals.proofs.LateLaws.{without_value, settled_late}
use Rattle.refusals.proofs.NumberLaws.{is_other, Other, accepted, if_within, then_within, conflict, exhausted, damage, window_at, view_at_lem, panel_at_lem}

-- ---- the metrics' own counter
-- a check that refuses at the end of a chain: then the chain refuses
never_accepted : (a b d f : Outcome) (e : CompositionError) (r changed : CompositionRegistry)
    → (settled (result_and a (result_and b (result_and d (result_and f (Err e))))) r changed).registry ≡ r
never_accepted (Err x) b d f e r changed = refl
never_accepted (Ok _) (Err x) d f e r changed = refl
never_accepted (Ok _) (Ok _) (Err x) f e r changed = refl
never_accepted (Ok _) (Ok _) (Ok _) (Err x) e r changed = refl
never_accepted (Ok _) (Ok _) (Ok _) (Ok _) e r changed = refl

-- the last of five checks is that of the counter: at its end nothing is written, else 21 comes after the change
own_counter : (a b d f : Outcome) (end : Bool) (r changed : CompositionRegistry) → Other a → Other b → Other d → Other f → (e : CompositionError)
    → (settled (result_and a (result_and b (result_and d (result_and f (refusal_if end RevisionExhausted))))) r changed).outcome ≡ Err e
    → (settled (result_and a (result_and b (result_and d (result_and f (refusal_if end RevisionExhausted))))) r changed).registry ≡ cond (not end && eqb (error_number e) 21) changed r
own_counter a b d f true r changed k l m n e q = never_accepted a b d f RevisionExhausted r changed
own_counter a b d f false r changed k l m n e q =
    settled_late (result_and a (result_and b (result_and d (result_and f (Ok tt))))) r changed (then_within k (then_within l (then_within m (then_within n (accepted is_other))))) e q

-- ---- every call of the group
pub panel_late : (r : CompositionRegistry) (call : PanelCall) (e : CompositionError) → (panel_step r call).outcome ≡ Err e
    → (panel_step r call).registry ≡ cond (not (is_own_end r call) && eqb (error_number e) 21) (panel_change r call) r
unfolding panel_step panel_change create_window close_window create_view update_view_metrics close_view attach_surface update_surface_geometry update_surface_input_policy
panel_late r panel.CreateWindow e q =
    settled_late (create_window_refusal r) r (panel_change r panel.CreateWindow)
    (then_within (damage r) (if_within is_other (eqb r.windows.live r.limits.max_windows) Capacity refl)) e (without_value _ _ e q)
panel_late r (panel.CloseWindow w) e q =
    settled_late (close_window_refusal r w) r (panel_change r (panel.CloseWindow w))
    (then_within (damage r) (then_within (window_at r w) (then_within (if_within is_other (is_window_in_use r.views w) WindowInUse refl) (exhausted (released r.windows w).outcome)))) e q
panel_late r (panel.CreateView w) e q =
    settled_late (create_view_refusal r w) r (panel_change r (panel.CreateView w))
    (then_within (damage r) (then_within (window_at r w) (if_within is_other (eqb r.views.arena.live r.limits.max_views) Capacity refl))) e (without_value _ _ e q)
panel_late r (panel.UpdateViewMetrics a) e q =
    own_counter (damage_refusal r) (refusal_if (not (is_valid_metrics a.update)) InvalidMetrics) (view_refusal r.views a.view) (conflict_refusal (current_revision r a.view) a.revision)
    (eqb (current_revision r a.view) max_u64) r (panel_change r (panel.UpdateViewMetrics a))
    (damage r) (if_within is_other (not (is_valid_metrics a.update)) InvalidMetrics refl) (view_at_lem r a.view) (conflict (current_revision r a.view) a.revision) e (without_value _ _ e q)
panel_late r (panel.CloseView v) e q =
    settled_late (close_view_refusal r v) r (panel_change r (panel.CloseView v))
    (then_within (damage r) (then_within (view_at_lem r v) (then_within (if_within is_other (has_layers r.views v) ViewInUse refl) (exhausted (released r.views.arena v).outcome)))) e q
panel_late r (panel.AttachSurface d) e q =
    settled_late (attach_refusal r d) r (panel_change r (panel.AttachSurface d))
    (then_within (damage r) (then_within (if_within is_other (not (is_valid_geometry d.geometry)) InvalidGeometry refl) (then_within (view_at_lem r d.view)
    (then_within (if_within is_other (eqb (layer_count r.views d.view) r.limits.max_surfaces_per_view) PerViewCapacity refl)
    (if_within is_other (eqb r.surfaces.arena.live r.limits.max_surfaces) Capacity refl))))) e (without_value _ _ e q)
panel_late r (panel.UpdateSurfaceGeometry a) e q =
    settled_late (geometry_refusal r a.surface a.geometry a.revision) r (panel_change r (panel.UpdateSurfaceGeometry a))
    (then_within (damage r) (then_within (conflict r.revision a.revision) (then_within (if_within is_other (not (is_valid_geometry a.geometry)) InvalidGeometry refl) (panel_at_lem r a.surface)))) e q
panel_late r (panel.UpdateSurfaceInputPolicy a) e q =
    settled_late (policy_refusal r a.surface a.revision) r (panel_change r (panel.UpdateSurfaceInputPolicy a))
    (then_within (damage r) (then_within (conflict r.revision a.revision) (panel_at_lem r a.surface))) e q
