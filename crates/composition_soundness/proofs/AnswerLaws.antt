-- No call answers 42 to a registry that the damage test accepts: its checks after the first have other numbers.
use Rattle.records.specs.Errors.{Outcome}
use Rattle.std.specs.Prelude.{Option, None, Some, Ok, Err}
use Prim.Native.Nat.{ℕ}
use mathlib.Core.Path.{◌≡◌, refl}
use mathlib.Core.Bool.{true, not, ◌||◌}
use lib.Dec.{eqb, ltb}
use lib.ListN.{length}
use Rattle.lists.specs.Lists.{all}
use Rattle.lists.specs.Tables.{entries_of}
use Rattle.lists.specs.Numbers.{max_u64}
use Rattle.geometry.specs.Metrics.{is_valid_metrics}
use Rattle.geometry.specs.Surface.{is_valid_geometry}
use Rattle.handles.specs.Handles.{same_handle, holds_handle}
use Rattle.handles.specs.Slots.{released}
use Rattle.handles.specs.declared.GenerationalHandle.{GenerationalHandle}
use Rattle.maps.specs.Captures.{captures, capture_key, surface_of}
use Rattle.maps.specs.Keys.{pointer_key, pointer_valid}
use Rattle.maps.specs.MapTables.{accepts, found}
use Rattle.maps.specs.declared.keys.CompositionPointerId.{CompositionPointerId}
use Rattle.records.specs.declared.error.CompositionError.TheVariants.{Capacity, PerViewCapacity, WindowInUse, ViewInUse, InvalidGeometry, InvalidMetrics, WrongView, NotInteractive, TextUnsupported, RevisionExhausted, GenerationExhausted, PortLimit}
use Rattle.composition_state.specs.Registry.{Changed}
use Rattle.composition_state.specs.declared.registry.CompositionRegistry.{CompositionRegistry}
use Rattle.composition_state.specs.Damage.{is_sound}
use Rattle.records.specs.declared.trace.ArbitrationEvent.{ArbitrationEvent}
use Rattle.records.specs.Traces.{Hits}
use Rattle.records.specs.Surfaces.{descriptor_of}
use Rattle.records.specs.Views.{view_at}
use Rattle.composition_panels.specs.Windows.{create_window_refusal, create_window, is_window_in_use, close_window_refusal, close_window, create_view_refusal, create_view, has_layers, close_view_refusal, close_view}
use Rattle.composition_panels.specs.Metrics.{current_revision, metrics_refusal, update_view_metrics}
use Rattle.composition_panels.specs.Panels.{layer_count, attach_refusal, attach_surface, geometry_refusal, update_surface_geometry, policy_refusal, update_surface_input_policy}
use Rattle.composition_input.specs.Focus.{described, own_view, focus_target_refusal, focus_refusal, set_focus, begin_ime_refusal, begin_ime, end_ime_refusal, end_ime, suspend_refusal, suspend_view_input}
use Rattle.composition_input.specs.Captures.{primary, capture, own_record, capture_refusal, capture_pointer_for, owner_refusal, release_for_refusal, release_pointer_for, release_refusal, release_pointer, device_captures, device_refusal, release_device_pointer_captures}
use Rattle.composition_shortcuts.specs.Registrations.{Registrations}
use Rattle.composition_shortcuts.specs.Register.{registrations, is_fit, fits, register_refusal, register_surface_system_shortcut_set, registration_list, of_mask}
use Rattle.composition_shortcuts.specs.Resolve.{resolved_outcome}
use Rattle.composition_state.specs.Registry.{outcome_of}
use Rattle.composition_arbitration.specs.Arbitration.{own_hits, resolution, arbitrate_refusal, concluded, arbitrated}
use Rattle.composition_close.specs.Close.{close_refusal, slot_refusal, close_settled, close_after, close_surface}
use Rattle.composition_close.specs.Detach.{own_view as panel_view}
use Rattle.composition_close.specs.Shutdown.{is_over, is_any_exhausted, shutdown_refusal, shut_down, shutdown_after, shutdown_of}
use Rattle.calls.specs.declared.call.PanelCall.{PanelCall}
use Rattle.calls.specs.declared.call.PanelCall.TheVariants as panel
use Rattle.calls.specs.declared.call.InputCall.{InputCall}
use Rattle.calls.specs.declared.call.InputCall.TheVariants as input
use Rattle.calls.specs.declared.call.ShortcutCall.{ShortcutCall}
use Rattle.calls.specs.declared.call.ShortcutCall.TheVariants as shortcut
use Rattle.registry_step.specs.Steps.{panel_step, input_step, shortcut_step}
use Rattle.composition_soundness.proofs.CaseLaws.{either}
use Rattle.composition_soundness.proofs.ClearLaws.{Clear, accepted, with_value, then_clear, if_clear, exhausted_clear, settled_clear, conflict, window_at, view_at_lem, panel_at_lem, interactive, damage, entry, resolution_clear}

-- ---- the checks of each call
module _ (r : CompositionRegistry) (s : is_sound r ≡ true) where
  focus_target : (view : GenerationalHandle) (h : Option GenerationalHandle) → Clear (focus_target_refusal r view h)
  focus_target view None = accepted
  focus_target view (Some h) = then_clear (panel_at_lem r h) (then_clear (if_clear (not (same_handle (own_view r h) view)) WrongView refl) (interactive r h))

  captured : (p : CompositionPointerId) (h : GenerationalHandle) (n : ℕ) → Clear (capture_pointer_for r p h n).outcome
  unfolding capture_pointer_for
  captured p h n = settled_clear (capture_refusal r p h n) r _ (then_clear (entry r s n) (then_clear (if_clear (not (pointer_valid p)) NotInteractive refl)
      (then_clear (panel_at_lem r h) (then_clear (interactive r h) (then_clear (view_at_lem r (own_view r h))
      (if_clear (not (accepts captures capture_key (capture p h) (own_record r h).pointer_captures)) PortLimit refl))))))

  owner : (h : GenerationalHandle) (n : ℕ) → Clear (owner_refusal r h n)
  owner h n = then_clear (entry r s n) (then_clear (panel_at_lem r h) (view_at_lem r (own_view r h)))

  close_clear : (h : GenerationalHandle) (o : Outcome) → Clear o → Clear (outcome_of (close_after o r h))
  unfolding close_settled
  close_clear h (Ok _) p = with_value _ _ (settled_clear (slot_refusal r h) _ _ (exhausted_clear (released r.surfaces.arena h).outcome))
  close_clear h (Err e) p = p

  shutdown_clear : (o : Outcome) → Clear o → Clear (outcome_of (shutdown_after o r))
  unfolding shut_down
  shutdown_clear (Ok _) p = accepted
  shutdown_clear (Err e) p = p

  pub panel_clear : (call : PanelCall) → Clear (panel_step r call).outcome
  unfolding panel_step create_window close_window create_view close_view update_view_metrics attach_surface update_surface_geometry update_surface_input_policy
  panel_clear panel.CreateWindow =
      with_value _ _ (settled_clear (create_window_refusal r) r _ (then_clear (damage r s) (if_clear (eqb r.windows.live r.limits.max_windows) Capacity refl)))
  panel_clear (panel.CloseWindow w) = settled_clear (close_window_refusal r w) r _ (then_clear (damage r s) (then_clear (window_at r w)
      (then_clear (if_clear (is_window_in_use r.views w) WindowInUse refl) (exhausted_clear (released r.windows w).outcome))))
  panel_clear (panel.CreateView w) =
      with_value _ _ (settled_clear (create_view_refusal r w) r _ (then_clear (damage r s) (then_clear (window_at r w) (if_clear (eqb r.views.arena.live r.limits.max_views) Capacity refl))))
  panel_clear (panel.CloseView v) = settled_clear (close_view_refusal r v) r _ (then_clear (damage r s) (then_clear (view_at_lem r v)
      (then_clear (if_clear (has_layers r.views v) ViewInUse refl) (exhausted_clear (released r.views.arena v).outcome))))
  panel_clear (panel.UpdateViewMetrics a) =
      let v = a.view in
      with_value _ _ (settled_clear (metrics_refusal r v a.update a.revision) r _ (then_clear (damage r s) (then_clear (if_clear (not (is_valid_metrics a.update)) InvalidMetrics refl)
      (then_clear (view_at_lem r v) (then_clear (conflict (current_revision r v) a.revision) (if_clear (eqb (current_revision r v) max_u64) RevisionExhausted refl))))))
  panel_clear (panel.AttachSurface d) = with_value _ _ (settled_clear (attach_refusal r d) r _ (then_clear (damage r s) (then_clear (if_clear (not (is_valid_geometry d.geometry)) InvalidGeometry refl)
      (then_clear (view_at_lem r d.view) (then_clear (if_clear (eqb (layer_count r.views d.view) r.limits.max_surfaces_per_view) PerViewCapacity refl)
      (if_clear (eqb r.surfaces.arena.live r.limits.max_surfaces) Capacity refl))))))
  panel_clear (panel.UpdateSurfaceGeometry a) =
      settled_clear (geometry_refusal r a.surface a.geometry a.revision) r _ (then_clear (damage r s) (then_clear (conflict r.revision a.revision)
      (then_clear (if_clear (not (is_valid_geometry a.geometry)) InvalidGeometry refl) (panel_at_lem r a.surface))))
  panel_clear (panel.UpdateSurfaceInputPolicy a) =
      settled_clear (policy_refusal r a.surface a.revision) r _ (then_clear (damage r s) (then_clear (conflict r.revision a.revision) (panel_at_lem r a.surface)))

  pub input_clear : (call : InputCall) → Clear (input_step r call).outcome
  unfolding input_step set_focus begin_ime end_ime suspend_view_input release_pointer_for release_pointer
  input_clear (input.SetFocus a) =
      settled_clear (focus_refusal r a.view a.surface a.revision) r _ (then_clear (entry r s a.revision) (then_clear (focus_target a.view a.surface) (view_at_lem r a.view)))
  input_clear (input.CapturePointer a) = captured primary a.handle a.revision
  input_clear (input.CapturePointerFor a) = captured a.pointer a.surface a.revision
  input_clear (input.ReleasePointer a) =
      let h = a.handle in
      settled_clear (release_refusal r h a.revision) r _ (then_clear (owner h a.revision) (if_clear (not (holds_handle (own_record r h).pointer_capture h)) NotInteractive refl))
  input_clear (input.ReleasePointerFor a) =
      let p = a.pointer in
      let h = a.surface in
      settled_clear (release_for_refusal r p h a.revision) r _ (then_clear (owner h a.revision)
      (if_clear (not (holds_handle (surface_of (found captures capture_key (pointer_key p) (own_record r h).pointer_captures)) h)) NotInteractive refl))
  input_clear (input.BeginIme a) =
      let h = a.handle in
      settled_clear (begin_ime_refusal r h a.revision) r _ (then_clear (entry r s a.revision) (then_clear (panel_at_lem r h)
      (then_clear (if_clear (not (described r h).accepts_text) TextUnsupported refl) (then_clear (view_at_lem r (own_view r h))
      (if_clear (not (holds_handle (view_at r.views (own_view r h)).focus h)) NotInteractive refl)))))
  input_clear (input.EndIme a) =
      let h = a.handle in
      settled_clear (end_ime_refusal r h a.revision) r _ (then_clear (entry r s a.revision) (then_clear (panel_at_lem r h) (then_clear (view_at_lem r (own_view r h))
      (if_clear (not (holds_handle (view_at r.views (own_view r h)).ime h)) NotInteractive refl))))
  input_clear (input.SuspendViewInput a) =
      with_value _ _ (settled_clear (suspend_refusal r a.handle a.revision) r _ (then_clear (entry r s a.revision) (view_at_lem r a.handle)))

  register_clear : (h : GenerationalHandle) (t : Registrations) (n : ℕ) → Clear (register_surface_system_shortcut_set r h t n).outcome
  unfolding register_surface_system_shortcut_set
  register_clear h t n = settled_clear (register_refusal r h t n) r _ (then_clear (damage r s) (then_clear (conflict r.revision n) (then_clear (panel_at_lem r h)
      (then_clear (if_clear (ltb 64 t.len) Capacity refl)
      (then_clear (if_clear (not (all (is_fit (descriptor_of r.surfaces h).input) (entries_of registrations t))) NotInteractive refl)
      (if_clear (not (fits h.index t r.shortcuts)) PortLimit refl))))))

  pub shortcut_clear : (call : ShortcutCall) (l : Registrations) → Clear (shortcut_step r call l).outcome
  unfolding shortcut_step
  shortcut_clear (shortcut.RegisterSet a) l = register_clear a.handle l a.revision
  shortcut_clear (shortcut.RegisterOne a) l = register_clear a.surface (registration_list a.registration) a.revision
  shortcut_clear (shortcut.SetMask a) l = register_clear a.surface (registration_list (of_mask a.class_mask)) a.revision

  pub device_clear : (d g : ℕ) → Clear (outcome_of (release_device_pointer_captures r d g))
  unfolding release_device_pointer_captures
  device_clear d g =
      let checks : Clear (device_refusal r d g) = then_clear (damage r s) (if_clear (eqb d 0 || eqb g 0) NotInteractive refl) in
      with_value _ _ (either (λ (c : Changed). Clear c.outcome) (eqb (length (device_captures r.views d g)) 0) _ _ checks (settled_clear (device_refusal r d g) r _ checks))

  pub arbitrate_clear : (v : GenerationalHandle) (e : ArbitrationEvent) (h : Hits) → Clear (outcome_of (arbitrated r v e h))
  unfolding arbitrated concluded
  arbitrate_clear v e h = with_value _ _ (settled_clear (arbitrate_refusal r v (own_hits e h) (resolved_outcome (resolution r v e))) r _ (then_clear (damage r s) (then_clear (view_at_lem r v)
      (then_clear (if_clear (ltb 16 (own_hits e h).len) PortLimit refl) (then_clear (resolution_clear r v e)
      (if_clear (eqb r.revision max_u64) RevisionExhausted refl))))))

  pub close_surface_clear : (h : GenerationalHandle) → Clear (outcome_of (close_surface r h))
  unfolding close_surface
  close_surface_clear h = close_clear h (close_refusal r h) (then_clear (damage r s) (then_clear (panel_at_lem r h) (view_at_lem r (panel_view r.surfaces h))))

  pub shut_down_clear : Clear (outcome_of (shutdown_of r))
  unfolding shutdown_of
  shut_down_clear = shutdown_clear (shutdown_refusal r) (then_clear (damage r s)
      (then_clear (if_clear (is_over r.revision r.surfaces.arena.live r.views.arena.live r.windows.live) RevisionExhausted refl) (if_clear (is_any_exhausted r) GenerationExhausted refl)))
