-- The calls on the registry alone that list nothing, each sent to the definition of its call.
use Rattle.records.specs.declared.view.ViewInputState.{ViewInputState}
use Rattle.geometry.specs.declared.metrics.ViewMetrics.{ViewMetrics}
use Rattle.std.specs.Prelude.{None, Some, Option}
use Rattle.composition_state.specs.Registry.{Changed}
use Rattle.composition_state.specs.declared.registry.CompositionRegistry.{CompositionRegistry}
use Rattle.std.specs.Result.{result_ok}
use Rattle.composition_state.specs.Registry.{outcome_of}
use Rattle.composition_panels.specs.Windows.{Created, create_window, close_window, create_view, close_view}
use Rattle.composition_panels.specs.Metrics.{MetricsUpdated, update_view_metrics}
use Rattle.composition_panels.specs.Panels.{attach_surface, update_surface_geometry, update_surface_input_policy}
use Rattle.composition_input.specs.Focus.{Suspended}
use Rattle.composition_input.specs.Focus.{set_focus, begin_ime, end_ime, suspend_view_input}
use Rattle.composition_input.specs.Captures.{primary, capture_pointer_for, release_pointer_for, release_pointer}
use Rattle.composition_shortcuts.specs.Registrations.{Registrations}
use Rattle.composition_shortcuts.specs.Register.{register_surface_system_shortcut_set, registration_list, of_mask}
use Rattle.calls.specs.declared.call.PanelCall.{PanelCall}
use Rattle.calls.specs.declared.call.PanelCall.TheVariants as panel
use Rattle.calls.specs.declared.call.InputCall.{InputCall}
use Rattle.calls.specs.declared.call.InputCall.TheVariants as input
use Rattle.calls.specs.declared.call.ShortcutCall.{ShortcutCall}
use Rattle.calls.specs.declared.call.ShortcutCall.TheVariants as shortcut
use Rattle.calls.specs.declared.shown.Shown.{Shown}
use Rattle.calls.specs.declared.shown.Shown.TheVariants as shown
use Rattle.registry_step.specs.declared.steps.RegistryStepped.{RegistryStepped}

-- the metrics that an update made; a refused one made none
abbrev pub metrics_shown : Option ViewMetrics → Shown
metrics_shown None = shown.Nothing
metrics_shown (Some m) = shown.Metrics m

-- what a suspend let go; a refused one let nothing go
abbrev pub state_shown : Option ViewInputState → Shown
state_shown None = shown.Nothing
state_shown (Some s) = shown.InputState s

-- a call that makes no handle answers none, and one with nothing to show shows nothing
abbrev pub of_changed : Changed → RegistryStepped
of_changed c = record { outcome = c.outcome; handle = None; shown = shown.Nothing; registry = c.registry }

abbrev pub of_created : Created → RegistryStepped
of_created c = record { outcome = outcome_of c; handle = result_ok c.outcome; shown = shown.Nothing; registry = c.registry }

abbrev pub of_metrics : MetricsUpdated → RegistryStepped
of_metrics u =
    record { outcome = outcome_of u; handle = None; shown = metrics_shown (result_ok u.outcome); registry = u.registry }

abbrev pub of_suspended : Suspended → RegistryStepped
of_suspended s =
    record { outcome = outcome_of s; handle = None; shown = state_shown (result_ok s.outcome); registry = s.registry }

-- RULES.md, Windows and views; Panels: attach, geometry, policy
unfoldable pub panel_step : CompositionRegistry → PanelCall → RegistryStepped
panel_step r panel.CreateWindow = of_created (create_window r)
panel_step r (panel.CloseWindow window) = of_changed (close_window r window)
panel_step r (panel.CreateView window) = of_created (create_view r window)
panel_step r (panel.UpdateViewMetrics a) = of_metrics (update_view_metrics r a.view a.update a.revision)
panel_step r (panel.CloseView view) = of_changed (close_view r view)
panel_step r (panel.AttachSurface descriptor) = of_created (attach_surface r descriptor)
panel_step r (panel.UpdateSurfaceGeometry a) =
    of_changed (update_surface_geometry r a.surface a.geometry a.revision)
panel_step r (panel.UpdateSurfaceInputPolicy a) =
    of_changed (update_surface_input_policy r a.surface a.input a.revision)

-- RULES.md, Focus, captures, compositions; Suspend: a capture without a pointer is that of PRIMARY
unfoldable pub input_step : CompositionRegistry → InputCall → RegistryStepped
input_step r (input.SetFocus a) = of_changed (set_focus r a.view a.surface a.revision)
input_step r (input.CapturePointer a) = of_changed (capture_pointer_for r primary a.handle a.revision)
input_step r (input.CapturePointerFor a) = of_changed (capture_pointer_for r a.pointer a.surface a.revision)
input_step r (input.ReleasePointer a) = of_changed (release_pointer r a.handle a.revision)
input_step r (input.ReleasePointerFor a) = of_changed (release_pointer_for r a.pointer a.surface a.revision)
input_step r (input.BeginIme a) = of_changed (begin_ime r a.handle a.revision)
input_step r (input.EndIme a) = of_changed (end_ime r a.handle a.revision)
input_step r (input.SuspendViewInput a) = of_suspended (suspend_view_input r a.handle a.revision)

-- RULES.md, Shortcuts; one registration or none, or a plain mask, is a list of at most one
unfoldable pub shortcut_step : CompositionRegistry → ShortcutCall → Registrations → RegistryStepped
shortcut_step r (shortcut.RegisterSet a) l = of_changed (register_surface_system_shortcut_set r a.handle l a.revision)
shortcut_step r (shortcut.RegisterOne a) l =
    of_changed (register_surface_system_shortcut_set r a.surface (registration_list a.registration) a.revision)
shortcut_step r (shortcut.SetMask a) l =
    of_changed (register_surface_system_shortcut_set r a.surface (registration_list (of_mask a.class_mask))
    a.revision)
