-- Every call of a group settles a refusal or a change, since the call that its case is sent to does.
use Rattle.composition_state.specs.declared.registry.CompositionRegistry.{CompositionRegistry}
use Rattle.composition_state.specs.Settles.{Settles}
use Rattle.composition_panels.proofs.ClaimLaws as panels
use Rattle.composition_input.proofs.ClaimLaws as inputs
use Rattle.composition_shortcuts.specs.Registrations.{Registrations}
use Rattle.composition_shortcuts.specs.Register.{registration_list, of_mask}
use Rattle.composition_shortcuts.proofs.ClaimLaws as shortcuts
use Rattle.calls.specs.declared.call.PanelCall.{PanelCall}
use Rattle.calls.specs.declared.call.PanelCall.TheVariants as panel
use Rattle.calls.specs.declared.call.InputCall.{InputCall}
use Rattle.calls.specs.declared.call.InputCall.TheVariants as input
use Rattle.calls.specs.declared.call.ShortcutCall.{ShortcutCall}
use Rattle.calls.specs.declared.call.ShortcutCall.TheVariants as shortcut
use Rattle.registry_step.specs.Steps.{panel_step, input_step, shortcut_step}

pub panel_settles : (r : CompositionRegistry) (call : PanelCall) → Settles r (panel_step r call).outcome (panel_step r call).registry
unfolding panel_step
panel_settles r panel.CreateWindow = (panels.claims).create_window_lem r
panel_settles r (panel.CloseWindow window) = (panels.claims).close_window_lem r window
panel_settles r (panel.CreateView window) = (panels.claims).create_view_lem r window
panel_settles r (panel.UpdateViewMetrics a) = (panels.claims).metrics r a.view a.update a.revision
panel_settles r (panel.CloseView view) = (panels.claims).close_view_lem r view
panel_settles r (panel.AttachSurface descriptor) = (panels.claims).attach r descriptor
panel_settles r (panel.UpdateSurfaceGeometry a) = (panels.claims).geometry r a.surface a.geometry a.revision
panel_settles r (panel.UpdateSurfaceInputPolicy a) = (panels.claims).policy r a.surface a.input a.revision

pub input_settles : (r : CompositionRegistry) (call : InputCall) → Settles r (input_step r call).outcome (input_step r call).registry
unfolding input_step
input_settles r (input.SetFocus a) = (inputs.claims).set_focus_lem r a.view a.surface a.revision
input_settles r (input.CapturePointer a) = (inputs.claims).capture_pointer r a.handle a.revision
input_settles r (input.CapturePointerFor a) = (inputs.claims).capture_pointer_for_lem r a.pointer a.surface a.revision
input_settles r (input.ReleasePointer a) = (inputs.claims).release_pointer_lem r a.handle a.revision
input_settles r (input.ReleasePointerFor a) = (inputs.claims).release_pointer_for_lem r a.pointer a.surface a.revision
input_settles r (input.BeginIme a) = (inputs.claims).begin_ime_lem r a.handle a.revision
input_settles r (input.EndIme a) = (inputs.claims).end_ime_lem r a.handle a.revision
input_settles r (input.SuspendViewInput a) = (inputs.claims).suspend_view_input_lem r a.handle a.revision

pub shortcut_settles : (r : CompositionRegistry) (call : ShortcutCall) (l : Registrations) → Settles r (shortcut_step r call l).outcome (shortcut_step r call l).registry
unfolding shortcut_step
shortcut_settles r (shortcut.RegisterSet a) l = (shortcuts.claims).set_settles r a.handle l a.revision
shortcut_settles r (shortcut.RegisterOne a) l = (shortcuts.claims).set_settles r a.surface (registration_list a.registration) a.revision
shortcut_settles r (shortcut.SetMask a) l = (shortcuts.claims).set_settles r a.surface (registration_list (of_mask a.class_mask)) a.revision
