-- The claims hold: the test as facts of its parts, the call on the facts, and the facts as the test again; and no check
-- of a call but that of damage answers 42.
use Rattle.records.specs.Errors.{Outcome}
use Prim.Native.Nat.{ℕ}
use mathlib.Core.Path.{ap}
use lib.Dec.{eqb}
use Rattle.lists.proofs.ListLaws.{clash}
use Rattle.composition_state.specs.declared.registry.CompositionRegistry.{CompositionRegistry}
use Rattle.composition_input.specs.Captures.{primary}
use Rattle.composition_shortcuts.specs.Registrations.{Registrations}
use Rattle.composition_shortcuts.specs.Register.{registration_list, of_mask}
use Rattle.calls.specs.declared.call.PanelCall.{PanelCall}
use Rattle.calls.specs.declared.call.PanelCall.TheVariants as panel
use Rattle.calls.specs.declared.call.InputCall.{InputCall}
use Rattle.calls.specs.declared.call.InputCall.TheVariants as input
use Rattle.calls.specs.declared.call.ShortcutCall.{ShortcutCall}
use Rattle.calls.specs.declared.call.ShortcutCall.TheVariants as shortcut
use Rattle.registry_step.specs.Steps.{panel_step, input_step, shortcut_step}
use Rattle.composition_soundness.specs.Claims.{Kept, SoundnessClaims}
use Rattle.composition_soundness.proofs.PartLaws.{Parts, parts, undamaged}
use Rattle.composition_soundness.proofs.InputLaws as inputs
use Rattle.composition_soundness.proofs.PanelLaws as panels
use Rattle.composition_soundness.proofs.StartLaws.{start}
use Rattle.composition_soundness.proofs.WindowLaws as windows
use Rattle.composition_soundness.proofs.AttachLaws.{attach}
use Rattle.composition_soundness.proofs.TraceLaws.{arbitrate}
use Rattle.composition_soundness.proofs.CloseLaws.{close_surface_lem}
use Rattle.composition_soundness.proofs.ShutdownLaws.{shutdown}
use Rattle.composition_soundness.proofs.ClearLaws.{Clear}
use Rattle.composition_soundness.proofs.AnswerLaws.{panel_clear, input_clear, shortcut_clear, device_clear, arbitrate_clear, close_surface_clear, shut_down_clear}

kept : (o : Outcome) (r : CompositionRegistry) → Parts r → Clear o → Kept o r
kept o r p k = record { undamaged = undamaged r p; not_42 = λ q. clash (ap (λ (n : ℕ). eqb n 42) q) k.clear }

module _ (r : CompositionRegistry) (p : Parts r) where
  panel_parts : (call : PanelCall) → Parts (panel_step r call).registry
  unfolding panel_step
  panel_parts panel.CreateWindow = windows.create_window_lem r p
  panel_parts (panel.CloseWindow w) = windows.close_window_lem r p w
  panel_parts (panel.CreateView w) = windows.create_view_lem r p w
  panel_parts (panel.UpdateViewMetrics a) = panels.metrics r p a.view a.update a.revision
  panel_parts (panel.CloseView v) = windows.close_view_lem r p v
  panel_parts (panel.AttachSurface d) = attach r p d
  panel_parts (panel.UpdateSurfaceGeometry a) = panels.geometry r p a.surface a.geometry a.revision
  panel_parts (panel.UpdateSurfaceInputPolicy a) = panels.policy r p a.surface a.input a.revision

  input_parts : (call : InputCall) → Parts (input_step r call).registry
  unfolding input_step
  input_parts (input.SetFocus a) = inputs.focus r p a.view a.surface a.revision
  input_parts (input.CapturePointer a) = inputs.capture_pointer_for_lem r p primary a.handle a.revision
  input_parts (input.CapturePointerFor a) = inputs.capture_pointer_for_lem r p a.pointer a.surface a.revision
  input_parts (input.ReleasePointer a) = inputs.release_pointer_lem r p a.handle a.revision
  input_parts (input.ReleasePointerFor a) = inputs.release_pointer_for_lem r p a.pointer a.surface a.revision
  input_parts (input.BeginIme a) = inputs.begin_ime_lem r p a.handle a.revision
  input_parts (input.EndIme a) = inputs.end_ime_lem r p a.handle a.revision
  input_parts (input.SuspendViewInput a) = inputs.suspend r p a.handle a.revision

  shortcut_parts : (call : ShortcutCall) (l : Registrations) → Parts (shortcut_step r call l).registry
  unfolding shortcut_step
  shortcut_parts (shortcut.RegisterSet a) l = panels.register r p a.handle l a.revision
  shortcut_parts (shortcut.RegisterOne a) l = panels.register r p a.surface (registration_list a.registration) a.revision
  shortcut_parts (shortcut.SetMask a) l = panels.register r p a.surface (registration_list (of_mask a.class_mask)) a.revision

pub claims : SoundnessClaims
claims = record {
  start = λ session epoch limits revision generation a. undamaged _ (start session epoch limits revision generation a);
  panel = λ r u call. kept _ _ (panel_parts r (parts r u) call) (panel_clear r u.sound call);
  input = λ r u call. kept _ _ (input_parts r (parts r u) call) (input_clear r u.sound call);
  release_device = λ r u d g. kept _ _ (inputs.release_device r (parts r u) d g) (device_clear r u.sound d g);
  shortcut = λ r u call l. kept _ _ (shortcut_parts r (parts r u) call l) (shortcut_clear r u.sound call l);
  arbitrate = λ r u v e h. kept _ _ (arbitrate r (parts r u) v e h) (arbitrate_clear r u.sound v e h);
  close_surface_lem = λ r u h. kept _ _ (close_surface_lem r (parts r u) h) (close_surface_clear r u.sound h);
  shutdown = λ r u. kept _ _ (shutdown r (parts r u)) (shut_down_clear r u.sound);
}
