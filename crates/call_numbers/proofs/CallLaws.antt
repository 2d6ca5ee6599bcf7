-- Each call is read back from its numbers: its fields stand at the places where the reader looks, and each is read back by its own law.
use mathlib.Core.Path.{◌≡◌, refl, sym, ap, ◌∙◌}
use Rattle.lists.specs.Lists.{pad}
use Rattle.records.specs.declared.surface.SurfaceDescriptor.{SurfaceDescriptor}
use Rattle.calls.specs.declared.call.Call.{Call}
use Rattle.calls.specs.declared.call.Call.TheVariants as call
use Rattle.calls.specs.declared.call.CloseCall.TheVariants as close
use Rattle.calls.specs.declared.call.InputCall.{InputCall}
use Rattle.calls.specs.declared.call.InputCall.TheVariants as input
use Rattle.calls.specs.declared.call.PanelCall.{PanelCall}
use Rattle.calls.specs.declared.call.PanelCall.TheVariants as panel
use Rattle.calls.specs.declared.call.ReadCall.{ReadCall}
use Rattle.calls.specs.declared.call.ReadCall.TheVariants as read
use Rattle.calls.specs.declared.call.ShortcutCall.{ShortcutCall}
use Rattle.calls.specs.declared.call.ShortcutCall.TheVariants as shortcut
use Rattle.call_fields.specs.Back.{policy_back, surface_kind_back}
use Rattle.call_fields.specs.Back.{within_back, flag_back, signed_back}
use Rattle.call_numbers.specs.Calls.{call_numbers, call_at}
use Rattle.call_numbers.specs.Claims.{CallNumberClaims}
use Rattle.call_numbers.specs.Fits.{FitsDescriptor, FitsPanel, FitsInput, FitsShortcut, FitsRead, FitsCall}
use Rattle.call_numbers.specs.Geometries.{geometry_at, metrics_at, transform_at}
use Rattle.call_numbers.specs.Inputs.{input_numbers, input_at}
use Rattle.call_numbers.specs.Panels.{panel_numbers, panel_at, descriptor_at}
use Rattle.call_numbers.specs.Reads.{read_numbers, read_at}
use Rattle.call_numbers.specs.Shortcuts.{shortcut_numbers, shortcut_at}
use Rattle.call_numbers.proofs.EventLaws.{event_back, router_back}
use Rattle.call_numbers.proofs.FieldLaws.{handle_back, optional_back, pointer_back, maybe_back, transform_back, point_back, geometry_back, metrics_back}

descriptor_back : (d : SurfaceDescriptor) → FitsDescriptor d → descriptor_at (pad 32 0 (panel_numbers (panel.AttachSurface d))) ≡ d
unfolding panel_numbers descriptor_at geometry_at transform_at
descriptor_back d f = λ i. record {
  view = handle_back d.view f.view i;
  kind = surface_kind_back d.kind i;
  z_order = signed_back _ f.z_order i;
  input = policy_back d.input i;
  accepts_text = flag_back d.accepts_text i;
  geometry = geometry_back d.geometry f.geometry i;
}

panel_back : (c : PanelCall) → FitsPanel c → call_at (pad 32 0 (panel_numbers c)) ≡ call.Panel c
unfolding call_at panel_at panel_numbers metrics_at geometry_at transform_at
panel_back panel.CreateWindow f = refl
panel_back (panel.CloseWindow h) f = λ i. call.Panel (panel.CloseWindow (handle_back h f i))
panel_back (panel.CreateView h) f = λ i. call.Panel (panel.CreateView (handle_back h f i))
panel_back (panel.UpdateViewMetrics a) f = λ i. call.Panel (panel.UpdateViewMetrics (record { view = handle_back a.view f.0 i; update = metrics_back a.update f.1 i; revision = a.revision }))
panel_back (panel.CloseView h) f = λ i. call.Panel (panel.CloseView (handle_back h f i))
panel_back (panel.AttachSurface d) f = λ i. call.Panel (panel.AttachSurface (descriptor_back d f i))
panel_back (panel.UpdateSurfaceGeometry a) f =
    λ i. call.Panel (panel.UpdateSurfaceGeometry (record { surface = handle_back a.surface f.0 i; geometry = geometry_back a.geometry f.1 i; revision = a.revision }))
panel_back (panel.UpdateSurfaceInputPolicy a) f = λ i. call.Panel (panel.UpdateSurfaceInputPolicy (record { surface = handle_back a.surface f i; input = policy_back a.input i; revision = a.revision }))

input_back : (c : InputCall) → FitsInput c → call_at (pad 32 0 (input_numbers c)) ≡ call.Input c
unfolding call_at input_at input_numbers
input_back (input.SetFocus a) f = λ i. call.Input (input.SetFocus (record { view = handle_back a.view f.0 i; surface = optional_back a.surface f.1 i; revision = a.revision }))
input_back (input.CapturePointer a) f = λ i. call.Input (input.CapturePointer (record { handle = handle_back a.handle f i; revision = a.revision }))
input_back (input.CapturePointerFor a) f =
    λ i. call.Input (input.CapturePointerFor (record { pointer = pointer_back a.pointer f.0 i; surface = handle_back a.surface f.1 i; revision = a.revision }))
input_back (input.ReleasePointer a) f = λ i. call.Input (input.ReleasePointer (record { handle = handle_back a.handle f i; revision = a.revision }))
input_back (input.ReleasePointerFor a) f =
    λ i. call.Input (input.ReleasePointerFor (record { pointer = pointer_back a.pointer f.0 i; surface = handle_back a.surface f.1 i; revision = a.revision }))
input_back (input.BeginIme a) f = λ i. call.Input (input.BeginIme (record { handle = handle_back a.handle f i; revision = a.revision }))
input_back (input.EndIme a) f = λ i. call.Input (input.EndIme (record { handle = handle_back a.handle f i; revision = a.revision }))
input_back (input.SuspendViewInput a) f = λ i. call.Input (input.SuspendViewInput (record { handle = handle_back a.handle f i; revision = a.revision }))

shortcut_back : (c : ShortcutCall) → FitsShortcut c → call_at (pad 32 0 (shortcut_numbers c)) ≡ call.Shortcut c
unfolding call_at shortcut_at shortcut_numbers
shortcut_back (shortcut.RegisterSet a) f = λ i. call.Shortcut (shortcut.RegisterSet (record { handle = handle_back a.handle f i; revision = a.revision }))
shortcut_back (shortcut.RegisterOne a) f =
    λ i. call.Shortcut (shortcut.RegisterOne (record { surface = handle_back a.surface f.0 i; registration = maybe_back a.registration f.1 i; revision = a.revision }))
shortcut_back (shortcut.SetMask a) f = λ i. call.Shortcut (shortcut.SetMask (record { surface = handle_back a.surface f i; class_mask = a.class_mask; revision = a.revision }))

read_back : (c : ReadCall) → FitsRead c → call_at (pad 32 0 (read_numbers c)) ≡ call.Read c
unfolding call_at read_at read_numbers transform_at
read_back (read.ViewWindow h) f = λ i. call.Read (read.ViewWindow (handle_back h f i))
read_back (read.ViewMetrics h) f = λ i. call.Read (read.ViewMetrics (handle_back h f i))
read_back (read.ViewInputState h) f = λ i. call.Read (read.ViewInputState (handle_back h f i))
read_back (read.ViewPointerCaptures h) f = λ i. call.Read (read.ViewPointerCaptures (handle_back h f i))
read_back (read.SurfaceDescriptor h) f = λ i. call.Read (read.SurfaceDescriptor (handle_back h f i))
read_back (read.ViewLayers h) f = λ i. call.Read (read.ViewLayers (handle_back h f i))
read_back read.Traces f = refl
read_back read.Counts f = refl
read_back read.ActiveBindingCount f = refl
read_back (read.HitTestStack a) f = λ i. call.Read (read.HitTestStack (record { view = handle_back a.view f.0 i; point = point_back a.point f.1 i; length = a.length }))
read_back (read.InversePoint a) f = λ i. call.Read (read.InversePoint (record { transform = transform_back a.transform f.0 i; point = point_back a.point f.1 i }))

back : (c : Call) → FitsCall c → call_at (pad 32 0 (call_numbers c)) ≡ c
unfolding call_at call_numbers
back (call.Panel c) f = panel_back c f
back (call.Input c) f = input_back c f
back (call.ReleaseDevice a) f = λ i. call.ReleaseDevice (record { device = a.device; device_generation = within_back 4294967296 _ f i })
back (call.Shortcut c) f = shortcut_back c f
back (call.Arbitrate a) f = λ i. call.Arbitrate (record { view = handle_back a.view f.0 i; event = event_back a.view a.event f.1 i })
back (call.Close (close.CloseSurface h)) f = λ i. call.Close (close.CloseSurface (handle_back h f i))
back (call.Close close.Shutdown) f = refl
back (call.Router c) f = router_back c f
back (call.Read c) f = read_back c f

pub call_number_claims : CallNumberClaims
call_number_claims = record { back = back; one = λ c d f g e. sym (back c f) ∙ ap (λ l. call_at (pad 32 0 l)) e ∙ back d g }
