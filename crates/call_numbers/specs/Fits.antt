-- What every value that a program can hold fulfils: its numbers fit their types.
use Rattle.records.specs.declared.shortcut.SurfaceShortcutRegistration.{SurfaceShortcutRegistration}
use Rattle.std.specs.Prelude.{ℕ, ◌<◌, Option, None, Some}
use Rattle.std.specs.Int.{w16, w32}
use Rattle.std.proofs.Common.{SFits}
use Rattle.handles.specs.declared.GenerationalHandle.{GenerationalHandle}
use Rattle.maps.specs.declared.keys.CompositionPointerId.{CompositionPointerId}
use Rattle.geometry.specs.declared.metrics.ViewInsets.{ViewInsets}
use Rattle.geometry.specs.declared.metrics.ViewMetricsUpdate.{ViewMetricsUpdate}
use Rattle.geometry.specs.declared.rect.SurfaceRect.{SurfaceRect}
use Rattle.geometry.specs.declared.surface.SurfaceGeometry.{SurfaceGeometry}
use Rattle.geometry.specs.declared.transform.Point.{Point}
use Rattle.geometry.specs.declared.transform.SurfaceTransform.{SurfaceTransform}
use Rattle.records.specs.declared.surface.SurfaceDescriptor.{SurfaceDescriptor}
use Rattle.records.specs.declared.trace.ArbitrationEvent.{ArbitrationEvent}
use Rattle.records.specs.declared.trace.ArbitrationEvent.TheVariants as event
use Rattle.input_events.specs.declared.event.PlatformInputHeader.{PlatformInputHeader}
use Rattle.input_events.specs.declared.event.PlatformInputPayload.{PlatformInputPayload}
use Rattle.input_events.specs.declared.event.PlatformInputPayload.TheVariants as payload
use Rattle.input_events.specs.declared.event.PointerInput.{PointerInput}
use Rattle.input_events.specs.declared.event.WheelInput.{WheelInput}
use Rattle.calls.specs.declared.call.Call.{Call}
use Rattle.calls.specs.declared.call.Call.TheVariants as call
use Rattle.calls.specs.declared.call.CloseCall.TheVariants as close
use Rattle.calls.specs.declared.call.InputCall.{InputCall}
use Rattle.calls.specs.declared.call.InputCall.TheVariants as input
use Rattle.calls.specs.declared.call.PanelCall.{PanelCall}
use Rattle.calls.specs.declared.call.PanelCall.TheVariants as panel
use Rattle.calls.specs.declared.call.ReadCall.{ReadCall}
use Rattle.calls.specs.declared.call.ReadCall.TheVariants as read
use Rattle.calls.specs.declared.call.RouterCall.{RouterCall}
use Rattle.calls.specs.declared.call.RouterCall.TheVariants as router
use Rattle.calls.specs.declared.call.ShortcutCall.{ShortcutCall}
use Rattle.calls.specs.declared.call.ShortcutCall.TheVariants as shortcut

abbrev pub Half : ℕ → Type 0
Half n = n < 4294967296

pub record FitsHandle (h : GenerationalHandle) : Type 0 where
  pub index : Half h.index
  pub generation : Half h.generation

abbrev pub FitsOptional : Option GenerationalHandle → Type 0
FitsOptional None = Unit {0}
FitsOptional (Some h) = FitsHandle h

pub record FitsPointer (p : CompositionPointerId) : Type 0 where
  pub generation : Half p.device_generation
  pub contact : Half p.contact

pub record FitsSides (r : SurfaceRect) : Type 0 where
  pub x : SFits w32 r.x_milli
  pub y : SFits w32 r.y_milli
  pub width : Half r.width_milli
  pub height : Half r.height_milli

abbrev pub FitsRect : Option SurfaceRect → Type 0
FitsRect None = Unit {0}
FitsRect (Some r) = FitsSides r

pub record FitsTransform (t : SurfaceTransform) : Type 0 where
  pub m11 : SFits w32 t.m11_q16
  pub m12 : SFits w32 t.m12_q16
  pub m21 : SFits w32 t.m21_q16
  pub m22 : SFits w32 t.m22_q16
  pub x : SFits w32 t.translate_x_milli
  pub y : SFits w32 t.translate_y_milli

pub record FitsPoint (p : Point) : Type 0 where
  pub x : SFits w32 p.x_milli
  pub y : SFits w32 p.y_milli

pub record FitsGeometry (g : SurfaceGeometry) : Type 0 where
  pub bounds : FitsRect g.bounds
  pub clip : FitsRect g.clip
  pub transform : FitsTransform g.transform
  pub opacity : g.opacity_q16 < 65536

pub record FitsInsets (i : ViewInsets) : Type 0 where
  pub top : Half i.top_milli
  pub right : Half i.right_milli
  pub bottom : Half i.bottom_milli
  pub left : Half i.left_milli

pub record FitsMetrics (u : ViewMetricsUpdate) : Type 0 where
  pub x : SFits w32 u.origin_x_milli
  pub y : SFits w32 u.origin_y_milli
  pub width : Half u.width_milli
  pub height : Half u.height_milli
  pub framebuffer_width : Half u.framebuffer_width
  pub framebuffer_height : Half u.framebuffer_height
  pub scale : Half u.scale_q16
  pub insets : FitsInsets u.safe_area

pub record FitsDescriptor (d : SurfaceDescriptor) : Type 0 where
  pub view : FitsHandle d.view
  pub z_order : SFits w32 d.z_order
  pub geometry : FitsGeometry d.geometry

abbrev pub FitsRegistration : Option SurfaceShortcutRegistration → Type 0
FitsRegistration None = Unit {0}
FitsRegistration (Some r) = SFits w16 r.priority

abbrev pub FitsButton : Option ℕ → Type 0
FitsButton None = Unit {0}
FitsButton (Some b) = b < 256

pub record FitsPointerInput (p : PointerInput) : Type 0 where
  pub contact : Half p.contact
  pub x : SFits w32 p.x_milli
  pub y : SFits w32 p.y_milli
  pub delta_x : SFits w32 p.delta_x_milli
  pub delta_y : SFits w32 p.delta_y_milli
  pub pressure : p.pressure_q15 < 65536
  pub tilt_x : SFits w16 p.tilt_x_degrees
  pub tilt_y : SFits w16 p.tilt_y_degrees
  pub buttons : Half p.buttons
  pub changed_button : FitsButton p.changed_button

pub record FitsWheel (p : WheelInput) : Type 0 where
  pub contact : Half p.contact
  pub x : SFits w32 p.x_milli
  pub y : SFits w32 p.y_milli
  pub delta_x : SFits w32 p.delta_x_milli
  pub delta_y : SFits w32 p.delta_y_milli

abbrev pub FitsPayload : PlatformInputPayload → Type 0
FitsPayload (payload.Pointer p) = FitsPointerInput p
FitsPayload (payload.Wheel p) = FitsWheel p
FitsPayload (payload.Key p) = Half p.physical_key
FitsPayload (payload.Shortcut p) = Unit {0}
FitsPayload (payload.Text p) = Half p.length
FitsPayload (payload.Composition p) = Half p.length × Half p.selection_start × Half p.selection_end
FitsPayload (payload.GamepadSnapshot p) = Unit {0}
FitsPayload (payload.FocusChanged f) = Unit {0}
FitsPayload (payload.VisibilityChanged f) = Unit {0}
FitsPayload payload.DeviceDisconnected = Unit {0}

pub record FitsHeader (h : PlatformInputHeader) : Type 0 where
  pub window : FitsHandle h.window
  pub view : FitsHandle h.view
  pub device : Half h.device.generation

abbrev pub FitsEvent : ArbitrationEvent → Type 0
FitsEvent (event.Pointer hit) = FitsOptional hit
FitsEvent event.PointerStack = Unit {0}
FitsEvent (event.PointerFor pointer hit) = FitsPointer pointer × FitsOptional hit
FitsEvent (event.PointerStackFor pointer) = FitsPointer pointer
FitsEvent event.Keyboard = Unit {0}
FitsEvent (event.KeyboardFor target) = FitsOptional target
FitsEvent event.Gamepad = Unit {0}
FitsEvent (event.GamepadFor target) = FitsOptional target
FitsEvent event.Text = Unit {0}
FitsEvent event.Shortcut = Unit {0}
FitsEvent (event.SystemShortcut mask) = Unit {0}

abbrev pub FitsPanel : PanelCall → Type 0
FitsPanel panel.CreateWindow = Unit {0}
FitsPanel (panel.CloseWindow h) = FitsHandle h
FitsPanel (panel.CreateView h) = FitsHandle h
FitsPanel (panel.UpdateViewMetrics a) = FitsHandle a.view × FitsMetrics a.update
FitsPanel (panel.CloseView h) = FitsHandle h
FitsPanel (panel.AttachSurface d) = FitsDescriptor d
FitsPanel (panel.UpdateSurfaceGeometry a) = FitsHandle a.surface × FitsGeometry a.geometry
FitsPanel (panel.UpdateSurfaceInputPolicy a) = FitsHandle a.surface

abbrev pub FitsInput : InputCall → Type 0
FitsInput (input.SetFocus a) = FitsHandle a.view × FitsOptional a.surface
FitsInput (input.CapturePointer a) = FitsHandle a.handle
FitsInput (input.CapturePointerFor a) = FitsPointer a.pointer × FitsHandle a.surface
FitsInput (input.ReleasePointer a) = FitsHandle a.handle
FitsInput (input.ReleasePointerFor a) = FitsPointer a.pointer × FitsHandle a.surface
FitsInput (input.BeginIme a) = FitsHandle a.handle
FitsInput (input.EndIme a) = FitsHandle a.handle
FitsInput (input.SuspendViewInput a) = FitsHandle a.handle

abbrev pub FitsShortcut : ShortcutCall → Type 0
FitsShortcut (shortcut.RegisterSet a) = FitsHandle a.handle
FitsShortcut (shortcut.RegisterOne a) = FitsHandle a.surface × FitsRegistration a.registration
FitsShortcut (shortcut.SetMask a) = FitsHandle a.surface

abbrev pub FitsRouter : RouterCall → Type 0
FitsRouter (router.Route e) = FitsHeader e.header × FitsPayload e.payload
FitsRouter (router.ReleaseSurface h) = FitsHandle h
FitsRouter router.ReleaseAll = Unit {0}

abbrev pub FitsRead : ReadCall → Type 0
FitsRead (read.ViewWindow h) = FitsHandle h
FitsRead (read.ViewMetrics h) = FitsHandle h
FitsRead (read.ViewInputState h) = FitsHandle h
FitsRead (read.ViewPointerCaptures h) = FitsHandle h
FitsRead (read.SurfaceDescriptor h) = FitsHandle h
FitsRead (read.ViewLayers h) = FitsHandle h
FitsRead read.Traces = Unit {0}
FitsRead read.Counts = Unit {0}
FitsRead read.ActiveBindingCount = Unit {0}
FitsRead (read.HitTestStack a) = FitsHandle a.view × FitsPoint a.point
FitsRead (read.InversePoint a) = FitsTransform a.transform × FitsPoint a.point

abbrev pub FitsCall : Call → Type 0
FitsCall (call.Panel c) = FitsPanel c
FitsCall (call.Input c) = FitsInput c
FitsCall (call.ReleaseDevice a) = Half a.device_generation
FitsCall (call.Shortcut c) = FitsShortcut c
FitsCall (call.Arbitrate a) = FitsHandle a.view × FitsEvent a.event
FitsCall (call.Close (close.CloseSurface h)) = FitsHandle h
FitsCall (call.Close close.Shutdown) = Unit {0}
FitsCall (call.Router c) = FitsRouter c
FitsCall (call.Read c) = FitsRead c
