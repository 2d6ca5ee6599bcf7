-- RULES.md, Presses and Book: what a call with its answer changes in the book.
use Rattle.std.specs.Prelude.{Bool, true, false, not, cond, List, Option, None, Some}
use Rattle.lists.specs.Lists.{first}
use Rattle.handles.specs.declared.GenerationalHandle.{GenerationalHandle}
use Rattle.maps.specs.declared.keys.BindingKey.{BindingKey}
use Rattle.maps.specs.declared.keys.BindingKey.TheVariants as press
use Rattle.maps.specs.declared.keys.CompositionPointerId.{CompositionPointerId}
use Rattle.maps.specs.declared.keys.InputDeviceId.{InputDeviceId}
use Rattle.records.specs.declared.trace.InputDelivery.{InputDelivery}
use Rattle.input_events.specs.declared.event.KeyPhase.{KeyPhase}
use Rattle.input_events.specs.declared.event.KeyPhase.TheVariants as K
use Rattle.input_events.specs.declared.event.PlatformInputPayload.{PlatformInputPayload}
use Rattle.input_events.specs.declared.event.PlatformInputPayload.TheVariants as payload
use Rattle.input_events.specs.declared.event.PointerPhase.{PointerPhase}
use Rattle.input_events.specs.declared.event.PointerPhase.TheVariants as P
use Rattle.calls.specs.declared.call.Call.{Call}
use Rattle.calls.specs.declared.call.Call.TheVariants.{Panel, Input, ReleaseDevice, Shortcut, Arbitrate, Close, Router, Read}
use Rattle.calls.specs.declared.call.CloseCall.{CloseCall}
use Rattle.calls.specs.declared.call.CloseCall.TheVariants as close
use Rattle.calls.specs.declared.call.InputCall.{InputCall}
use Rattle.calls.specs.declared.call.InputCall.TheVariants as input
use Rattle.calls.specs.declared.call.PanelCall.{PanelCall}
use Rattle.calls.specs.declared.call.PanelCall.TheVariants as panel
use Rattle.calls.specs.declared.call.RouterCall.{RouterCall}
use Rattle.calls.specs.declared.call.RouterCall.TheVariants as router
use Rattle.book.specs.Ids.{is_same_press}
use Rattle.book.specs.Book.{Asked, Told, is_refused, Book, with_home, with_capture, without_captures, is_held_by_device, is_held_in_view, is_held_on_panel, is_held_both, with_press, without_press}
use Rattle.book.specs.Owed.{concern, without_concerned}

-- ---- Presses: what an accepted event does to the press of its pointer, key or gamepad
pub data Change : Type 0 where
  -- the press is opened, or moved to the new receiver
  opens : BindingKey → GenerationalHandle → Change
  ends : BindingKey → Change
  leaves : Change

abbrev pub panel_of : Option InputDelivery → Option GenerationalHandle
panel_of None = None
panel_of (Some d) = Some d.surface

-- "The receiver is the consumer, else the first unobserved delivery."
abbrev pub receiver : Option GenerationalHandle → List InputDelivery → Option GenerationalHandle
receiver None l = panel_of (first (λ d. not d.observed) l)
receiver (Some h) l = Some h

-- "with a receiver opens the press or moves it .. Without a receiver an older press is unchanged."
abbrev pub opens_for : Option GenerationalHandle → BindingKey → Change
opens_for None key = leaves
opens_for (Some h) key = opens key h

-- "A pointer Down .. Up, Cancel .. ends it"
abbrev pub pointer_change : PointerPhase → BindingKey → Option GenerationalHandle → Change
pointer_change P.Down key to = opens_for to key
pointer_change P.Move key to = leaves
pointer_change P.Up key to = ends key
pointer_change P.Cancel key to = ends key

-- "a key Down without repeat"
abbrev pub key_change : KeyPhase → Bool → BindingKey → Option GenerationalHandle → Change
key_change K.Down true key to = leaves
key_change K.Down false key to = opens_for to key
key_change K.Up repeat key to = ends key

-- "a connected snapshot .. A disconnected snapshot is a gamepad's Up and not its device's disconnect."
abbrev pub snapshot_change : Bool → BindingKey → Option GenerationalHandle → Change
snapshot_change true key to = opens_for to key
snapshot_change false key to = ends key

unfoldable pub payload_change : PlatformInputPayload → InputDeviceId → Option GenerationalHandle → Change
payload_change (payload.Pointer p) d to =
    pointer_change p.phase (press.Pointer (record {
      device =
          d.value;
      device_generation = d.generation;
      contact = p.contact;
    })) to
payload_change (payload.Wheel w) d to = leaves
payload_change (payload.Key k) d to =
    key_change k.phase k.repeat (press.Key (record { device = d; physical_key = k.physical_key })) to
payload_change (payload.Shortcut s) d to = leaves
payload_change (payload.Text t) d to = leaves
payload_change (payload.Composition c) d to = leaves
payload_change (payload.GamepadSnapshot g) d to = snapshot_change g.connected (press.Gamepad d) to
payload_change (payload.FocusChanged focused) d to = leaves
payload_change (payload.VisibilityChanged visible) d to = leaves
payload_change payload.DeviceDisconnected d to = leaves

unfoldable pub router_change : RouterCall → Told → Change
router_change (router.Route e) a =
    payload_change e.payload e.header.device (receiver a.consumer a.deliveries)
router_change (router.ReleaseSurface h) a = leaves
router_change router.ReleaseAll a = leaves

unfoldable pub change : Call → Told → Change
change (Panel call) a = leaves
change (Input call) a = leaves
change (ReleaseDevice x) a = leaves
change (Shortcut call) a = leaves
change (Arbitrate x) a = leaves
change (Close call) a = leaves
change (Router call) a = router_change call a
change (Read call) a = leaves

unfoldable pub changed : Change → Book → Book
changed (opens key h) b = with_press key h b
changed (ends key) b = without_press key b
changed leaves b = b

-- the press of a key is the one that is opened, moved or ended
abbrev pub is_changed : Change → BindingKey → Bool
is_changed (opens key h) k = is_same_press key k
is_changed (ends key) k = is_same_press key k
is_changed leaves k = false

-- whether a call with its answer opens, moves or ends the press of a key; a refused one does not
unfoldable pub changes : Asked → Told → BindingKey → Bool
changes x a k = cond (is_refused a) false (is_changed (change x.call a) k)

-- ---- Book: captures and panels' views
-- "Attach notes the view."
abbrev pub noted_attach : Option GenerationalHandle → GenerationalHandle → Book → Book
noted_attach None view b = b
noted_attach (Some h) view b = with_home h view b

unfoldable pub noted_panel : PanelCall → Option GenerationalHandle → Book → Book
noted_panel panel.CreateWindow made b = b
noted_panel (panel.CloseWindow window) made b = b
noted_panel (panel.CreateView window) made b = b
noted_panel (panel.UpdateViewMetrics a) made b = b
noted_panel (panel.CloseView view) made b = b
noted_panel (panel.AttachSurface d) made b = noted_attach made d.view b
noted_panel (panel.UpdateSurfaceGeometry a) made b = b
noted_panel (panel.UpdateSurfaceInputPolicy a) made b = b

-- PRIMARY, the pointer of a capture or release that names none: device 1, generation 1, contact 0
abbrev pub primary_pointer : CompositionPointerId
primary_pointer = record { device = 1; device_generation = 1; contact = 0 }

-- "Capture gives the panel the pointer in the panel's view; release of a pointer drops it if that panel has it; ..
-- suspend .. drop the captures of the .. view"
unfoldable pub noted_input : InputCall → Book → Book
noted_input (input.SetFocus a) b = b
noted_input (input.CapturePointer a) b = with_capture primary_pointer a.handle b
noted_input (input.CapturePointerFor a) b = with_capture a.pointer a.surface b
noted_input (input.ReleasePointer a) b = without_captures (is_held_both primary_pointer a.handle) b
noted_input (input.ReleasePointerFor a) b = without_captures (is_held_both a.pointer a.surface) b
noted_input (input.BeginIme a) b = b
noted_input (input.EndIme a) b = b
noted_input (input.SuspendViewInput a) b = without_captures (is_held_in_view a.handle) b

-- "a panel's close drop the captures of the .. panel"
unfoldable pub noted_close : CloseCall → Book → Book
noted_close (close.CloseSurface h) b = without_captures (is_held_on_panel h) b
noted_close close.Shutdown b = b

-- "device captures .. drop the captures of the device"; calls that are not named change nothing
unfoldable pub registered : Call → Told → Book → Book
registered (Panel call) a b = noted_panel call a.handle b
registered (Input call) a b = noted_input call b
registered (ReleaseDevice x) a b =
    without_captures (is_held_by_device (record { value = x.device; generation = x.device_generation })) b
registered (Shortcut call) a b = b
registered (Arbitrate x) a b = b
registered (Close call) a b = noted_close call b
registered (Router call) a b = b
registered (Read call) a b = b

-- ---- a call with its answer: what it registers, the press that it changes, and what it concerns, which is listed and
-- so ends
unfoldable pub noted : Asked → Told → Book → Book
noted x a b = without_concerned (concern x.call) (changed (change x.call a) (registered x.call a b))

-- "Refused calls .. change nothing."
unfoldable pub note : Asked → Told → Book → Book
note x a b = cond (is_refused a) b (noted x a b)
