-- RULES.md, Release order: what a call concerns, what it has to list of that, and in which order, read from the book
-- before it.
use Rattle.std.specs.Prelude.{Bool, true, false, not, cond, ◌&&◌, ◌||◌, List, [], ◌∷◌, ◌++◌, map}
use Rattle.lists.specs.Lists.{keep, all}
use Rattle.handles.specs.declared.GenerationalHandle.{GenerationalHandle}
use Rattle.maps.specs.declared.bindings.Binding.{Binding}
use Rattle.maps.specs.declared.keys.BindingKey.TheVariants as press
use Rattle.maps.specs.declared.keys.InputDeviceId.{InputDeviceId}
use Rattle.input_events.specs.declared.event.PlatformInputPayload.{PlatformInputPayload}
use Rattle.input_events.specs.declared.event.PlatformInputPayload.TheVariants as payload
use Rattle.calls.specs.declared.call.Call.{Call}
use Rattle.calls.specs.declared.call.Call.TheVariants.{Panel, Input, ReleaseDevice, Shortcut, Arbitrate, Close, Router, Read}
use Rattle.calls.specs.declared.call.RouterCall.{RouterCall}
use Rattle.calls.specs.declared.call.RouterCall.TheVariants as router
use Rattle.book.specs.Ids.{is_same_handle, handle_before, is_same_press}
use Rattle.book.specs.Book.{Asked, Told, is_refused, Held, Book, with_presses, without_captures, is_held_by_device, is_held_in_view, is_of_device, is_on_panel, is_in_view, without_presses}

-- ---- "Listed are the presses of that device id .., of the view's panels (both on an accepted routed event), of the
-- panel, or all."
pub data Concern : Type 0 where
  nothing : Concern
  device : InputDeviceId → Concern
  view : GenerationalHandle → Concern
  panel : GenerationalHandle → Concern
  everything : Concern

-- "a view's loss (of focus or visibility)": the gain concerns nothing
abbrev pub sight_concern : Bool → GenerationalHandle → Concern
sight_concern true v = nothing
sight_concern false v = view v

-- "other routed events list none"
unfoldable pub payload_concern : PlatformInputPayload → InputDeviceId → GenerationalHandle → Concern
payload_concern (payload.Pointer p) d v = nothing
payload_concern (payload.Wheel w) d v = nothing
payload_concern (payload.Key k) d v = nothing
payload_concern (payload.Shortcut s) d v = nothing
payload_concern (payload.Text t) d v = nothing
payload_concern (payload.Composition c) d v = nothing
payload_concern (payload.GamepadSnapshot g) d v = nothing
payload_concern (payload.FocusChanged focused) d v = sight_concern focused v
payload_concern (payload.VisibilityChanged visible) d v = sight_concern visible v
payload_concern payload.DeviceDisconnected d v = device d

unfoldable pub router_concern : RouterCall → Concern
router_concern (router.Route e) = payload_concern e.payload e.header.device e.header.view
router_concern (router.ReleaseSurface h) = panel h
router_concern router.ReleaseAll = everything

unfoldable pub concern : Call → Concern
concern (Panel call) = nothing
concern (Input call) = nothing
concern (ReleaseDevice x) = nothing
concern (Shortcut call) = nothing
concern (Arbitrate x) = nothing
concern (Close call) = nothing
concern (Router call) = router_concern call
concern (Read call) = nothing

-- ---- one release and another
-- the same press
abbrev pub is_same_press_of : Binding → Binding → Bool
is_same_press_of x y = is_same_press x.key y.key

-- the same press on the same panel
abbrev pub is_same_release : Binding → Binding → Bool
is_same_release x y = is_same_press_of x y && is_same_handle x.surface y.surface

unfoldable pub is_among : Binding → List Binding → Bool
is_among x [] = false
is_among x (y ∷ l) = is_same_release x y || is_among x l

-- no two of a list are the same, by a test
unfoldable pub none_twice : (Binding → Binding → Bool) → List Binding → Bool
none_twice same [] = true
none_twice same (x ∷ l) = all (λ y. not (same x y)) l && none_twice same l

-- ---- "`release_all` does this panel by panel, by handle"
-- a panel in its place among panels by handle, each once
unfoldable pub panel_put : GenerationalHandle → List GenerationalHandle → List GenerationalHandle
panel_put h l = keep (λ p. handle_before p h) l ++ (h ∷ keep (λ p. handle_before h p) l)

-- the panels that have a press, by handle, each once
unfoldable pub panels_of : List Binding → List GenerationalHandle
panels_of [] = []
panels_of (x ∷ l) = panel_put x.surface (panels_of l)

unfoldable pub panel_by_panel : List GenerationalHandle → List Binding → List Binding
panel_by_panel [] l = []
panel_by_panel (h ∷ hs) l = keep (is_on_panel h) l ++ panel_by_panel hs l

-- ---- what is listed: the presses in the book's order, but for `release_all`
unfoldable pub concerned_presses : Concern → Book → List Binding
concerned_presses nothing b = []
concerned_presses (device d) b = keep (is_of_device d) b.presses
concerned_presses (view v) b = keep (is_in_view b.homes v) b.presses
concerned_presses (panel h) b = keep (is_on_panel h) b.presses
concerned_presses everything b = panel_by_panel (panels_of b.presses) b.presses

-- "for a device or a view only, its captures"; `release_all` goes "without captures"
unfoldable pub concerned_captures : Concern → Book → List Held
concerned_captures nothing b = []
concerned_captures (device d) b = keep (is_held_by_device d) b.captures
concerned_captures (view v) b = keep (is_held_in_view v) b.captures
concerned_captures (panel h) b = []
concerned_captures everything b = []

-- a capture is listed as its pointer's cancel
abbrev pub cancel_of : Held → Binding
cancel_of x = record { key = press.Pointer x.capture.pointer; surface = x.capture.surface }

-- "then .. its captures .., leaving out a pair of pointer and panel already listed"
unfoldable pub then_captures : List Binding → List Held → List Binding
then_captures l captures = l ++ keep (λ x. all (λ y. not (is_same_release x y)) l) (map cancel_of captures)

-- of the list that is owed, the part that comes from the book's presses; a refused call lists nothing
unfoldable pub owed_presses : Asked → Told → Book → List Binding
owed_presses x a b = cond (is_refused a) [] (concerned_presses (concern x.call) b)

unfoldable pub owed_captures : Asked → Told → Book → List Held
owed_captures x a b = cond (is_refused a) [] (concerned_captures (concern x.call) b)

unfoldable pub owed : Asked → Told → Book → List Binding
owed x a b = then_captures (owed_presses x a b) (owed_captures x a b)

-- ---- "Being listed .. ends it too"; "a disconnect or a view's loss then drops its captures, listed or not"
unfoldable pub without_concerned : Concern → Book → Book
without_concerned nothing b = b
without_concerned (device d) b = without_captures (is_held_by_device d) (without_presses (is_of_device d) b)
without_concerned (view v) b = without_captures (is_held_in_view v) (without_presses (is_in_view b.homes v) b)
without_concerned (panel h) b = without_presses (is_on_panel h) b
without_concerned everything b = with_presses [] b
