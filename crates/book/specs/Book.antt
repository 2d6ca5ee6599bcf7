-- RULES.md, Book: "It keeps presses and captures with their panels, and panels' views; all start empty."
use Rattle.std.specs.Prelude.{ℕ, Bool, false, not, ◌&&◌, List, [], ◌∷◌, eqb, Option, None, Some}
use Rattle.lists.specs.Lists.{keep, first}
use Rattle.lists.specs.Maps.{insert, remove}
use Rattle.lists.specs.Orders.{lex_lt}
use Rattle.handles.specs.declared.GenerationalHandle.{GenerationalHandle}
use Rattle.maps.specs.declared.bindings.Binding.{Binding}
use Rattle.maps.specs.declared.captures.Capture.{Capture}
use Rattle.maps.specs.declared.keys.BindingKey.{BindingKey}
use Rattle.maps.specs.declared.keys.CompositionPointerId.{CompositionPointerId}
use Rattle.maps.specs.declared.keys.InputDeviceId.{InputDeviceId}
use Rattle.records.specs.declared.trace.InputDelivery.{InputDelivery}
use Rattle.calls.specs.declared.call.Call.{Call}
use Rattle.calls.specs.declared.call.Lists.{Lists}
use Rattle.book.specs.Ids.{is_same_handle, handle_before, is_same_device, pointer_device, press_device, is_same_pointer, pointer_before, is_same_press, press_before}

-- ---- what the book is fed
-- a call, with what was handed in beside it
pub record Asked : Type 0 where
  pub call : Call
  pub lists : Lists

-- "The book is fed arguments and answers (number, handle, consumer, deliveries), never releases or tables."
pub record Told : Type 0 where
  pub number : ℕ
  pub handle : Option GenerationalHandle
  pub consumer : Option GenerationalHandle
  pub deliveries : List InputDelivery

-- "0 is accepted": every other number is a refusal
abbrev pub is_refused : Told → Bool
is_refused a = not (eqb a.number 0)

-- ---- what it keeps
-- a capture in a view
pub record Held : Type 0 where
  pub view : GenerationalHandle
  pub capture : Capture

-- a panel and its view
pub record Home : Type 0 where
  pub surface : GenerationalHandle
  pub view : GenerationalHandle

pub record Book : Type 0 where
  -- the open presses, each with the panel that took it last: pointers, keys, gamepads
  pub presses : List Binding
  -- the captures, by view and pointer
  pub captures : List Held
  -- the panels that were attached, the last one first
  pub homes : List Home

abbrev pub empty_book : Book
empty_book = record { presses = []; captures = []; homes = [] }

abbrev pub with_presses : List Binding → Book → Book
with_presses l b = record { presses = l; captures = b.captures; homes = b.homes }

abbrev pub with_captures : List Held → Book → Book
with_captures l b = record { presses = b.presses; captures = l; homes = b.homes }

abbrev pub with_homes : List Home → Book → Book
with_homes l b = record { presses = b.presses; captures = b.captures; homes = l }

-- ---- panels' views
abbrev pub view_of_home : Option Home → Option GenerationalHandle
view_of_home None = None
view_of_home (Some x) = Some x.view

-- the view that a panel was attached to
unfoldable pub home_of : GenerationalHandle → List Home → Option GenerationalHandle
home_of h l = view_of_home (first (λ x. is_same_handle h x.surface) l)

abbrev pub is_view : GenerationalHandle → Option GenerationalHandle → Bool
is_view view None = false
is_view view (Some v) = is_same_handle view v

-- "Attach notes the view."
abbrev pub with_home : GenerationalHandle → GenerationalHandle → Book → Book
with_home h view b = with_homes (record { surface = h; view = view } ∷ b.homes) b

-- ---- captures
-- "captures by view slot and pointer"
abbrev pub held_place : Held → GenerationalHandle × CompositionPointerId
held_place x = (x.view, x.capture.pointer)

abbrev pub place_before : GenerationalHandle × CompositionPointerId → GenerationalHandle × CompositionPointerId → Bool
place_before = lex_lt is_same_handle handle_before pointer_before

abbrev pub capture_in : GenerationalHandle → CompositionPointerId → GenerationalHandle → Held
capture_in view p h = record { view = view; capture = record { pointer = p; surface = h } }

-- captures of a device, of a view, of a panel, and of a panel's pointer
abbrev pub is_held_by_device : InputDeviceId → Held → Bool
is_held_by_device d x = is_same_device (pointer_device x.capture.pointer) d

abbrev pub is_held_in_view : GenerationalHandle → Held → Bool
is_held_in_view view x = is_same_handle view x.view

abbrev pub is_held_on_panel : GenerationalHandle → Held → Bool
is_held_on_panel h x = is_same_handle h x.capture.surface

abbrev pub is_held_both : CompositionPointerId → GenerationalHandle → Held → Bool
is_held_both p h x = is_same_pointer p x.capture.pointer && is_held_on_panel h x

-- "Capture gives the panel the pointer in the panel's view"; a panel without a view was never attached
abbrev pub with_capture_in : Option GenerationalHandle → CompositionPointerId → GenerationalHandle → Book → Book
with_capture_in None p h b = b
with_capture_in (Some view) p h b = with_captures (insert held_place place_before (capture_in view p h) b.captures) b

unfoldable pub with_capture : CompositionPointerId → GenerationalHandle → Book → Book
with_capture p h b = with_capture_in (home_of h b.homes) p h b

unfoldable pub without_captures : (Held → Bool) → Book → Book
without_captures p b = with_captures (keep (λ x. not (p x)) b.captures) b

-- ---- presses
abbrev pub key_of : Binding → BindingKey
key_of x = x.key

-- presses of a device id (value and generation), of a panel, of a view's panels
abbrev pub is_of_device : InputDeviceId → Binding → Bool
is_of_device d x = is_same_device (press_device x.key) d

abbrev pub is_on_panel : GenerationalHandle → Binding → Bool
is_on_panel h x = is_same_handle h x.surface

abbrev pub is_in_view : List Home → GenerationalHandle → Binding → Bool
is_in_view homes view x = is_view view (home_of x.surface homes)

-- "opens the press or moves it to the new receiver"
unfoldable pub with_press : BindingKey → GenerationalHandle → Book → Book
with_press key h b = with_presses (insert key_of press_before (record { key = key; surface = h }) b.presses) b

-- "ends it"
unfoldable pub without_press : BindingKey → Book → Book
without_press key b = with_presses (remove key_of is_same_press key b.presses) b

unfoldable pub without_presses : (Binding → Bool) → Book → Book
without_presses p b = with_presses (keep (λ x. not (p x)) b.presses) b
