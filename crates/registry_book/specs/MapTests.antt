-- Captures as the registry's maps test and order them. That the book's own tests and order say the same is proved in
-- `history`.
use Rattle.std.specs.Prelude.{Bool, ◌&&◌, Option, None, Some}
use Rattle.lists.specs.Maps.{insert}
use Rattle.lists.specs.Orders.{lex_lt}
use Rattle.handles.specs.declared.GenerationalHandle.{GenerationalHandle}
use Rattle.handles.specs.Handles.{same_handle, handle_lt}
use Rattle.maps.specs.declared.keys.CompositionPointerId.{CompositionPointerId}
use Rattle.maps.specs.declared.keys.InputDeviceId.{InputDeviceId}
use Rattle.maps.specs.declared.keys.MapKey.{MapKey}
use Rattle.maps.specs.Captures.{capture_key}
use Rattle.maps.specs.Keys.{pointer_key, key_lt, key_same, device_same}
use Rattle.book.specs.Book.{Held, Book, with_captures, home_of, capture_in, is_held_on_panel}

-- a capture's place: its view, and its key in that view's map
abbrev pub map_place : Held → GenerationalHandle × MapKey
map_place x = (x.view, capture_key x.capture)

abbrev pub place_lt : GenerationalHandle × MapKey → GenerationalHandle × MapKey → Bool
place_lt = lex_lt same_handle handle_lt key_lt

-- captures of a device, and of a panel's pointer
abbrev pub is_of_map_device : InputDeviceId → Held → Bool
is_of_map_device d x = device_same (capture_key x.capture) d

abbrev pub is_map_entry : CompositionPointerId → GenerationalHandle → Held → Bool
is_map_entry p h x = key_same (pointer_key p) (capture_key x.capture) && is_held_on_panel h x

-- the panel gets the pointer in its own view. A panel that no attach has noted has no view, and nothing is kept: after
-- an accepted capture this is never met, since the captured panel is live and was attached in this list of calls
abbrev pub captured_in : Option GenerationalHandle → CompositionPointerId → GenerationalHandle → Book → Book
captured_in None p h b = b
captured_in (Some view) p h b = with_captures (insert map_place place_lt (capture_in view p h) b.captures) b

unfoldable pub captured : CompositionPointerId → GenerationalHandle → Book → Book
captured p h b = captured_in (home_of h b.homes) p h b
