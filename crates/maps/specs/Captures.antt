-- The captured pointers of a view, by pointer.
use Rattle.std.specs.Prelude.{Option, option_map}
use Rattle.handles.specs.Handles.{handle_of}
use Rattle.handles.specs.declared.GenerationalHandle.{GenerationalHandle}
use Rattle.lists.specs.Tables.{Shape}
use Rattle.maps.specs.declared.keys.MapKey.{MapKey}
use Rattle.maps.specs.declared.captures.Capture.{Capture}
use Rattle.maps.specs.declared.sorted_map.SortedMap.{SortedMap}
use Rattle.maps.specs.Keys.{pointer_key}
use Rattle.maps.specs.MapTables.{map_table, insertion}

-- what stands in an unused place
abbrev pub no_capture : Capture
no_capture = record { pointer = record { device = 0; device_generation = 0; contact = 0 }; surface = handle_of 0 0 }

-- RULES.md, Port limits: 32 captures a view
abbrev pub PointerCaptures : Type 0
PointerCaptures = SortedMap Capture 32

abbrev pub captures : Shape Capture PointerCaptures
captures = map_table 32 no_capture

abbrev pub capture_key : Capture → MapKey
capture_key e = pointer_key e.pointer

-- the panel of an entry that was found
abbrev pub surface_of : Option Capture → Option GenerationalHandle
surface_of = option_map (λ e. e.surface)

-- the map with the entry where it is accepted, and else none
abbrev pub insertion_of : Capture → PointerCaptures → Option PointerCaptures
insertion_of = insertion captures capture_key
