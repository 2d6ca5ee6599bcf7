-- The open presses of a router (RULES.md, Presses), by kind and key.
use Rattle.std.specs.Prelude.{Option, option_map}
use Rattle.handles.specs.Handles.{handle_of}
use Rattle.handles.specs.declared.GenerationalHandle.{GenerationalHandle}
use Rattle.lists.specs.Tables.{Shape}
use Rattle.maps.specs.declared.keys.MapKey.{MapKey}
use Rattle.maps.specs.declared.keys.BindingKey.TheVariants.{Pointer}
use Rattle.maps.specs.declared.bindings.Binding.{Binding}
use Rattle.maps.specs.declared.sorted_map.SortedMap.{SortedMap}
use Rattle.maps.specs.Keys.{binding_key}
use Rattle.maps.specs.MapTables.{map_table, insertion}

-- what stands in an unused place
abbrev pub no_binding : Binding
no_binding =
    record { key = Pointer (record { device = 0; device_generation = 0; contact = 0 }); surface = handle_of 0 0 }

-- RULES.md, Start: at most 128 bindings
abbrev pub Bindings : Type 0
Bindings = SortedMap Binding 128

abbrev pub bindings : Shape Binding Bindings
bindings = map_table 128 no_binding

abbrev pub key_of_binding : Binding → MapKey
key_of_binding e = binding_key e.key

-- the panel of an entry that was found
abbrev pub surface_of : Option Binding → Option GenerationalHandle
surface_of = option_map (λ e. e.surface)

-- the map with the entry where it is accepted, and else none
abbrev pub insertion_of : Binding → Bindings → Option Bindings
insertion_of = insertion bindings key_of_binding
