-- The open presses, each with its key as the numbers of `MapKey`, and their table.
use Rattle.std.specs.Prelude.{cond, map, eqb}
use Rattle.maps.specs.declared.bindings.Binding.{Binding}
use Rattle.maps.specs.Bindings.{Bindings}
use Rattle.maps.specs.declared.keys.BindingKey.{BindingKey}
use Rattle.maps.specs.declared.keys.BindingKey.TheVariants.{Pointer, Key, Gamepad}
use Rattle.maps.specs.declared.keys.MapKey.{MapKey}
use Rattle.maps.specs.Keys.{binding_key}
use Rattle.counter_memory.specs.declared.bindings.BindingMemory.{BindingMemory}
use Rattle.counter_memory.specs.declared.bindings.BindingsMemory.{BindingsMemory}

-- the key of a kind's number; past the last kind it is the first, a pointer
abbrev pub key_of : MapKey → BindingKey
key_of k =
    cond (eqb k.kind 1) (Key
    (record { device = record { value = k.device; generation = k.generation }; physical_key = k.code }))
    (cond (eqb k.kind 2) (Gamepad (record { value = k.device; generation = k.generation }))
    (Pointer (record { device = k.device; device_generation = k.generation; contact = k.code })))

-- a press, with its key as numbers
abbrev pub binding_memory : Binding → BindingMemory
binding_memory b = record { key = binding_key b.key; surface = b.surface }

abbrev pub binding_of : BindingMemory → Binding
binding_of m = record { key = key_of m.key; surface = m.surface }

-- the table: every place, also past the count, and the count as it is
abbrev pub bindings_memory : Bindings → BindingsMemory
bindings_memory t = record { entries = map binding_memory t.table.items; len = t.table.len }

abbrev pub bindings_of : BindingsMemory → Bindings
bindings_of m = record { table = record { items = map binding_of m.entries; len = m.len } }
