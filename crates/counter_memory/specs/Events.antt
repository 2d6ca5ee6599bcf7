-- The event of a trace: the number of its kind, in the Rust's declared order, and what a kind can have.
use Rattle.handles.specs.declared.GenerationalHandle.{GenerationalHandle}
use Rattle.std.specs.Prelude.{ℕ, List, [], ◌∷◌, get_or, Option, None}
use Rattle.maps.specs.declared.keys.CompositionPointerId.{CompositionPointerId}
use Rattle.records.specs.declared.trace.ArbitrationEvent.{ArbitrationEvent}
use Rattle.records.specs.declared.trace.ArbitrationEvent.TheVariants.{Pointer, PointerStack, PointerFor, PointerStackFor, Keyboard, KeyboardFor, Gamepad, GamepadFor, Text, Shortcut, SystemShortcut}
use Rattle.counter_memory.specs.declared.events.ArbitrationEventMemory.{ArbitrationEventMemory}
use Rattle.counter_memory.specs.Optionals.{optional_handle_memory, optional_handle_of}

-- the pointer of a kind that has none
abbrev pub no_pointer : CompositionPointerId
no_pointer = record { device = 0; device_generation = 0; contact = 0 }

-- a kind's number, with a pointer, a target and a class mask
abbrev pub event_with : ℕ → CompositionPointerId → Option GenerationalHandle → ℕ → ArbitrationEventMemory
event_with kind pointer target mask =
    record { pointer = pointer; class_mask = mask; target = optional_handle_memory target; kind = kind }

-- what a kind has not is 0
abbrev pub event_memory : ArbitrationEvent → ArbitrationEventMemory
event_memory (Pointer hit) = event_with 0 no_pointer hit 0
event_memory PointerStack = event_with 1 no_pointer None 0
event_memory (PointerFor pointer hit) = event_with 2 pointer hit 0
event_memory (PointerStackFor pointer) = event_with 3 pointer None 0
event_memory Keyboard = event_with 4 no_pointer None 0
event_memory (KeyboardFor target) = event_with 5 no_pointer target 0
event_memory Gamepad = event_with 6 no_pointer None 0
event_memory (GamepadFor target) = event_with 7 no_pointer target 0
event_memory Text = event_with 8 no_pointer None 0
event_memory Shortcut = event_with 9 no_pointer None 0
event_memory (SystemShortcut mask) = event_with 10 no_pointer None mask

-- the event of each kind, in declared order
abbrev pub events : CompositionPointerId → Option GenerationalHandle → ℕ → List ArbitrationEvent
events pointer target mask =
    Pointer target ∷ PointerStack ∷ PointerFor pointer target ∷ PointerStackFor pointer ∷ Keyboard ∷ KeyboardFor target
    ∷ Gamepad ∷ GamepadFor target ∷ Text ∷ Shortcut ∷ SystemShortcut mask ∷ []

-- the event of a kind's number; past the last kind it is the first
abbrev pub event_from : ℕ → CompositionPointerId → Option GenerationalHandle → ℕ → ArbitrationEvent
event_from kind pointer target mask = get_or (events pointer target mask) kind (Pointer target)

-- what a kind has not is not read
abbrev pub event_of : ArbitrationEventMemory → ArbitrationEvent
event_of m = event_from m.kind m.pointer (optional_handle_of m.target) m.class_mask
