-- Open presses as numbers, kind by kind, and the known devices.
use Rattle.std.specs.Prelude.{ℕ, Bool, List, [], ◌∷◌, ◌++◌, eqb}
use Rattle.lists.specs.Lists.{keep}
use Rattle.lists.specs.Tables.{entries_of}
use Rattle.maps.specs.Bindings.{bindings, key_of_binding, Bindings}
use Rattle.maps.specs.declared.bindings.Binding.{Binding}
use Rattle.maps.specs.declared.keys.BindingKey.{BindingKey}
use Rattle.maps.specs.declared.keys.BindingKey.TheVariants.{Pointer, Key, Gamepad}
use Rattle.maps.specs.declared.keys.DeviceKey.{DeviceKey}
use Rattle.maps.specs.declared.keys.InputDeviceId.{InputDeviceId}
use Rattle.maps.specs.Sequences.{sequences, DeviceSequences}
use Rattle.maps.specs.declared.sequences.DeviceSequence.{DeviceSequence}
use Rattle.answer_numbers.specs.Groups.{handle_numbers, pointer_numbers}
use Rattle.answer_numbers.specs.Numbers.{Number, plain, list_numbers}

-- a device: device, generation
abbrev pub device_numbers : InputDeviceId → List Number
device_numbers d = plain d.value ∷ plain d.generation ∷ []

-- a key of a device: device, generation, key
abbrev pub device_key_numbers : DeviceKey → List Number
device_key_numbers k = device_numbers k.device ++ (plain k.physical_key ∷ [])

-- a pointer: K; a key: device, generation, key; a gamepad: device, generation
abbrev pub key_numbers : BindingKey → List Number
key_numbers (Pointer p) = pointer_numbers p
key_numbers (Key k) = device_key_numbers k
key_numbers (Gamepad d) = device_numbers d

-- a press: its key, and H of its panel
abbrev pub press_numbers : Binding → List Number
press_numbers e = key_numbers e.key ++ handle_numbers e.surface

-- whether a press is of a kind: pointers are 0, keys 1, gamepads 2
abbrev pub is_of_kind : ℕ → Binding → Bool
is_of_kind kind e = eqb (key_of_binding e).kind kind

-- the presses of a kind by rising key: how many, and each
abbrev pub presses_numbers : ℕ → Bindings → List Number
presses_numbers kind t = list_numbers press_numbers (keep (is_of_kind kind) (entries_of bindings t))

-- a known device: device, generation, sequence
abbrev pub sequence_numbers : DeviceSequence → List Number
sequence_numbers e = device_numbers e.device ++ (plain e.sequence ∷ [])

-- the known devices by rising key: how many, and each
abbrev pub sequences_numbers : DeviceSequences → List Number
sequences_numbers t = list_numbers sequence_numbers (entries_of sequences t)
