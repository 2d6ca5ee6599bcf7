-- The last sequence number of each known device, by device.
use Rattle.std.specs.Prelude.{ℕ, Option, option_map}
use Rattle.lists.specs.Tables.{Shape}
use Rattle.maps.specs.declared.keys.MapKey.{MapKey}
use Rattle.maps.specs.declared.sequences.DeviceSequence.{DeviceSequence}
use Rattle.maps.specs.declared.sorted_map.SortedMap.{SortedMap}
use Rattle.maps.specs.Keys.{device_key}
use Rattle.maps.specs.MapTables.{map_table, insertion}

-- what stands in an unused place
abbrev pub no_sequence : DeviceSequence
no_sequence = record { device = record { value = 0; generation = 0 }; sequence = 0 }

-- RULES.md, Port limits: 32 known devices
abbrev pub DeviceSequences : Type 0
DeviceSequences = SortedMap DeviceSequence 32

abbrev pub sequences : Shape DeviceSequence DeviceSequences
sequences = map_table 32 no_sequence

abbrev pub sequence_key : DeviceSequence → MapKey
sequence_key e = device_key e.device

-- the sequence number of an entry that was found
abbrev pub sequence_of : Option DeviceSequence → Option ℕ
sequence_of = option_map (λ e. e.sequence)

-- the map with the entry where it is accepted, and else none
abbrev pub insertion_of : DeviceSequence → DeviceSequences → Option DeviceSequences
insertion_of = insertion sequences sequence_key
