-- RULES.md, Order of events: 32, 33, 41 (unseen device, table full), in this order; and what an event in order records.
use Rattle.std.specs.Prelude.{ℕ, Bool, true, false, not, cond, ◌||◌, ltb, leb, eqb, length, Option, None, Some}
use Rattle.std.specs.Result.{result_and}
use Rattle.records.specs.Errors.{refusal_if}
use Rattle.lists.specs.Tables.{entries_of}
use Rattle.maps.specs.Keys.{device_key}
use Rattle.maps.specs.MapTables.{found, inserted}
use Rattle.maps.specs.Sequences.{sequences, sequence_key, sequence_of}
use Rattle.maps.specs.declared.keys.InputDeviceId.{InputDeviceId}
use Rattle.maps.specs.declared.sequences.DeviceSequence.{DeviceSequence}
use Rattle.input_events.specs.RouterErrors.{RouterOutcome}
use Rattle.input_events.specs.declared.error.PlatformInputError.TheVariants.{InvalidSequence, InvalidTimestamp, PortLimit}
use Rattle.input_router.specs.declared.router.PlatformInputRouter.{PlatformInputRouter}
use Rattle.input_router.specs.Router.{with_sequences, with_timestamp}

-- the device's last sequence number
abbrev pub last_of : PlatformInputRouter → InputDeviceId → Option ℕ
last_of r device = sequence_of (found sequences sequence_key (device_key device) r.device_sequences)

-- a sequence number is not greater than the device's last
abbrev pub is_old : Option ℕ → ℕ → Bool
is_old None n = false
is_old (Some last) n = leb n last

-- a device with a last number is known; another has a place while fewer than 32 are
abbrev pub has_place_with : Option ℕ → ℕ → Bool
has_place_with None known = ltb known 32
has_place_with (Some last) known = true

-- 32, 33, 41, by the device's last number, how many devices are known, and the last time
abbrev pub order_with : Option ℕ → ℕ → ℕ → ℕ → ℕ → RouterOutcome
order_with last known since n time =
    result_and (refusal_if (eqb n 0 || is_old last n) InvalidSequence)
    (result_and (refusal_if (ltb time since) InvalidTimestamp)
    (refusal_if (not (has_place_with last known)) PortLimit))

-- how many devices are known
abbrev pub known_devices : PlatformInputRouter → ℕ
known_devices r = length (entries_of sequences r.device_sequences)

abbrev pub has_place : PlatformInputRouter → InputDeviceId → Bool
has_place r device = has_place_with (last_of r device) (known_devices r)

abbrev pub order_of : PlatformInputRouter → InputDeviceId → ℕ → ℕ → RouterOutcome
order_of r device n time = order_with (last_of r device) (known_devices r) r.last_timestamp_micros n time

abbrev pub sequence_entry : InputDeviceId → ℕ → DeviceSequence
sequence_entry device n = record { device = device; sequence = n }

-- the router with the sequence number and the time; as it came where the device has no place
abbrev pub recorded : PlatformInputRouter → InputDeviceId → ℕ → ℕ → PlatformInputRouter
recorded r device n time =
    cond (has_place r device)
    (with_timestamp time (with_sequences (inserted sequences sequence_key (sequence_entry device n) r.device_sequences)
    r))
    r
