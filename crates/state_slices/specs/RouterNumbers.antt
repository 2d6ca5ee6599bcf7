-- A router from the numbers of its block; its limit stands elsewhere and is handed in.
use Rattle.std.specs.Prelude.{ℕ, cond, List, get_or, eqb}
use Rattle.maps.specs.Bindings.{bindings, Bindings}
use Rattle.maps.specs.Sequences.{sequences, DeviceSequences}
use Rattle.maps.specs.declared.keys.BindingKey.{BindingKey}
use Rattle.maps.specs.declared.keys.BindingKey.TheVariants as key
use Rattle.maps.specs.declared.bindings.Binding.{Binding}
use Rattle.maps.specs.declared.sequences.DeviceSequence.{DeviceSequence}
use Rattle.input_router.specs.declared.router.PlatformInputRouter.{PlatformInputRouter}
use Rattle.call_fields.specs.Narrow.{within}
use Rattle.call_fields.specs.Groups.{handle_of, pointer_of, device_of}
use Rattle.slices.specs.Parts.{part, row_at, table_of}
use Rattle.state_slices.specs.Layout.{routers_start, router_size, sequences_start, sequences_size, presses_start, presses_size}

unfoldable pub sequence_from : List ℕ → DeviceSequence
sequence_from b = record { device = device_of (get_or b 0 0) (get_or b 1 0); sequence = get_or b 2 0 }

unfoldable pub sequences_from : List ℕ → DeviceSequences
sequences_from b = table_of sequences (row_at sequence_from 1 3 b) (get_or b 0 0)

-- kind 0 is a pointer, 1 a key, any other a gamepad
unfoldable pub key_from : ℕ → ℕ → ℕ → ℕ → BindingKey
key_from kind device generation code =
    cond (eqb kind 0) (key.Pointer (pointer_of device generation code))
    (cond (eqb kind 1)
    (key.Key (record { device = device_of device generation; physical_key = within 4294967296 code }))
    (key.Gamepad (device_of device generation)))

unfoldable pub press_from : List ℕ → Binding
press_from b = record {
  key = key_from (get_or b 0 0) (get_or b 1 0) (get_or b 2 0) (get_or b 3 0);
  surface = handle_of (get_or b 4 0) (get_or b 5 0);
}

unfoldable pub presses_from : List ℕ → Bindings
presses_from b = table_of bindings (row_at press_from 1 6 b) (get_or b 0 0)

unfoldable pub router_from : ℕ → List ℕ → PlatformInputRouter
router_from limit b = record {
  max_active_bindings = limit;
  last_timestamp_micros = get_or b 0 0;
  device_sequences = sequences_from (part b sequences_start sequences_size);
  bindings = presses_from (part b presses_start presses_size);
}

-- the one router: the total of presses is its limit
unfoldable pub first_router : List ℕ → PlatformInputRouter
first_router routers = router_from (get_or routers 1 0) (part routers routers_start router_size)
