-- The router: the open presses as memory, all else as it is.
use Rattle.input_router.specs.declared.router.PlatformInputRouter.{PlatformInputRouter}
use Rattle.counter_memory.specs.declared.router.RouterMemory.{RouterMemory}
use Rattle.counter_memory.specs.Bindings.{bindings_memory, bindings_of}

unfoldable pub router_memory : PlatformInputRouter → RouterMemory
router_memory r =
    record {
      max_active_bindings = r.max_active_bindings;
      last_timestamp_micros = r.last_timestamp_micros;
      device_sequences = record { entries = r.device_sequences.table.items; len = r.device_sequences.table.len };
      bindings = bindings_memory r.bindings;
    }

unfoldable pub router_of : RouterMemory → PlatformInputRouter
router_of m =
    record {
      max_active_bindings = m.max_active_bindings;
      last_timestamp_micros = m.last_timestamp_micros;
      device_sequences = record { table = record { items = m.device_sequences.entries; len = m.device_sequences.len } };
      bindings = bindings_of m.bindings;
    }
