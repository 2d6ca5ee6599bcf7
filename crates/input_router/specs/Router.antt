-- The router: its start, and the router with one field changed.
use Rattle.std.specs.Prelude.{ℕ, cond, List, [], ltb, eqb, is_ok, Ok, Err}
use Rattle.lists.specs.Tables.{entries_of, packed}
use Rattle.maps.specs.Bindings.{bindings, Bindings}
use Rattle.maps.specs.Sequences.{sequences, DeviceSequences}
use Rattle.maps.specs.declared.bindings.Binding.{Binding}
use Rattle.input_router.specs.declared.router.PlatformInputRouter.{PlatformInputRouter}
use Rattle.input_router.specs.declared.router.RouterStart.{RouterStart}
use Rattle.input_events.specs.RouterErrors.{RouterOutcome}
use Rattle.input_events.specs.declared.error.PlatformInputError.TheVariants.{Capacity, PortLimit}

-- RULES.md, Start: over 128 bindings, 41; a limit of 0 is refused, 40, as in the Rust
abbrev pub start_outcome : ℕ → RouterOutcome
start_outcome limit = cond (eqb limit 0) (Err Capacity) (cond (ltb 128 limit) (Err PortLimit) (Ok tt))

-- no press, no known device, no time
abbrev pub empty_router : ℕ → PlatformInputRouter
empty_router limit =
    record {
      max_active_bindings = limit;
      last_timestamp_micros = 0;
      device_sequences = packed sequences [];
      bindings = packed bindings [];
    }

-- a refused start answers a router with limit 0, which every call refuses 42
abbrev pub started : ℕ → RouterStart
started limit =
    record { outcome = start_outcome limit; router = empty_router (cond (is_ok (start_outcome limit)) limit 0) }

-- the router with one field changed
abbrev pub with_bindings : Bindings → PlatformInputRouter → PlatformInputRouter
with_bindings b r =
    record {
      max_active_bindings = r.max_active_bindings;
      last_timestamp_micros = r.last_timestamp_micros;
      device_sequences = r.device_sequences;
      bindings = b;
    }

abbrev pub with_sequences : DeviceSequences → PlatformInputRouter → PlatformInputRouter
with_sequences s r =
    record {
      max_active_bindings = r.max_active_bindings;
      last_timestamp_micros = r.last_timestamp_micros;
      device_sequences = s;
      bindings = r.bindings;
    }

abbrev pub with_timestamp : ℕ → PlatformInputRouter → PlatformInputRouter
with_timestamp t r =
    record {
      max_active_bindings = r.max_active_bindings;
      last_timestamp_micros = t;
      device_sequences = r.device_sequences;
      bindings = r.bindings;
    }

-- the open presses, by kind and key: RULES.md, Release order
abbrev pub presses_of : PlatformInputRouter → List Binding
presses_of r = entries_of bindings r.bindings
