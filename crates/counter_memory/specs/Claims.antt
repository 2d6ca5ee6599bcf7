-- What holds of a counter as memory beyond the answers of the two functions.
use Rattle.std.specs.Prelude.{◌≡◌, false, Err}
use Rattle.records.specs.declared.error.CompositionError.TheVariants.{Damaged}
use Rattle.composition_state.specs.Damage.{damage_refusal}
use Rattle.input_router.specs.Damage.{is_router_sound}
use Rattle.counter.specs.declared.step.Counter.{Counter}
use Rattle.counter_memory.specs.declared.memory.CounterMemory.{CounterMemory}
use Rattle.counter_memory.specs.Memory.{memory_of, counter_of}

pub record MemoryClaims : Type 0 where
  -- the memory of a counter is read as that counter
  pub read_back : (c : Counter) → counter_of (memory_of c) ≡ c
  -- so different counters have different memory
  pub one_counter : (a b : Counter) → memory_of a ≡ memory_of b → a ≡ b
  -- memory with a limit of 0, as memory of zeros has, is read as a registry and a router that the damage tests reject
  -- (42)
  pub registry_not_started : (m : CounterMemory) → m.registry.limits.max_windows ≡ 0
      → damage_refusal (counter_of m).registry ≡ Err Damaged
  pub router_not_started : (m : CounterMemory) → m.router.max_active_bindings ≡ 0
      → is_router_sound (counter_of m).router ≡ false
