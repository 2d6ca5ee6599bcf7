-- The claims about a counter as memory: reading back part by part, and the first test of each damage test.
use Rattle.std.specs.Prelude.{Err}
use mathlib.Core.Path.{◌≡◌, sym, ap, ◌∙◌}
use mathlib.Core.Bool.{false}
use Rattle.records.specs.declared.error.CompositionError.TheVariants.{Damaged}
use Rattle.composition_state.specs.Damage.{damage_refusal, is_sound}
use Rattle.input_router.specs.Damage.{is_router_sound}
use Rattle.counter.specs.declared.step.Counter.{Counter}
use Rattle.counter_memory.specs.declared.memory.CounterMemory.{CounterMemory}
use Rattle.counter_memory.specs.Claims.{MemoryClaims}
use Rattle.counter_memory.specs.Memory.{memory_of, counter_of}
use Rattle.counter_memory.specs.Registry.{registry_of}
use Rattle.counter_memory.specs.Router.{router_of}
use Rattle.counter_memory.proofs.RoundLaws.{registry_back, router_back}

read_back : (c : Counter) → counter_of (memory_of c) ≡ c
read_back c = rw (registry_back c.registry, router_back c.router)

one_counter : (a b : Counter) → memory_of a ≡ memory_of b → a ≡ b
one_counter a b e = sym (read_back a) ∙ ap counter_of e ∙ read_back b

registry_not_started : (m : CounterMemory) → m.registry.limits.max_windows ≡ 0 → damage_refusal (counter_of m).registry ≡ Err Damaged
unfolding registry_of is_sound
registry_not_started m e = rw e

router_not_started : (m : CounterMemory) → m.router.max_active_bindings ≡ 0 → is_router_sound (counter_of m).router ≡ false
unfolding router_of is_router_sound
router_not_started m e = rw e

pub claims : MemoryClaims
claims = record { read_back = read_back; one_counter = one_counter; registry_not_started = registry_not_started; router_not_started = router_not_started }
