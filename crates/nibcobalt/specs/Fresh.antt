-- A fresh counter in memory: the registry's start and the router's, of which the first refusal counts and leaves the
-- memory as it was.
use Rattle.std.specs.Prelude.{ℕ, cond, eqb}
use Rattle.composition_state.specs.Registry.{Changed}
use Rattle.records.specs.Errors.{number_of}
use Rattle.composition_state.specs.Start.{started}
use Rattle.input_router.specs.declared.router.RouterStart.{RouterStart}
use Rattle.input_events.specs.RouterErrors.{router_number_of}
use Rattle.input_router.specs.Router.{started as router_started}
use Rattle.counter_memory.specs.declared.memory.CounterMemory.{CounterMemory}
use Rattle.counter_memory.specs.Memory.{memory_of}
use Rattle.nibcobalt.specs.declared.fresh.Start.{Start}
use Rattle.nibcobalt.specs.declared.fresh.Started.{Started}
use Rattle.nibcobalt.specs.Status.{status_of}

-- the registry's refusal, else the router's
abbrev pub first_refusal : ℕ → ℕ → ℕ
first_refusal registry router = cond (eqb registry 0) router registry

abbrev pub started_with : CounterMemory → Start → Changed → RouterStart → Started
started_with memory s x y =
    let n = first_refusal (number_of x.outcome) (router_number_of y.outcome) in
    record {
      status = status_of n;
      memory = cond (eqb n 0) (memory_of (record { registry = x.registry; router = y.router })) memory;
      start = s;
    }

unfoldable pub started_memory : CounterMemory → Start → Started
started_memory memory s =
    started_with memory s
    (started s.session s.session_epoch s.limits s.first_revision s.first_generation)
    (router_started s.max_active_bindings)
