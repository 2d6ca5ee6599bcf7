-- RULES.md, Forms: the host's router is one object, altered in place. This is its memory, beside that of the registry,
-- and the counter that any memory is read as.
use Rattle.counter.specs.declared.step.Counter.{Counter}
use Rattle.counter_memory.specs.declared.memory.CounterMemory.{CounterMemory}
use Rattle.counter_memory.specs.Registry.{registry_memory, registry_of}
use Rattle.counter_memory.specs.Router.{router_memory, router_of}

abbrev pub memory_of : Counter → CounterMemory
memory_of c = record { registry = registry_memory c.registry; router = router_memory c.router }

abbrev pub counter_of : CounterMemory → Counter
counter_of m = record { registry = registry_of m.registry; router = router_of m.router }
