-- An event routed on a counter in memory, with the answer as that of any call.
use Rattle.std.specs.Prelude.{ℕ, Bool, cond, ◌&&◌, List, eqb, length, get_or}
use Rattle.calls.specs.declared.call.Call.TheVariants.{Router}
use Rattle.counter.specs.declared.step.Stepped.{Stepped}
use Rattle.counter.specs.Step.{router_step}
use Rattle.counter_memory.specs.declared.memory.CounterMemory.{CounterMemory}
use Rattle.counter_memory.specs.Memory.{memory_of, counter_of}
use Rattle.answer_words.specs.Answers.{answer_placed}
use Rattle.call_numbers.specs.Events.{router_at}
use Rattle.call_forms.specs.Forms.{is_form}
use Rattle.nibcobalt.specs.declared.direct_route.RouteCalled.{RouteCalled}
use Rattle.nibcobalt.specs.declared.direct_route.RouteMessage.{RouteMessage}
use Rattle.nibcobalt.specs.Status.{status_of, refusal_of}

-- whether numbers are the form of a `route`
abbrev pub is_route_form : List ℕ → Bool
is_route_form l = eqb (get_or l 0 0) 23 && is_form l

-- what a route comes to, once its answer was placed: the buffer, and how many bytes were written
abbrev pub route_called_with : RouteMessage → Stepped → List ℕ × ℕ → List ℕ × RouteCalled
route_called_with m s p =
    (p.0, record { status = record { number = 0; length = p.1 }; memory = memory_of s.counter; message = m })

abbrev pub route_made_of : RouteMessage → Stepped → List ℕ → List ℕ × RouteCalled
route_made_of m s buf = route_called_with m s (answer_placed (Router (router_at m.call)) s.answer s.counter buf)

unfoldable pub route_made : CounterMemory → RouteMessage → List ℕ → List ℕ × RouteCalled
route_made memory m buf = route_made_of m (router_step (counter_of memory) (router_at m.call)) buf

-- a refusal alters nothing
abbrev pub untouched_route : ℕ → CounterMemory → RouteMessage → List ℕ → List ℕ × RouteCalled
untouched_route n memory m buf = (buf, record { status = status_of n; memory = memory; message = m })

-- what is malformed or no `route`, or a short buffer, is refused
unfoldable pub route_called : CounterMemory → RouteMessage → List ℕ → List ℕ × RouteCalled
route_called memory m buf = let n =
    refusal_of (is_route_form m.call) (length buf) in
    cond (eqb n 0) (route_made memory m buf) (untouched_route n memory m buf)
