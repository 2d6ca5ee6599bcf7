-- What the library's functions come to: steps of the counter that the memory is read as, so that what holds of every
-- list of calls on a counter holds of every list of a host's.
use Rattle.std.specs.Prelude.{ℕ, ◌≡◌, List, length}
use Rattle.calls.specs.declared.call.Lists.{Lists}
use Rattle.composition_state.specs.Start.{started}
use Rattle.input_router.specs.Router.{started as router_started}
use Rattle.counter.specs.declared.step.Stepped.{Stepped}
use Rattle.counter.specs.Step.{stepped}
use Rattle.counter_memory.specs.declared.memory.CounterMemory.{CounterMemory}
use Rattle.counter_memory.specs.Memory.{counter_of}
use Rattle.answer_words.specs.Answers.{answer_placed}
use Rattle.call_numbers.specs.Calls.{call_at}
use Rattle.host_message.specs.declared.message.Message.{Message}
use Rattle.host_message.specs.Messages.{is_message, lists_of}
use Rattle.nibcobalt.specs.declared.direct_route.RouteMessage.{RouteMessage}
use Rattle.nibcobalt.specs.declared.fresh.Start.{Start}
use Rattle.nibcobalt.specs.Calls.{called, called_with}
use Rattle.nibcobalt.specs.Fresh.{started_memory}
use Rattle.nibcobalt.specs.Routes.{is_route_form, route_called, route_called_with}
use Rattle.nibcobalt.specs.Status.{refusal_of}

-- the step of a message
abbrev pub step_of : CounterMemory → Message → Stepped
step_of memory m = stepped (counter_of memory) (call_at m.call) (lists_of m)

pub record HostClaims : Type 0 where
  -- memory that was started is read as the fresh counter
  pub starts : (memory : CounterMemory) (s : Start) → (started_memory memory s).status.number ≡ 0
      → counter_of (started_memory memory s).memory
      ≡ record {
        registry = (started s.session s.session_epoch s.limits s.first_revision
            s.first_generation).registry;
        router = (router_started s.max_active_bindings).router;
      }
  -- a message that is a form, with room for the answer, is a step: its answer stands in the buffer, and the memory is
  -- read as the counter that it leaves
  pub steps : (memory : CounterMemory) (m : Message) (buf : List ℕ) → refusal_of (is_message m) (length buf) ≡ 0
      → (called memory m buf ≡ called_with m (step_of memory m)
      (answer_placed (call_at m.call) (step_of memory m).answer (step_of memory m).counter buf))
      × (counter_of (called memory m buf).1.memory ≡ (step_of memory m).counter)
  -- a direct route is the step of its numbers, whatever lists are handed in beside it
  pub routes : (memory : CounterMemory) (m : RouteMessage) (l : Lists) (buf : List ℕ)
      → refusal_of (is_route_form m.call) (length buf) ≡ 0
      → (route_called memory m buf
      ≡ route_called_with m (stepped (counter_of memory) (call_at m.call) l)
      (answer_placed (call_at m.call) (stepped (counter_of memory) (call_at m.call) l).answer
      (stepped (counter_of memory) (call_at m.call) l).counter buf))
      × (counter_of (route_called memory m buf).1.memory ≡ (stepped (counter_of memory) (call_at m.call) l).counter)
