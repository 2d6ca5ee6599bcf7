-- A host's calls of the library as a list of calls on one counter. What the library refuses, as malformed or for a
-- short buffer, is no call.
use Rattle.std.specs.Prelude.{ℕ, cond, List, [], ◌∷◌, eqb, length}
use Rattle.call_numbers.specs.Calls.{call_at}
use Rattle.counter_memory.specs.declared.memory.CounterMemory.{CounterMemory}
use Rattle.book.specs.Book.{Asked}
use Rattle.in_place_history.specs.Entries.{no_lists}
use Rattle.host_message.specs.declared.message.Message.{Message}
use Rattle.host_message.specs.Messages.{is_message, lists_of}
use Rattle.nibcobalt.specs.declared.direct_route.RouteMessage.{RouteMessage}
use Rattle.nibcobalt.specs.Calls.{called}
use Rattle.nibcobalt.specs.Routes.{is_route_form, route_called}
use Rattle.nibcobalt.specs.Status.{refusal_of}

-- a message or a route message, with the buffer that is lent beside it
pub data Sent : Type 0 where
  call : Message → List ℕ → Sent
  route : RouteMessage → List ℕ → Sent

abbrev pub buffer : Sent → List ℕ
buffer (call m buf) = buf
buffer (route m buf) = buf

-- the status that it is refused with, 0 if it is taken
abbrev pub refusal : Sent → ℕ
refusal (call m buf) = refusal_of (is_message m) (length buf)
refusal (route m buf) = refusal_of (is_route_form m.call) (length buf)

-- what stands in the counter's memory and in the buffer at exit, as the contracts of the exported functions have it
abbrev pub memory_left : Sent → CounterMemory → CounterMemory
memory_left (call m buf) memory = (called memory m buf).1.memory
memory_left (route m buf) memory = (route_called memory m buf).1.memory

abbrev pub buffer_left : Sent → CounterMemory → List ℕ
buffer_left (call m buf) memory = (called memory m buf).0
buffer_left (route m buf) memory = (route_called memory m buf).0

-- the call that it is
abbrev pub asked_by : Sent → Asked
asked_by (call m buf) = record { call = call_at m.call; lists = lists_of m }
asked_by (route m buf) = record { call = call_at m.call; lists = no_lists }

-- each is given the memory that the last one left
unfoldable pub memory_after : List Sent → CounterMemory → CounterMemory
memory_after [] memory = memory
memory_after (x ∷ xs) memory = memory_after xs (memory_left x memory)

-- the calls of a list: those that are taken
unfoldable pub calls : List Sent → List Asked
calls [] = []
calls (x ∷ xs) = cond (eqb (refusal x) 0) (asked_by x ∷ calls xs) (calls xs)
