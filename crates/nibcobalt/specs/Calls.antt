-- A call on a counter in memory: `step` on the counter that the memory is read as, with the answer written from the
-- front of the lent buffer.
use Rattle.std.specs.Prelude.{ℕ, cond, List, eqb, length}
use Rattle.counter.specs.declared.step.Stepped.{Stepped}
use Rattle.counter.specs.Step.{stepped}
use Rattle.counter_memory.specs.declared.memory.CounterMemory.{CounterMemory}
use Rattle.counter_memory.specs.Memory.{memory_of, counter_of}
use Rattle.answer_words.specs.Answers.{answer_placed}
use Rattle.call_numbers.specs.Calls.{call_at}
use Rattle.host_message.specs.declared.message.Message.{Message}
use Rattle.host_message.specs.Messages.{is_message, lists_of}
use Rattle.nibcobalt.specs.declared.any_call.Called.{Called}
use Rattle.nibcobalt.specs.Status.{status_of, refusal_of}

-- what a call comes to, once its answer was placed: the buffer, and how many bytes were written
abbrev pub called_with : Message → Stepped → List ℕ × ℕ → List ℕ × Called
called_with m s p =
    (p.0, record { status = record { number = 0; length = p.1 }; memory = memory_of s.counter; message = m })

abbrev pub made_of : Message → Stepped → List ℕ → List ℕ × Called
made_of m s buf = called_with m s (answer_placed (call_at m.call) s.answer s.counter buf)

unfoldable pub made : CounterMemory → Message → List ℕ → List ℕ × Called
made memory m buf = made_of m (stepped (counter_of memory) (call_at m.call) (lists_of m)) buf

-- a refusal alters nothing
abbrev pub untouched : ℕ → CounterMemory → Message → List ℕ → List ℕ × Called
untouched n memory m buf = (buf, record { status = status_of n; memory = memory; message = m })

-- a malformed message, or a short buffer, is refused
unfoldable pub called : CounterMemory → Message → List ℕ → List ℕ × Called
called memory m buf = let n =
    refusal_of (is_message m) (length buf) in cond (eqb n 0) (made memory m buf) (untouched n memory m buf)
