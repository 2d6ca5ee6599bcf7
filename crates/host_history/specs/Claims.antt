-- Demand 3 covers the library: after any list of a host's calls the memory is read as the counter that the same list of
-- steps leaves.
use Rattle.std.specs.Prelude.{◌≡◌, true, List, ◌++◌}
use Rattle.composition_state.specs.Damage.{is_sound}
use Rattle.input_router.specs.Damage.{is_router_sound}
use Rattle.input_router.specs.Router.{presses_of}
use Rattle.counter.specs.declared.step.Stepped.{Stepped}
use Rattle.counter_memory.specs.declared.memory.CounterMemory.{CounterMemory}
use Rattle.counter_memory.specs.Memory.{counter_of}
use Rattle.answer_words.specs.Answers.{answer_placed}
use Rattle.book.specs.Book.{Asked, empty_book}
use Rattle.history.specs.Demand.{Accepts, Premises, NothingLost}
use Rattle.history.specs.Histories.{Start, fresh, call, after, history, book_after}
use Rattle.host_history.specs.Sent.{Sent, buffer, refusal, buffer_left, asked_by, memory_after, calls}

-- the step of a call on the counter that the memory is read as
abbrev pub step_on : CounterMemory → Asked → Stepped
step_on memory x = call (counter_of memory) x

pub record Demand3OfHosts : Type 0 where
  -- what is taken is a step: its answer stands in the buffer
  pub written : (x : Sent) (memory : CounterMemory) → refusal x ≡ 0
      → buffer_left x memory
      ≡ (answer_placed (asked_by x).call (step_on memory (asked_by x)).answer (step_on memory (asked_by x)).counter
      (buffer x)).0
  -- a list of a host's calls is the list of steps, from any memory
  pub same_counter : (xs : List Sent) (memory : CounterMemory) → counter_of (memory_after xs memory)
      ≡ after (calls xs) (counter_of memory)
  -- so, under demand 3's premises, nothing is lost in these calls
  pub nothing_lost : (s : Start) → Accepts s → (xs : List Sent) → Premises (history (calls xs) (fresh s))
      → NothingLost s (calls xs)
  -- and in memory that is read as a fresh counter the router holds exactly the open presses after every call
  pub held : (s : Start) → Accepts s → (memory : CounterMemory) → counter_of memory ≡ fresh s
      → (before later : List Sent) → Premises (history (calls (before ++ later)) (fresh s))
      → presses_of (counter_of (memory_after before memory)).router
      ≡ (book_after (history (calls before) (fresh s)) empty_book).presses
  -- without any premise, no list of a host's calls leads to damage
  pub sound : (s : Start) → Accepts s → (memory : CounterMemory) → counter_of memory ≡ fresh s → (xs : List Sent)
      → (is_sound (counter_of (memory_after xs memory)).registry ≡ true)
      × (is_router_sound (counter_of (memory_after xs memory)).router ≡ true)
