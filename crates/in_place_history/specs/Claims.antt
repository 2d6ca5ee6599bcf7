-- Demand 3 covers the in-place entries: by its contract each is the same step,
-- so what is proved of lists of calls holds of lists of entries.
use Rattle.std.specs.Prelude.{◌≡◌, true, List, ◌++◌, map}
use Rattle.composition_state.specs.Damage.{is_sound}
use Rattle.input_router.specs.Damage.{is_router_sound}
use Rattle.input_router.specs.Router.{presses_of}
use Rattle.book.specs.Book.{empty_book}
use Rattle.counter.specs.declared.step.Counter.{Counter}
use Rattle.counter.specs.declared.step.Stepped.{Stepped}
use Rattle.history.specs.Demand.{Accepts, Premises, NothingLost}
use Rattle.history.specs.Histories.{Start, fresh, call, entry_of, after, history, book_after}
use Rattle.in_place_history.specs.Entries.{InPlaceCall, HoldsTo, Leads, entry_for, asked}

-- the step that a call of an entry is, on a counter
abbrev pub step_for : InPlaceCall → Counter → Stepped
step_for x c = call c (asked x)

-- what the entries' contracts say of each call and of each list of calls is what `stepped` says
pub record SameSteps : Type 0 where
  -- one call: what its contract leaves behind and has it answer is the counter and the history's entry of the step
  pub counter : (x : InPlaceCall) (c exit : Counter) → HoldsTo x c exit → exit ≡ (step_for x c).counter
  pub entry : (x : InPlaceCall) (c exit : Counter) → HoldsTo x c exit
      → entry_for x ≡ entry_of (asked x) (step_for x c).answer
  -- a list of calls, from any counter: the counter after it and its history are those of the list of steps
  pub counters : (xs : List InPlaceCall) (c exit : Counter) → Leads xs c exit → exit ≡ after (map asked xs) c
  pub entries : (xs : List InPlaceCall) (c exit : Counter) → Leads xs c exit
      → map entry_for xs ≡ history (map asked xs) c

-- demand 3 of a list of calls that leads from a fresh start to a counter
pub record Demand3For (s : Start) (xs : List InPlaceCall) (exit : Counter) : Type 0 where
  -- under demand 3's premises nothing is lost in these calls, whose history is `map entry_for xs`
  pub nothing_lost : Premises (map entry_for xs) → NothingLost s (map asked xs)
  -- and after every call the router behind the reference holds exactly the open presses
  pub held : Premises (map entry_for xs) → (before later : List InPlaceCall) → xs ≡ before ++ later
      → (between : Counter) → Leads before (fresh s) between
      → presses_of between.router ≡ (book_after (map entry_for before) empty_book).presses
  -- without any premise, no list of calls leads to damage
  pub sound : (is_sound exit.registry ≡ true) × (is_router_sound exit.router ≡ true)

-- and it holds of every such list, from every accepted start
pub record Demand3InPlace : Type 0 where
  pub each : (s : Start) → Accepts s → (xs : List InPlaceCall) (exit : Counter)
      → Leads xs (fresh s) exit → Demand3For s xs exit
