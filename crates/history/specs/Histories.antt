-- A list of calls on a counter from its start: what each call was and answered, and the counter and the book after
-- them.
use Rattle.std.specs.Prelude.{ℕ, List, [], ◌∷◌}
use Rattle.lists.specs.Tables.{entries_of}
use Rattle.handles.specs.declared.GenerationalHandle.{GenerationalHandle}
use Rattle.maps.specs.declared.bindings.Binding.{Binding}
use Rattle.composition_state.specs.declared.registry.CompositionLimits.{CompositionLimits}
use Rattle.composition_state.specs.Start.{started}
use Rattle.records.specs.Traces.{deliveries}
use Rattle.input_events.specs.RouterErrors.{router_number_of}
use Rattle.release_lists.specs.Releases.{releases}
use Rattle.input_router.specs.Router.{started as router_started}
use Rattle.book.specs.Book.{Asked, Told, Book}
use Rattle.book.specs.Notes.{note}
use Rattle.counter.specs.declared.answer.Answer.{Answer}
use Rattle.counter.specs.declared.step.Counter.{Counter}
use Rattle.counter.specs.declared.step.Stepped.{Stepped}
use Rattle.counter.specs.Step.{stepped}

-- RULES.md, Start: session, epoch, limits, first revision, first slot generation, and the router's limit
pub record Start : Type 0 where
  pub session : GenerationalHandle
  pub epoch : ℕ
  pub limits : CompositionLimits
  pub revision : ℕ
  pub generation : ℕ
  pub bindings : ℕ

abbrev pub fresh : Start → Counter
fresh s = record {
  registry = (started s.session s.epoch s.limits s.revision s.generation).registry;
  router = (router_started s.bindings).router;
}

-- a call with its lists on a counter: `stepped` is the definition that `step` is proved equal to
abbrev pub call : Counter → Asked → Stepped
call c x = stepped c x.call x.lists

-- what the book is told of an answer: number, handle, consumer, deliveries
abbrev pub told_of : Answer → Told
told_of a = record {
  number = router_number_of a.outcome;
  handle = a.handle;
  consumer = a.report.arbitration.consumed_by;
  deliveries = entries_of deliveries a.report.arbitration.deliveries;
}

-- the releases that an answer lists
abbrev pub releases_in : Answer → List Binding
releases_in a = entries_of releases a.report.synthesized_releases

-- a call that was made with what was handed in beside it, what the book is told of it, and the releases that it listed
pub record Entry : Type 0 where
  pub asked : Asked
  pub told : Told
  pub listed : List Binding

abbrev pub entry_of : Asked → Answer → Entry
entry_of x a = record { asked = x; told = told_of a; listed = releases_in a }

-- each call is given the counter that the last one left
unfoldable pub after : List Asked → Counter → Counter
after [] c = c
after (x ∷ xs) c = after xs (call c x).counter

unfoldable pub history : List Asked → Counter → List Entry
history [] c = []
history (x ∷ xs) c = entry_of x (call c x).answer ∷ history xs (call c x).counter

-- the book after a list of calls with their answers
unfoldable pub book_after : List Entry → Book → Book
book_after [] b = b
book_after (e ∷ es) b = book_after es (note e.asked e.told b)
