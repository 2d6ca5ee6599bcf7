-- The in-place entries as a list of calls on one counter: each holds to its contract, and is an entry of the history.
use Rattle.std.specs.Prelude.{◌≡◌, List, [], ◌∷◌, None, Ok}
use Rattle.std.specs.Result.{result_and, result_unwrap_or}
use Rattle.lists.specs.Tables.{entries_of, packed}
use Rattle.handles.specs.declared.GenerationalHandle.{GenerationalHandle}
use Rattle.records.specs.Traces.{deliveries, hits}
use Rattle.composition_shortcuts.specs.Register.{registrations}
use Rattle.input_events.specs.declared.event.PlatformInputEvent.{PlatformInputEvent}
use Rattle.input_events.specs.RouterErrors.{router_number_of}
use Rattle.release_lists.specs.Releases.{releases}
use Rattle.calls.specs.declared.call.Lists.{Lists}
use Rattle.calls.specs.declared.call.Call.TheVariants.{Router}
use Rattle.calls.specs.declared.call.RouterCall.{RouterCall}
use Rattle.calls.specs.declared.call.RouterCall.TheVariants as router
use Rattle.counter.specs.declared.answer.Answer.{Answer}
use Rattle.counter.specs.declared.step.Counter.{Counter}
use Rattle.book.specs.Book.{Asked}
use Rattle.history.specs.Histories.{Entry, entry_of}
use Rattle.input_releases.specs.declared.answer.PlatformInputRoutingReport.{PlatformInputRoutingReport}
use Rattle.input_releases.specs.Answers.{no_report}
use Rattle.in_place.specs.EntryContracts.{RouteAnswer, ReleaseAnswer, StepInPlace, RouteInPlace, ReleaseSurfaceInPlace, ReleaseAllInPlace}

-- a call of an entry of `in_place`, by its name there: its arguments, and what it answered
pub data InPlaceCall : Type 0 where
  step : Asked → Answer → InPlaceCall
  route : PlatformInputEvent → RouteAnswer → InPlaceCall
  release_surface : GenerationalHandle → ReleaseAnswer → InPlaceCall
  release_all : ReleaseAnswer → InPlaceCall

-- the entry's contract, from the counter behind its references at entry to that at exit;
-- a router release is not lent the registry, which stays
abbrev pub HoldsTo : InPlaceCall → Counter → Counter → Type 0
HoldsTo (step x answer) c exit = StepInPlace c x.call x.lists exit answer
HoldsTo (route e answer) c exit = RouteInPlace c.registry c.router e exit.registry exit.router answer
HoldsTo (release_surface h answer) c exit =
    (exit.registry ≡ c.registry) × ReleaseSurfaceInPlace c.router h exit.router answer
HoldsTo (release_all answer) c exit =
    (exit.registry ≡ c.registry) × ReleaseAllInPlace c.router exit.router answer

-- a list of calls from one counter to another: each entry is lent what the last one left behind
abbrev pub Leads : List InPlaceCall → Counter → Counter → Type 0
Leads [] c exit = exit ≡ c
Leads (x ∷ xs) c exit = (between : Counter) × (HoldsTo x c between × Leads xs between exit)

-- the call of `step` that a call of an entry is; the router's calls take no lists
abbrev pub no_lists : Lists
no_lists = record { hits = packed hits []; registrations = packed registrations [] }

abbrev pub router_call : RouterCall → Asked
router_call call = record { call = Router call; lists = no_lists }

abbrev pub asked : InPlaceCall → Asked
asked (step x answer) = x
asked (route e answer) = router_call (router.Route e)
asked (release_surface h answer) = router_call (router.ReleaseSurface h)
asked (release_all answer) = router_call router.ReleaseAll

-- what an event reports: nothing where it is refused
abbrev pub report_in : RouteAnswer → PlatformInputRoutingReport
report_in a = result_unwrap_or a no_report

-- what the book is told of the answer of `route`, and the releases that it lists
abbrev pub route_entry : PlatformInputEvent → RouteAnswer → Entry
route_entry e a = record {
  asked = router_call (router.Route e);
  told = record {
    number = router_number_of (result_and a (Ok tt));
    handle = None;
    consumer = (report_in a).arbitration.consumed_by;
    deliveries = entries_of deliveries (report_in a).arbitration.deliveries;
  };
  listed = entries_of releases (report_in a).synthesized_releases;
}

-- what the book is told of the answer of a router release, and the releases that it lists
abbrev pub release_entry : RouterCall → ReleaseAnswer → Entry
release_entry call a = record {
  asked = router_call call;
  told = record { number = router_number_of (result_and a (Ok tt)); handle = None; consumer = None; deliveries = [] };
  listed = entries_of releases (result_unwrap_or a (packed releases []));
}

-- the entry of the history that a call is
abbrev pub entry_for : InPlaceCall → Entry
entry_for (step x answer) = entry_of x answer
entry_for (route e answer) = route_entry e answer
entry_for (release_surface h answer) = release_entry (router.ReleaseSurface h) answer
entry_for (release_all answer) = release_entry router.ReleaseAll answer
