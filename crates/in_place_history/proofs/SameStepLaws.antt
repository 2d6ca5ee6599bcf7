-- Each call of an in-place entry is the same step, by its contract and `stepped`'s cases; a list of calls by induction.
use mathlib.Core.Path.{◌≡◌, refl, sym, ap, subst, ◌∙◌}
use mathlib.Core.List.{List, [], ◌∷◌, map}
use Rattle.lists.specs.Tables.{entries_of, packed}
use Rattle.lists.proofs.ListLaws.{map_append}
use Rattle.input_router.specs.Router.{presses_of}
use Rattle.book.specs.Book.{empty_book}
use Rattle.counter.specs.declared.step.Counter.{Counter}
use Rattle.counter.specs.Answers.{releases_alone}
use Rattle.counter.specs.Step.{stepped, router_step}
use Rattle.history.specs.Demand.{Accepts, Premises}
use Rattle.history.specs.Histories.{Start, Entry, entry_of, after, history, book_after, fresh}
use Rattle.history.proofs.HistoryLaws.{demand_3, never_damaged}
use Rattle.in_place_history.specs.Claims.{step_for, SameSteps, Demand3For, Demand3InPlace}
use Rattle.in_place_history.specs.Entries.{InPlaceCall, step, route, release_surface, release_all, HoldsTo, Leads, route_entry, release_entry, entry_for, asked}

counter : (x : InPlaceCall) (c exit : Counter) → HoldsTo x c exit → exit ≡ (step_for x c).counter
unfolding stepped router_step
counter (step x answer) c exit h = h.0
counter (route e answer) c exit h = λ i. record { registry = h.0 i; router = h.1 i }
counter (release_surface g answer) c exit h = λ i. record { registry = h.0 i; router = h.1.0 i }
counter (release_all answer) c exit h = λ i. record { registry = h.0 i; router = h.1.0 i }

entry : (x : InPlaceCall) (c exit : Counter) → HoldsTo x c exit
    → entry_for x ≡ entry_of (asked x) (step_for x c).answer
unfolding stepped router_step releases_alone entries_of packed
entry (step x answer) c exit h = ap (entry_of x) h.1
entry (route e answer) c exit h = ap (route_entry e) h.2
entry (release_surface g answer) c exit h = ap (release_entry _) h.1.1
entry (release_all answer) c exit h = ap (release_entry _) h.1.1

counters : (xs : List InPlaceCall) (c exit : Counter) → Leads xs c exit → exit ≡ after (map asked xs) c
unfolding after
counters [] c exit h = h
counters (x ∷ xs) c exit h =
    counters xs h.0 exit h.1.1 ∙ ap (after (map asked xs)) (counter x c h.0 h.1.0)

entries : (xs : List InPlaceCall) (c exit : Counter) → Leads xs c exit → map entry_for xs ≡ history (map asked xs) c
unfolding history
entries [] c exit h = refl
entries (x ∷ xs) c exit h =
    let rest : map entry_for xs ≡ history (map asked xs) (step_for x c).counter =
    entries xs h.0 exit h.1.1 ∙ ap (history (map asked xs)) (counter x c h.0 h.1.0) in
    λ i. entry x c h.0 h.1.0 i ∷ rest i

pub same_steps : SameSteps
same_steps = record { counter = counter; entry = entry; counters = counters; entries = entries }

-- demand 3 of the steps is so demand 3 of the entries
module _ (s : Start) (a : Accepts s) (xs : List InPlaceCall) (exit : Counter) (h : Leads xs (fresh s) exit) where
  same : map entry_for xs ≡ history (map asked xs) (fresh s)
  same = entries xs (fresh s) exit h

  each : Demand3For s xs exit
  each = record {
    nothing_lost = λ k. demand_3.nothing_lost s a (map asked xs) (subst Premises same k);
    held = λ k before later at between b.
        ap (λ (c : Counter). presses_of c.router) (counters before (fresh s) between b)
        ∙ (demand_3.nothing_lost s a (map asked xs) (subst Premises same k)).held (map asked before) (map asked later)
        (ap (map asked) at ∙ map_append asked before later)
        ∙ ap (λ (es : List Entry). (book_after es empty_book).presses) (sym (entries before (fresh s) between b));
    sound = rw (counters xs (fresh s) exit h) (never_damaged.sound s a (map asked xs));
  }

pub demand_3_in_place : Demand3InPlace
demand_3_in_place = record { each = each }
