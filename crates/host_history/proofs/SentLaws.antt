-- A host's list of calls is the list of steps: what is taken is a step by `host_claims`, what is refused leaves the memory, then by induction over the list. Demand 3 of the calls is so demand 3 of a host's.
use mathlib.Core.Path.{◌≡◌, refl, sym, ap, subst, ◌∙◌}
use mathlib.Core.Bool.{Bool, true, false, cond}
use mathlib.Core.List.{List, [], ◌∷◌, ◌++◌}
use lib.Dec.{eqb}
use borrow.Author.Tests.{eqb-true}
use Rattle.lists.proofs.ListLaws.{by_test}
use Rattle.composition_state.specs.Damage.{is_sound}
use Rattle.input_router.specs.Damage.{is_router_sound}
use Rattle.input_router.specs.Router.{presses_of}
use Rattle.counter.specs.declared.step.Counter.{Counter}
use Rattle.counter_memory.specs.declared.memory.CounterMemory.{CounterMemory}
use Rattle.counter_memory.specs.Memory.{counter_of}
use Rattle.answer_words.specs.Answers.{answer_placed}
use Rattle.book.specs.Book.{Asked}
use Rattle.history.specs.Histories.{after}
use Rattle.history.proofs.HistoryLaws.{demand_3, never_damaged}
use Rattle.in_place_history.specs.Entries.{no_lists}
use Rattle.nibcobalt.specs.Calls.{called, made, untouched}
use Rattle.nibcobalt.specs.Routes.{route_called, route_made, untouched_route}
use Rattle.nibcobalt.proofs.ClaimLaws.{claims as host-claims}
use Rattle.host_history.specs.Claims.{Demand3OfHosts, step_on}
use Rattle.host_history.specs.Sent.{Sent, call, route, buffer, refusal, memory_left, buffer_left, asked_by, memory_after, calls}

written : (x : Sent) (memory : CounterMemory) → refusal x ≡ 0 → buffer_left x memory ≡ (answer_placed (asked_by x).call (step_on memory (asked_by x)).answer (step_on memory (asked_by x)).counter (buffer x)).0
written (call m buf) memory e = λ i. ((host-claims.steps memory m buf e).0 i).0
written (route m buf) memory e = λ i. ((host-claims.routes memory m no_lists buf e).0 i).0

-- what is taken leaves what the step leaves
taken : (x : Sent) (memory : CounterMemory) → refusal x ≡ 0 → counter_of (memory_left x memory) ≡ (step_on memory (asked_by x)).counter
taken (call m buf) memory e = (host-claims.steps memory m buf e).1
taken (route m buf) memory e = (host-claims.routes memory m no_lists buf e).1

-- what is refused leaves the memory as it was
refused : (x : Sent) (memory : CounterMemory) → eqb (refusal x) 0 ≡ false → memory_left x memory ≡ memory
unfolding called route_called
refused (call m buf) memory e = ap (λ (b : Bool). (cond b (made memory m buf) (untouched (refusal (call m buf)) memory m buf)).1.memory) e
refused (route m buf) memory e = ap (λ (b : Bool). (cond b (route_made memory m buf) (untouched_route (refusal (route m buf)) memory m buf)).1.memory) e

same_counter : (xs : List Sent) (memory : CounterMemory) → counter_of (memory_after xs memory) ≡ after (calls xs) (counter_of memory)
unfolding memory_after calls after
same_counter [] memory = refl
same_counter (x ∷ xs) memory =
    by_test (eqb (refusal x) 0)
    (λ t. rw t (same_counter xs (memory_left x memory) ∙ ap (after (calls xs)) (taken x memory (eqb-true _ _ t))))
    (λ t. rw t (same_counter xs (memory_left x memory) ∙ ap (λ (m : CounterMemory). after (calls xs) (counter_of m)) (refused x memory t)))

-- the calls of two lists, one behind the other
calls_append : (before later : List Sent) → calls (before ++ later) ≡ calls before ++ calls later
unfolding calls
calls_append [] later = refl
calls_append (x ∷ before) later = by_test (eqb (refusal x) 0)
    (λ t. rw t (ap (λ (l : List Asked). asked_by x ∷ l) (calls_append before later)))
    (λ t. rw t (calls_append before later))

pub demand_3_of_hosts : Demand3OfHosts
demand_3_of_hosts = record {
  written = written;
  same_counter = same_counter;
  nothing_lost = λ s a xs k. demand_3.nothing_lost s a (calls xs) k;
  held = λ s a memory f before later k.
      ap (λ (c : Counter). presses_of c.router) (same_counter before memory ∙ ap (after (calls before)) f)
      ∙ (demand_3.nothing_lost s a (calls (before ++ later)) k).held (calls before) (calls later) (calls_append before later);
  sound = λ s a memory f xs.
      subst (λ (c : Counter). (is_sound c.registry ≡ true) × (is_router_sound c.router ≡ true)) (sym (same_counter xs memory ∙ ap (after (calls xs)) f)) (never_damaged.sound s a (calls xs));
}
