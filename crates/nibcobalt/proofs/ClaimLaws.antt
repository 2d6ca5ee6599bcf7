-- The claims hold: the test of a form decides, and a counter is read back from its memory.
use Prim.Native.Nat.{ℕ}
use mathlib.Core.Path.{◌≡◌, refl, sym, ap, ◌∙◌}
use mathlib.Core.Bool.{Bool, true, false, cond}
use mathlib.Core.List.{List}
use native.Mathlib.Omega.{arith}
use lib.Dec.{eqb}
use lib.ListN.{length, get_or}
use borrow.Author.Tests.{eqb-true}
use Rattle.lists.proofs.ListLaws.{and_left}
use Rattle.calls.specs.declared.call.Call.{Call}
use Rattle.calls.specs.declared.call.Call.TheVariants.{Router}
use Rattle.calls.specs.declared.call.Lists.{Lists}
use Rattle.composition_state.specs.Start.{started}
use Rattle.input_router.specs.Router.{started as router_started}
use Rattle.counter.specs.declared.step.Counter.{Counter}
use Rattle.counter.specs.Step.{stepped, router_step}
use Rattle.counter_memory.specs.declared.memory.CounterMemory.{CounterMemory}
use Rattle.counter_memory.specs.Memory.{memory_of, counter_of}
use Rattle.counter_memory.proofs.ClaimLaws.{claims as memory-claims}
use Rattle.answer_words.specs.Answers.{answer_placed}
use Rattle.call_numbers.specs.Calls.{call_at}
use Rattle.call_numbers.specs.Events.{router_at}
use Rattle.call_forms.specs.Forms.{is_form}
use Rattle.host_message.specs.declared.message.Message.{Message}
use Rattle.host_message.specs.Messages.{is_message}
use Rattle.nibcobalt.specs.declared.direct_route.RouteMessage.{RouteMessage}
use Rattle.nibcobalt.specs.declared.fresh.Start.{Start}
use Rattle.nibcobalt.specs.Calls.{called, made, untouched, called_with}
use Rattle.nibcobalt.specs.Claims.{HostClaims, step_of}
use Rattle.nibcobalt.specs.Fresh.{started_memory}
use Rattle.nibcobalt.specs.Routes.{is_route_form, route_called, route_made, untouched_route, route_called_with}
use Rattle.nibcobalt.specs.Status.{refusal_of}

-- a counter that was just started
fresh_of : Start → Counter
fresh_of s = record { registry = (started s.session s.session_epoch s.limits s.first_revision s.first_generation).registry; router = (router_started s.max_active_bindings).router }

starts : (memory : CounterMemory) (s : Start) → (started_memory memory s).status.number ≡ 0 → counter_of (started_memory memory s).memory ≡ fresh_of s
unfolding started_memory fresh_of
starts memory s e = ap (λ (n : ℕ). counter_of (cond (eqb n 0) (memory_of (fresh_of s)) memory)) e ∙ memory-claims.read_back (fresh_of s)

steps : (memory : CounterMemory) (m : Message) (buf : List ℕ) → refusal_of (is_message m) (length buf) ≡ 0
    → (called memory m buf ≡ called_with m (step_of memory m) (answer_placed (call_at m.call) (step_of memory m).answer (step_of memory m).counter buf))
    × (counter_of (called memory m buf).1.memory ≡ (step_of memory m).counter)
unfolding called made
steps memory m buf e = (
  ap (λ (n : ℕ). cond (eqb n 0) (made memory m buf) (untouched n memory m buf)) e,
  ap (λ (n : ℕ). counter_of (cond (eqb n 0) (made memory m buf) (untouched n memory m buf)).1.memory) e ∙ memory-claims.read_back (step_of memory m).counter,
)

-- what is malformed or no `route` is refused
is_form_lem : (b : Bool) (n : ℕ) → refusal_of b n ≡ 0 → b ≡ true
is_form_lem true n e = refl
is_form_lem false n e = absurd (omega (arith, e))

-- the numbers of a `route` are read as a call of the router
is_router : (l : List ℕ) → get_or l 0 0 ≡ 23 → call_at l ≡ Router (router_at l)
unfolding call_at
is_router l e = rw e

routes : (memory : CounterMemory) (m : RouteMessage) (l : Lists) (buf : List ℕ) → refusal_of (is_route_form m.call) (length buf) ≡ 0
    → (route_called memory m buf ≡ route_called_with m (stepped (counter_of memory) (call_at m.call) l) (answer_placed (call_at m.call) (stepped (counter_of memory) (call_at m.call) l).answer (stepped (counter_of memory) (call_at m.call) l).counter buf))
    × (counter_of (route_called memory m buf).1.memory ≡ (stepped (counter_of memory) (call_at m.call) l).counter)
unfolding route_called route_made stepped
routes memory m l buf e =
    let form : is_route_form m.call ≡ true = is_form_lem (is_route_form m.call) (length buf) e in
    let back : Router (router_at m.call) ≡ call_at m.call = sym (is_router m.call (eqb-true _ _ (and_left (eqb (get_or m.call 0 0) 23) (is_form m.call) form))) in (
      ap (λ (n : ℕ). cond (eqb n 0) (route_made memory m buf) (untouched_route n memory m buf)) e
          ∙ ap (λ (c : Call). route_called_with m (stepped (counter_of memory) c l) (answer_placed c (stepped (counter_of memory) c l).answer (stepped (counter_of memory) c l).counter buf)) back,
      ap (λ (n : ℕ). counter_of (cond (eqb n 0) (route_made memory m buf) (untouched_route n memory m buf)).1.memory) e
          ∙ memory-claims.read_back (router_step (counter_of memory) (router_at m.call)).counter ∙ ap (λ (c : Call). (stepped (counter_of memory) c l).counter) back,
    )

pub claims : HostClaims
unfolding fresh_of
claims = record { starts = starts; steps = steps; routes = routes }
