-- What each routed event has to show; a refusal that leaves the registry and the presses is right; and what the checks of an event have seen of its device and view.
use Rattle.records.specs.Errors.{Outcome}
use Rattle.std.specs.Prelude.{None, Ok, Err}
use mathlib.Core.Path.{◌≡◌, refl, sym, ◌∙◌, subst}
use mathlib.Core.Bool.{true, not}
use mathlib.Core.List.{[]}
use borrow.Author.Tests.{eq-eqb, not-true, not-false}
use lib.Dec.{eqb}
use lib.ListN.{length}
use Rattle.lists.specs.Numbers.{max_u64}
use Rattle.lists.proofs.ListLaws.{by_test, and_left, and_right}
use Rattle.lists.proofs.TableLaws.{entries_packed}
use Rattle.handles.specs.declared.arena.SlotStatus.TheVariants.{Live}
use Rattle.handles.specs.declared.GenerationalHandle.{GenerationalHandle}
use Rattle.maps.specs.Keys.{device_valid}
use Rattle.maps.specs.declared.keys.InputDeviceId.{InputDeviceId}
use Rattle.records.specs.declared.error.CompositionError.{CompositionError}
use Rattle.records.specs.declared.error.CompositionError.TheVariants.{RevisionExhausted}
use Rattle.composition_state.specs.declared.registry.CompositionRegistry.{CompositionRegistry}
use Rattle.composition_state.specs.Damage.{is_sound}
use Rattle.composition_state.specs.Registry.{outcome_of, advanced, settled}
use Rattle.records.specs.Views.{view_status, view_refusal}
use Rattle.composition_input.specs.Captures.{device_refusal, device_captures, release_device_pointer_captures}
use Rattle.composition_input.specs.Focus.{suspend_refusal, suspend_view_input}
use Rattle.composition_soundness.proofs.CaseLaws.{status_live, refused≢accepted}
use Rattle.input_events.specs.declared.error.PlatformInputError.{PlatformInputError}
use Rattle.input_events.specs.declared.event.PlatformInputEvent.{PlatformInputEvent}
use Rattle.input_events.specs.Checks.{device_refusal as device_check, header_refusal_in, header_refusal, payload_refusal, event_refusal}
use Rattle.input_events.specs.RouterErrors.{from_composition}
use Rattle.input_router.specs.declared.router.PlatformInputRouter.{PlatformInputRouter}
use Rattle.release_lists.specs.Releases.{releases}
use Rattle.input_releases.specs.declared.answer.Routed.{Routed}
use Rattle.input_releases.specs.Answers.{refused_with}
use Rattle.calls.specs.declared.call.Call.TheVariants.{Router}
use Rattle.calls.specs.declared.call.Lists.{Lists}
use Rattle.calls.specs.declared.call.RouterCall.TheVariants.{Route}
use Rattle.book.specs.Book.{Told, Book}
use Rattle.book.specs.Notes.{Change, change, changed, registered, noted}
use Rattle.book.specs.Owed.{Concern, concern, without_concerned}
use Rattle.counter.specs.declared.step.Counter.{Counter}
use Rattle.counter.specs.Step.{from_routed}
use Rattle.history.specs.Histories.{Entry, entry_of}
use Rattle.history.proofs.NumberLaws.{refused_number, then_first, then_last, if_accepted, from_accepted}
use Rattle.history.proofs.JoinLaws.{Joined, Right, Allowed, refused}
use Rattle.composition_state.proofs.SettleLaws.{without_value}

abbrev pub at : CompositionRegistry → PlatformInputRouter → Counter
at r t = record { registry = r; router = t }

-- whatever lists are handed in beside the event
module _ (l : Lists) where
  abbrev pub route_entry : PlatformInputEvent → Routed → Entry
  route_entry e x = entry_of (record { call = Router (Route e); lists = l }) (from_routed x).answer

  -- an event that the premises leave is right
  abbrev pub RouteGoes : Book → PlatformInputEvent → Routed → Type 0
  RouteGoes b e x = Allowed (route_entry e x) → Right (route_entry e x) b (from_routed x).counter

  pub route_refused : (b : Book) (e : PlatformInputEvent) (x : PlatformInputError) (r : CompositionRegistry) (t : PlatformInputRouter) → Joined None (at r t) b → RouteGoes b e (refused_with x r t)
  route_refused b e x r t j a = refused (route_entry e (refused_with x r t)) b (at r t) (refused_number x) (entries_packed releases []) j

  -- what the book notes of an event: the press that it changes, without what it concerns
  pub route_noted : (e : PlatformInputEvent) (a : Told) (b : Book) (c : Concern) (k : Change) → concern (Router (Route e)) ≡ c → change (Router (Route e)) a ≡ k
      → noted (record { call = Router (Route e); lists = l }) a b ≡ without_concerned c (changed k b)
  unfolding registered noted
  route_noted e a b c k q m = λ i. without_concerned (q i) (changed (m i) b)

-- ---- what the checks have seen
module _ (r : CompositionRegistry) (e : PlatformInputEvent) (h : event_refusal r.views e ≡ Ok tt) where
  pub device_seen : device_valid e.header.device ≡ true
  unfolding event_refusal
  device_seen = not-false (device_valid e.header.device) (if_accepted (not (device_valid e.header.device)) _ (then_first (device_check e.header.device) _ h))

  pub view_seen : view_status r.views e.header.view ≡ Live
  unfolding event_refusal header_refusal_in
  view_seen =
      let header = then_first (header_refusal r.views e.header) (payload_refusal e.payload) (then_last (device_check e.header.device) _ h) in
      status_live (view_status r.views e.header.view) _ _ (from_accepted (view_refusal r.views e.header.view) (then_first (from_composition (view_refusal r.views e.header.view)) _ header))

-- ---- the calls inside a disconnect and a view's loss are refused by 21 alone
same_error : {e f : CompositionError} → ◌≡◌ {A = Outcome} (Err e) (Err f) → e ≡ f
same_error {e} {f} q = cc

advanced_last : (c : CompositionRegistry) (y : CompositionError) → (advanced c).outcome ≡ Err y → y ≡ RevisionExhausted
unfolding advanced
advanced_last c y q = by_test (eqb c.revision max_u64)
    (λ t. sym (same_error (simp t at q)))
    (λ t. refused≢accepted (sym (simp t at q)))

settled_last : (o : Outcome) (r c : CompositionRegistry) (y : CompositionError) → o ≡ Ok tt → (settled o r c).outcome ≡ Err y → y ≡ RevisionExhausted
settled_last o r c y a q = advanced_last c y (subst (λ (x : Outcome). (settled x r c).outcome ≡ Err y) a q)

module _ (r : CompositionRegistry) (s : is_sound r ≡ true) where
  pub suspend_last : (view : GenerationalHandle) → view_status r.views view ≡ Live → (y : CompositionError) → outcome_of (suspend_view_input r view r.revision) ≡ Err y → y ≡ RevisionExhausted
  unfolding suspend_view_input
  suspend_last view v y q = settled_last (suspend_refusal r view r.revision) r _ y (rw (s, eq-eqb r.revision r.revision refl, v)) (sym (without_value _ _) ∙ q)

  device_passes : (d : InputDeviceId) → device_valid d ≡ true → device_refusal r d.value d.generation ≡ Ok tt
  device_passes d v =
      let value = not-true (eqb d.value 0) (and_left (not (eqb d.value 0)) (not (eqb d.generation 0)) v) in
      let generation = not-true (eqb d.generation 0) (and_right (not (eqb d.value 0)) (not (eqb d.generation 0)) v) in
      rw (s, value, generation)

  pub device_last : (d : InputDeviceId) → device_valid d ≡ true → (y : CompositionError) → outcome_of (release_device_pointer_captures r d.value d.generation) ≡ Err y → y ≡ RevisionExhausted
  unfolding release_device_pointer_captures
  device_last d v y q =
      let refused = sym (without_value _ _) ∙ q in
      by_test (eqb (length (device_captures r.views d.value d.generation)) 0)
      (λ t. refused≢accepted (sym (rw t at refused) ∙ device_passes d v))
      (λ t. settled_last (device_refusal r d.value d.generation) r _ y (device_passes d v) (rw t at refused))
