-- An arbitrated event is right: the book reads the same effect and receiver from the event and its answer as the router does, and the receiver is a live panel.
use Rattle.std.specs.Prelude.{None, Option, Some, Ok}
use mathlib.Core.Path.{◌≡◌, refl, sym, ap, ◌∙◌, subst}
use mathlib.Core.Bool.{Bool, true, false, not}
use mathlib.Core.List.{List, [], ◌∷◌}
use borrow.Author.Tests.{not-false}
use Rattle.lists.specs.Lists.{keep, all}
use Rattle.lists.specs.Maps.{insert, remove}
use Rattle.lists.specs.Tables.{entries_of}
use Rattle.lists.proofs.ListLaws.{by_test, clash, and_left, and_right, and_both, all_append}
use Rattle.lists.proofs.TableLaws.{entries_packed}
use Rattle.handles.specs.declared.GenerationalHandle.{GenerationalHandle}
use Rattle.maps.specs.Bindings.{bindings, key_of_binding}
use Rattle.maps.specs.Keys.{key_lt, key_same, binding_key}
use Rattle.maps.specs.declared.keys.BindingKey.{BindingKey}
use Rattle.maps.specs.declared.keys.InputDeviceId.{InputDeviceId}
use Rattle.composition_state.specs.declared.registry.CompositionRegistry.{CompositionRegistry}
use Rattle.records.specs.Traces.{Deliveries, deliveries}
use Rattle.records.specs.declared.trace.InputDelivery.{InputDelivery}
use Rattle.composition_soundness.proofs.ListLaws.{all_keep}
use Rattle.input_events.specs.declared.event.KeyPhase.{KeyPhase}
use Rattle.input_events.specs.declared.event.KeyPhase.TheVariants as K
use Rattle.input_events.specs.declared.event.PlatformInputPayload.{PlatformInputPayload}
use Rattle.input_events.specs.declared.event.PlatformInputPayload.TheVariants.{Pointer, Wheel, Key, Shortcut, Text, Composition, GamepadSnapshot, FocusChanged, VisibilityChanged, DeviceDisconnected}
use Rattle.input_events.specs.declared.event.PointerPhase.{PointerPhase}
use Rattle.input_events.specs.declared.event.PointerPhase.TheVariants as P
use Rattle.input_events.specs.declared.presses.Effect.{Effect}
use Rattle.input_events.specs.declared.presses.Effect.TheVariants.{Opens, Ends, Nothing}
use Rattle.input_events.specs.ArbitrationEvents.{is_loss, is_disconnect}
use Rattle.input_events.specs.Presses.{pointer_effect, key_effect, gamepad_effect, effect_in, is_unobserved, receiver_of}
use Rattle.input_router.specs.declared.router.PlatformInputRouter.{PlatformInputRouter}
use Rattle.input_router.specs.Damage.{is_router_sound}
use Rattle.input_router.specs.Presses.{press, has_room}
use Rattle.input_router.specs.Router.{presses_of}
use Rattle.input_router.proofs.SoundLaws.{parts, opened_accepted}
use Rattle.input_route.specs.Checks.{effect_refusal}
use Rattle.input_route.specs.Route.{tracked}
use Rattle.book.specs.Ids.{press_before}
use Rattle.book.specs.Book.{Book, with_press, without_press}
use Rattle.book.specs.Notes.{Change, opens, ends, leaves, receiver, pointer_change, key_change, snapshot_change, payload_change, changed}
use Rattle.book.specs.Owed.{nothing, sight_concern, payload_concern}
use Rattle.registry_book.specs.Agreement.{is_open}
use Rattle.registry_book.proofs.PrimaryLaws.{none≢some, same_panel}
use Rattle.history.proofs.NumberLaws.{if_accepted}
use Rattle.history.proofs.JoinLaws.{is_hosted, Joined, hosts, shared_presses}
use Rattle.history.proofs.TestLaws.{insert_is, remove_is}
use Rattle.history.proofs.RouteLaws.{at}

-- ---- what the book reads from an event that is arbitrated
-- the change of a press, by the router's effect of the event and the receiver
abbrev pub change_for : Effect → Option GenerationalHandle → Change
change_for (Opens key) None = leaves
change_for (Opens key) (Some h) = opens key h
change_for (Ends key) to = ends key
change_for Nothing to = leaves

module _ (key : BindingKey) where
  pointer_changes : (phase : PointerPhase) (to : Option GenerationalHandle) → pointer_change phase key to ≡ change_for (pointer_effect phase key) to
  pointer_changes P.Down None = refl
  pointer_changes P.Down (Some h) = refl
  pointer_changes P.Move to = refl
  pointer_changes P.Up to = refl
  pointer_changes P.Cancel to = refl

  key_changes : (phase : KeyPhase) (repeat : Bool) (to : Option GenerationalHandle) → key_change phase repeat key to ≡ change_for (key_effect phase repeat key) to
  key_changes K.Down true to = refl
  key_changes K.Down false None = refl
  key_changes K.Down false (Some h) = refl
  key_changes K.Up repeat to = refl

  snapshot_changes : (connected : Bool) (to : Option GenerationalHandle) → snapshot_change connected key to ≡ change_for (gamepad_effect connected key) to
  snapshot_changes true None = refl
  snapshot_changes true (Some h) = refl
  snapshot_changes false to = refl

module _ (d : InputDeviceId) where
  pub payload_changes : (p : PlatformInputPayload) (to : Option GenerationalHandle) → payload_change p d to ≡ change_for (effect_in d p) to
  unfolding payload_change effect_in
  payload_changes (Pointer p) to = pointer_changes _ p.phase to
  payload_changes (Wheel w) to = refl
  payload_changes (Key k) to = key_changes _ k.phase k.repeat to
  payload_changes (Shortcut s) to = refl
  payload_changes (Text t) to = refl
  payload_changes (Composition c) to = refl
  payload_changes (GamepadSnapshot g) to = snapshot_changes _ g.connected to
  payload_changes (FocusChanged focused) to = refl
  payload_changes (VisibilityChanged visible) to = refl
  payload_changes DeviceDisconnected to = refl

  module _ (view : GenerationalHandle) where
    gain_concerns : (seen : Bool) → not seen ≡ false → sight_concern seen view ≡ nothing
    gain_concerns true h = refl
    gain_concerns false h = clash refl h

    -- what is no disconnect and no loss concerns nothing
    pub payload_concerns : (p : PlatformInputPayload) → is_disconnect p ≡ false → is_loss p ≡ false → payload_concern p d view ≡ nothing
    unfolding payload_concern is_loss is_disconnect
    payload_concerns (Pointer p) x y = refl
    payload_concerns (Wheel w) x y = refl
    payload_concerns (Key k) x y = refl
    payload_concerns (Shortcut s) x y = refl
    payload_concerns (Text t) x y = refl
    payload_concerns (Composition c) x y = refl
    payload_concerns (GamepadSnapshot g) x y = refl
    payload_concerns (FocusChanged focused) x y = gain_concerns focused y
    payload_concerns (VisibilityChanged visible) x y = gain_concerns visible y
    payload_concerns DeviceDisconnected x y = clash refl x

-- ---- the receiver
pub receiver_is : (o : Option GenerationalHandle) (l : Deliveries) → receiver o (entries_of deliveries l) ≡ receiver_of o l
unfolding receiver_of
receiver_is None l = refl
receiver_is (Some h) l = refl

module _ (r : CompositionRegistry) where
  first_open : (l : List InputDelivery) → all (λ d. is_open r d.surface) l ≡ true → (h : GenerationalHandle) → receiver None l ≡ Some h → is_open r h ≡ true
  first_open [] k h q = none≢some q
  first_open (d ∷ l) k h q = by_test (is_unobserved d)
      (λ t. let is : Some d.surface ≡ Some h = rw t at q in subst (λ (g : GenerationalHandle). is_open r g ≡ true) (same_panel is) (and_left (is_open r d.surface) _ k))
      (λ t. first_open l (and_right (is_open r d.surface) _ k) h (rw t at q))

  -- a consumer or delivery that is live makes a live receiver
  pub receiver_open : (o : Option GenerationalHandle) (l : Deliveries) → ((h : GenerationalHandle) → o ≡ Some h → is_open r h ≡ true) → all (λ d. is_open r d.surface) (entries_of deliveries l) ≡ true
      → (h : GenerationalHandle) → receiver_of o l ≡ Some h → is_open r h ≡ true
  unfolding receiver_of
  receiver_open None l f k h q = first_open (entries_of deliveries l) k h q
  receiver_open (Some g) l f k h q = f h q

-- ---- the presses after it
module _ (r : CompositionRegistry) (t : PlatformInputRouter) (b : Book) (s : is_router_sound t ≡ true) (j : Joined None (at r t) b) where
  opened_joined : (key : BindingKey) (h : GenerationalHandle) → has_room t key ≡ true → is_open r h ≡ true → Joined None (at r (tracked t (Opens key) (Some h))) (with_press key h b)
  unfolding with_press
  opened_joined key h room there =
      let new = press key h in
      let low = keep (λ x. press_before x.key key) b.presses in
      let high = keep (λ x. press_before key x.key) b.presses in
      record {
        shared = shared_presses r b _ j.shared;
        own = record {
          presses = rw (opened_accepted t key h (parts t s) room)
              (entries_packed bindings (insert key_of_binding key_lt new (presses_of t)) ∙ ap (insert key_of_binding key_lt new) j.own.presses ∙ sym (insert_is new b.presses));
          hosted = all_append (is_hosted None r) low (new ∷ high)
              ∙ and_both (all_keep (is_hosted None r) _ b.presses j.own.hosted) (and_both (hosts None r new there) (all_keep (is_hosted None r) _ b.presses j.own.hosted));
        };
      }

  ended_joined : (key : BindingKey) → Joined None (at r (tracked t (Ends key) None)) (without_press key b)
  unfolding without_press
  ended_joined key = record {
    shared = shared_presses r b _ j.shared;
    own = record {
      presses = entries_packed bindings (remove key_of_binding key_same (binding_key key) (presses_of t)) ∙ ap (remove key_of_binding key_same (binding_key key)) j.own.presses
          ∙ sym (remove_is key b.presses);
      hosted = all_keep (is_hosted None r) _ b.presses j.own.hosted;
    };
  }

  pub tracked_joined : (f : Effect) (to : Option GenerationalHandle) → effect_refusal t f ≡ Ok tt → ((h : GenerationalHandle) → to ≡ Some h → is_open r h ≡ true) → Joined None (at r (tracked t f to)) (changed (change_for f to) b)
  unfolding changed
  tracked_joined (Opens key) None room there = j
  tracked_joined (Opens key) (Some h) room there = opened_joined key h (not-false (has_room t key) (if_accepted (not (has_room t key)) _ room)) (there h refl)
  tracked_joined (Ends key) to room there = ended_joined key
  tracked_joined Nothing to room there = j
