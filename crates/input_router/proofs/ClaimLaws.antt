-- The claims about the router: soundness by its parts, releases by what a test keeps, and the release of all by the laws of panel order.
use Rattle.std.specs.Prelude.{Option, None, Some, Ok, Err, is_ok}
use Rattle.std.specs.Result.{result_and}
use Rattle.records.specs.Errors.{refusal_if}
use Rattle.input_events.specs.declared.error.PlatformInputError.TheVariants as error
use Prim.Native.Nat.{ℕ, ◌≤◌, ◌<◌}
use mathlib.Core.Path.{◌≡◌, refl, sym, ap, ◌∙◌, subst}
use Rattle.std.proofs.Common.{true≢false}
use mathlib.Core.Bool.{Bool, true, false, cond, not, ◌||◌}
use mathlib.Core.List.{List, [], ◌∷◌}
use native.Mathlib.Omega.{arith}
use borrow.Author.Tests.{le-ltb, ltb-true, ne_eqb}
use lib.Dec.{ltb, eqb}
use lib.ListN.{length}
use Rattle.lists.specs.Lists.{keep, first, all}
use Rattle.lists.specs.Tables.{entries_of, packed}
use Rattle.lists.proofs.ListLaws.{by_test, clash, and_both, length_keep}
use Rattle.lists.proofs.RisingLaws.{Over, Sorted, rising_sorted}
use Rattle.lists.proofs.TableLaws.{entries_packed}
use Rattle.handles.specs.Handles.{same_handle}
use Rattle.handles.specs.declared.GenerationalHandle.{GenerationalHandle}
use Rattle.handles.proofs.HandleLaws.{handles}
use Rattle.maps.specs.Keys.{key_lt, key_same, binding_key, device_key}
use Rattle.maps.specs.MapTables.{accepts, inserted, retained}
use Rattle.maps.specs.Bindings.{bindings, key_of_binding, surface_of}
use Rattle.maps.specs.Sequences.{sequences, sequence_key}
use Rattle.maps.specs.declared.keys.BindingKey.{BindingKey}
use Rattle.maps.specs.declared.keys.InputDeviceId.{InputDeviceId}
use Rattle.maps.specs.declared.bindings.Binding.{Binding}
use Rattle.maps.specs.declared.sequences.DeviceSequence.{DeviceSequence}
use Rattle.maps.proofs.MapTableLaws as maps
use Rattle.records.specs.declared.error.CompositionError.{CompositionError}
use Rattle.records.specs.Surfaces.{SurfaceTable}
use Rattle.input_router.specs.declared.router.PlatformInputRouter.{PlatformInputRouter}
use Rattle.input_router.specs.Router.{start_outcome, empty_router, started, with_bindings, with_sequences, with_timestamp, presses_of}
use Rattle.input_router.specs.Damage.{is_router_sound}
use Rattle.input_router.specs.Order.{sequence_entry, has_place, last_of, is_old, order_of, recorded}
use Rattle.input_router.specs.Presses.{press, held_by, has_room, opened, ended}
use Rattle.release_lists.specs.Releases.{releases, is_on, by_panel}
use Rattle.composition_state.proofs.SettleLaws.{without_value}
use Rattle.input_router.specs.Releases.{releases_of, is_of_device, release_surface, release_all, without_device_presses, without_device}
use Rattle.input_router.specs.ViewReleases.{kind_of, is_closed, first_closed, closed_refusal, is_of_view, is_taken, view_outcome, listed_presses, release_view}
use Rattle.input_router.specs.Claims.{RouterClaims}
use Rattle.lists.proofs.KeepLaws.{keep_in, keep_apart}
use Rattle.release_lists.proofs.ReleaseLaws.{by_panel_length, by_panel_keeps, by_panel_ordered, presses_first, captures_listed_lem}
use Rattle.input_router.proofs.OrderLaws.{place_is}
use Rattle.input_router.proofs.SoundLaws as sound

start_sound : (n : ℕ) → is_router_sound (started n).router ≡ is_ok (start_outcome n)
unfolding is_router_sound
start_sound n = by_test (is_ok (start_outcome n))
    (λ t. rw t (sound.whole (empty_router n) (sound.empty_sound n t)))
    (λ t. rw t)

-- ---- soundness stays
recorded_sound : (r : PlatformInputRouter) (d : InputDeviceId) (n time : ℕ) → is_router_sound r ≡ true → is_router_sound (recorded r d n time) ≡ true
recorded_sound r d n time h =
    let s = sound.parts r h in
    by_test (has_place r d)
    (λ t.
    let few : length (entries_of sequences r.device_sequences) ≤ 32 = omega (arith, sound.short sequences r.device_sequences, s.devices) in
    rw t (sound.whole _ (sound.time_sound _ time (sound.devices_sound r _ s
    (maps.accepted_fits sequences sequence_key r.device_sequences (sequence_entry d n) few (place_is (sequence_entry d n) r.device_sequences ∙ t))
    ((maps.claims sequence_key).insert_rises (sequence_entry d n) (entries_of sequences r.device_sequences) s.devices_rise)))))
    (λ t. rw t h)

kept_sound : (p : Binding → Bool) (r : PlatformInputRouter) → is_router_sound r ≡ true → is_router_sound (with_bindings (packed bindings (keep p (presses_of r))) r) ≡ true
kept_sound p r h = sound.whole _ (sound.kept_sound p r (sound.parts r h))

surface_sound : (r : PlatformInputRouter) (g : GenerationalHandle) → is_router_sound r ≡ true → is_router_sound (release_surface r g).router ≡ true
unfolding release_surface
surface_sound r g h = rw h (kept_sound (λ e. not (is_on g e)) r h)

all_sound : (r : PlatformInputRouter) → is_router_sound r ≡ true → is_router_sound (release_all r).router ≡ true
unfolding release_all
all_sound r h = rw h (sound.whole _ (sound.empty_sound r.max_active_bindings (sound.parts r h).limit))

device_sound : (r : PlatformInputRouter) (d : InputDeviceId) → is_router_sound r ≡ true → is_router_sound (without_device r d) ≡ true
device_sound r d h =
    let s = sound.parts r h in
    let other : DeviceSequence → Bool = λ e. not (key_same (device_key d) (sequence_key e)) in
    let known = entries_of sequences r.device_sequences in
    sound.whole _ (sound.devices_sound (without_device_presses r d) (keep other known) (sound.kept_sound (λ e. not (is_of_device d e)) r s)
    (omega (arith, length_keep other known, sound.short sequences r.device_sequences, s.devices))
    ((maps.claims sequence_key).keep_rises other known s.devices_rise))

view_sound_lem : (r : PlatformInputRouter) (t : SurfaceTable) (v : GenerationalHandle) → is_router_sound r ≡ true → is_router_sound (release_view r t v).router ≡ true
unfolding release_view
view_sound_lem r t v h = kept_sound (λ e. not (is_taken t v (first_closed t (presses_of r)) e)) r h

-- ---- an event in order is recorded
-- where the device has no place the order refuses
never : (a b c : Bool) → not c ≡ true → result_and (refusal_if a error.InvalidSequence) (result_and (refusal_if b error.InvalidTimestamp) (refusal_if (not c) error.PortLimit)) ≡ Ok tt → true ≡ false
never true b c h q = cc
never false true c h q = cc
never false false true h q = absurd (true≢false (sym h))
never false false false h q = cc

in_order : (r : PlatformInputRouter) (d : InputDeviceId) (n time : ℕ) → order_of r d n time ≡ Ok tt
    → recorded r d n time ≡ with_timestamp time (with_sequences (inserted sequences sequence_key (sequence_entry d n) r.device_sequences) r)
in_order r d n time q = by_test (has_place r d)
    (λ t. rw t)
    (λ t. clash refl (never (eqb n 0 || is_old (last_of r d) n) (ltb time r.last_timestamp_micros) (has_place r d) (ap not t) q))

opened_held : (r : PlatformInputRouter) (k : BindingKey) (h : GenerationalHandle) → is_router_sound r ≡ true → has_room r k ≡ true → held_by (opened r k h) k ≡ Some h
opened_held r k h s room =
    rw (sound.opened_accepted r k h (sound.parts r s) room, entries_packed bindings _)
    (ap surface_of ((maps.claims key_of_binding).find_inserted (press k h) (presses_of r)))

opened_others : (r : PlatformInputRouter) (j k : BindingKey) (h : GenerationalHandle) → key_same (binding_key j) (binding_key k) ≡ false → held_by (opened r k h) j ≡ held_by r j
opened_others r j k h n = by_test (accepts bindings key_of_binding (press k h) r.bindings)
    (λ a. rw (a, entries_packed bindings _) (ap surface_of ((maps.claims key_of_binding).find_insert_other (binding_key j) (press k h) (presses_of r) n)))
    (λ a. rw a)

-- ---- a press that is ended
ended_held : (r : PlatformInputRouter) (k : BindingKey) → held_by (ended r k) k ≡ None
ended_held r k = rw (entries_packed bindings _) (ap surface_of ((maps.claims key_of_binding).find_removed (binding_key k) (presses_of r)))

ended_others : (r : PlatformInputRouter) (j k : BindingKey) → key_same (binding_key j) (binding_key k) ≡ false → held_by (ended r k) j ≡ held_by r j
ended_others r j k n = rw (entries_packed bindings _) (ap surface_of ((maps.claims key_of_binding).find_remove_other (binding_key j) (binding_key k) (presses_of r) n))

-- ---- the release of a panel and of all
none_left : (r : PlatformInputRouter) (h : GenerationalHandle) → is_router_sound r ≡ true → keep (is_on h) (presses_of (release_surface r h).router) ≡ []
unfolding release_surface
none_left r h s = rw (s, entries_packed bindings _) (keep_apart (is_on h) (λ e. not (is_on h e)) (λ e t. ap not t) (presses_of r))

others_stay : (r : PlatformInputRouter) (h g : GenerationalHandle) → is_router_sound r ≡ true → same_handle h g ≡ false
    → keep (is_on g) (presses_of (release_surface r h).router) ≡ keep (is_on g) (presses_of r)
unfolding release_surface
others_stay r h g s n =
    rw (s, entries_packed bindings _)
    (keep_in (is_on g) (λ e. not (is_on h e)) (λ e t. rw (sym (handles.same_eq g e.surface t)) (ap not n)) (presses_of r))

all_none_left : (r : PlatformInputRouter) → is_router_sound r ≡ true → presses_of (release_all r).router ≡ []
unfolding release_all
all_none_left r s = rw s (entries_packed bindings [])

all_listed_are : (r : PlatformInputRouter) → is_router_sound r ≡ true → entries_of releases (releases_of (release_all r)) ≡ by_panel (presses_of r)
unfolding release_all
all_listed_are r s = rw s (entries_packed releases (by_panel (presses_of r)))

panel_listed_are : (r : PlatformInputRouter) (h : GenerationalHandle) → is_router_sound r ≡ true → entries_of releases (releases_of (release_surface r h)) ≡ keep (is_on h) (presses_of r)
unfolding release_surface
panel_listed_are r h s = rw s (entries_packed releases (keep (is_on h) (presses_of r)))

-- ---- the release of a view
pub first_passes : (p : Binding → Bool) (l : List Binding) (e : Binding) → first p l ≡ Some e → p e ≡ true
first_passes p [] e q = let z : true ≡ false = cc in clash (sym z) refl
first_passes p (f ∷ l) e q = by_test (p f)
    (λ t. let is : Some f ≡ Some e = rw t at q in let same : f ≡ e = cc in rw (sym same) t)
    (λ t. first_passes p l e (rw t at q))

-- an accepted release met no closed panel
none_closed : (t : SurfaceTable) (l : List Binding) → closed_refusal t (first_closed t l) ≡ Ok tt → first_closed t l ≡ None
none_closed t l q = go (first (is_closed t) l) refl q
  where
    go : (o : Option Binding) → first (is_closed t) l ≡ o → closed_refusal t o ≡ Ok tt → o ≡ None
    go None p h = refl
    go (Some e) p h = clash (first_passes (is_closed t) l e p) (rw h)

-- the presses that a release lists do not alter whether it is accepted
stopped : (r : PlatformInputRouter) (t : SurfaceTable) (v : GenerationalHandle)
    → view_outcome (release_view r t v) ≡ closed_refusal t (first_closed t (presses_of r))
unfolding release_view
stopped r t v =
    let stop = first_closed t (presses_of r) in
    without_value (packed bindings (keep (is_taken t v stop) (presses_of r))) (closed_refusal t stop)

view_accepted : (r : PlatformInputRouter) (t : SurfaceTable) (v : GenerationalHandle) → view_outcome (release_view r t v) ≡ Ok tt
    → (listed_presses (release_view r t v) ≡ retained bindings (is_of_view t v) r.bindings)
    × ((release_view r t v).router ≡ with_bindings (retained bindings (λ e. not (is_of_view t v e)) r.bindings) r)
unfolding release_view
view_accepted r t v q = let n = none_closed t (presses_of r) (sym (stopped r t v) ∙ q) in (rw n, rw n)

view_refused : (r : PlatformInputRouter) (t : SurfaceTable) (v : GenerationalHandle) (e : CompositionError) → view_outcome (release_view r t v) ≡ Err e → listed_presses (release_view r t v) ≡ packed bindings []
unfolding release_view
view_refused r t v e q = rw (sym (stopped r t v) ∙ q)

-- in key order a later press is of no lesser kind
kinds_rise : (e f : Binding) → key_lt (key_of_binding e) (key_of_binding f) ≡ true → ltb (kind_of f) (kind_of e) ≡ false
kinds_rise e f h = by_test (ltb (kind_of f) (kind_of e))
    (λ t.
    let less = ltb-true (kind_of f) (kind_of e) t in
    let apart : eqb (kind_of e) (kind_of f) ≡ false = ne_eqb (kind_of e) (kind_of f) (differ (kind_of e) (kind_of f) less) in
    let under : ltb (kind_of e) (kind_of f) ≡ true = rw apart at h in
    let more = ltb-true (kind_of e) (kind_of f) under in
    absurd (omega arith))
    (λ t. t)
  where
    differ : (a b : ℕ) → b < a → a ≡ b → ⊥
    differ a b l e = omega arith

over_kinds : (t : SurfaceTable) (e : Binding) (l : List Binding) → Over key_of_binding key_lt (key_of_binding e) l → all (λ f. not (ltb (kind_of f) (kind_of e)) || not (is_closed t f)) l ≡ true
over_kinds t e [] h = refl
over_kinds t e (f ∷ l) h = and_both (ap (λ (b : Bool). not b || not (is_closed t f)) (kinds_rise e f h.0)) (over_kinds t e l h.1)

-- the first closed press is of the first kind that has one
first_kind : (t : SurfaceTable) (l : List Binding) (stop : Binding) → Sorted key_of_binding key_lt l → first (is_closed t) l ≡ Some stop
    → all (λ e. not (ltb (kind_of e) (kind_of stop)) || not (is_closed t e)) l ≡ true
first_kind t [] stop s q = refl
first_kind t (e ∷ l) stop s q = by_test (is_closed t e)
    (λ c.
    let is : Some e ≡ Some stop = rw c at q in
    let same : e ≡ stop = cc in
    subst (λ (x : Binding). all (λ f. not (ltb (kind_of f) (kind_of x)) || not (is_closed t f)) (e ∷ l) ≡ true) same
    (and_both (ap (λ (b : Bool). not b || not (is_closed t e)) (irreflexive (kind_of e))) (over_kinds t e l s.0)))
    (λ c. and_both (ap (λ (b : Bool). not (ltb (kind_of e) (kind_of stop)) || not b) c ∙ or_true (not (ltb (kind_of e) (kind_of stop)))) (first_kind t l stop s.1 (rw c at q)))
  where
    irreflexive : (n : ℕ) → ltb n n ≡ false
    irreflexive n = le-ltb n n (omega arith)

    or_true : (b : Bool) → (b || true) ≡ true
    or_true true = refl
    or_true false = refl

view_stopped : (r : PlatformInputRouter) (t : SurfaceTable) (stop : Binding) → is_router_sound r ≡ true → first_closed t (presses_of r) ≡ Some stop
    → all (λ e. not (ltb (kind_of e) (kind_of stop)) || not (is_closed t e)) (presses_of r) ≡ true
view_stopped r t stop h q = go (first (is_closed t) (presses_of r)) refl q
  where
    go : (o : Option Binding) → first (is_closed t) (presses_of r) ≡ o → o ≡ Some stop
        → all (λ e. not (ltb (kind_of e) (kind_of stop)) || not (is_closed t e)) (presses_of r) ≡ true
    go None p k = let z : true ≡ false = cc in clash (sym z) refl
    go (Some e) p k = let same : e ≡ stop = cc in first_kind t (presses_of r) stop (rising_sorted key_of_binding maps.keys (presses_of r) (sound.parts r h).presses_rise) (p ∙ ap Some same)

pub claims : RouterClaims
claims = record {
  start_sound = start_sound;
  recorded_sound = recorded_sound;
  opened_sound = λ r k h s room. sound.whole _ (sound.opened_sound r k h (sound.parts r s) room);
  ended_sound = λ r k s. kept_sound (λ e. not (key_same (binding_key k) (key_of_binding e))) r s;
  surface_sound = surface_sound;
  all_sound = all_sound;
  device_presses_sound = λ r d s. kept_sound (λ e. not (is_of_device d e)) r s;
  device_sound = device_sound;
  view_sound_lem = view_sound_lem;
  in_order = in_order;
  opened_held = opened_held;
  opened_others = opened_others;
  ended_held = ended_held;
  ended_others = ended_others;
  none_left = none_left;
  others_stay = others_stay;
  all_none_left = all_none_left;
  all_of_panel = λ r h s. rw (all_listed_are r s, panel_listed_are r h s) (by_panel_keeps h (presses_of r));
  all_listed = λ r s. rw (all_listed_are r s) (by_panel_length (presses_of r));
  all_by_handle = λ r s. rw (all_listed_are r s) (by_panel_ordered (presses_of r));
  view_accepted = view_accepted;
  view_stopped = view_stopped;
  view_refused = view_refused;
  presses_first = presses_first;
  captures_listed_lem = captures_listed_lem;
}
