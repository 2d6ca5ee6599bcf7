-- A device's captures go in every live view, slot after slot, and in the book alike; the lists of a device's and of a view's captures are those of the book.
use Rattle.std.specs.Prelude.{Option, None, Some, Ok}
use Prim.Native.Nat.{ℕ, zero, suc, ◌≤◌, ◌<◌}
use mathlib.Core.Path.{◌≡◌, refl, sym, ap, ◌∙◌, subst}
use mathlib.Core.Bool.{Bool, true, false, cond, not, ◌&&◌}
use mathlib.Core.List.{List, map}
use native.Mathlib.Omega.{arith}
use borrow.Author.Tests.{eqb-true}
use lib.Dec.{eqb}
use lib.ListN.{length, get_or, set, length-map, length-set}
use lib.Seq.{get_or-set_same, get_or-set_other}
use Rattle.lists.specs.Below.{iter_below}
use Rattle.lists.specs.Lists.{keep}
use Rattle.lists.specs.Tables.{entries_of}
use Rattle.lists.proofs.ListLaws.{by_test, clash}
use Rattle.lists.proofs.TableLaws.{entries_packed}
use Rattle.handles.specs.Slots.{slot_at, lookup_of}
use Rattle.handles.specs.declared.arena.Arena.{Arena}
use Rattle.handles.specs.declared.arena.SlotStatus.TheVariants.{Live}
use Rattle.handles.specs.declared.GenerationalHandle.{GenerationalHandle}
use Rattle.handles.proofs.LookupLaws.{live_facts}
use Rattle.handles.proofs.SlotLaws.{by_same}
use Rattle.maps.specs.Captures.{captures, PointerCaptures}
use Rattle.maps.specs.MapTables.{is_some, retained}
use Rattle.maps.specs.declared.captures.Capture.{Capture}
use Rattle.maps.specs.declared.keys.InputDeviceId.{InputDeviceId}
use Rattle.records.specs.Layers.{Layers, layers, is_live}
use Rattle.composition_state.specs.declared.registry.CompositionRegistry.{CompositionRegistry}
use Rattle.records.specs.declared.view.ViewRecord.{ViewRecord}
use Rattle.records.specs.Views.{ViewTable, no_view, view_at, view_slots, view_status}
use Rattle.composition_state.specs.Damage.{view_handle}
use Rattle.composition_state.specs.Registry.{outcome_of, with_views, settled, answered}
use Rattle.composition_input.specs.Captures.{primary, capture, is_of_device, loses_primary, left_view, taken_at, device_captures, cleared_at, device_cleared, device_refusal, release_device_pointer_captures}
use Rattle.composition_arbitration.specs.Targets.{is_among}
use Rattle.composition_soundness.proofs.CaseLaws.{live_is}
use Rattle.composition_soundness.proofs.ListLaws.{all_keep}
use Rattle.composition_soundness.proofs.PartLaws.{Parts}
use Rattle.composition_soundness.proofs.ChangeLaws.{CaptureParts, view_of_lem}
use Rattle.composition_soundness.proofs.WindowLaws.{all_slots, views_few}
use Rattle.book.specs.Book.{Held, Book, with_captures, is_held_in_view, without_captures}
use Rattle.registry_book.specs.MapTests.{is_of_map_device}
use Rattle.registry_book.specs.Agreement.{in_view, held_at, held_in, is_held_well, Agrees, Follows}
use Rattle.registry_book.specs.Claims.{capture_of}
use Rattle.registry_book.proofs.ListLaws.{keep_rest, keep_map, map_back}
use Rattle.registry_book.proofs.GatherLaws.{gather_same, gather_keep, gather_map}
use Rattle.registry_book.proofs.HeldLaws.{Neat, live_few, held_view, held_kept}
use Rattle.registry_book.proofs.AgreeLaws.{follows, HasPrimary, Mapped, views_follow}
use Rattle.registry_book.proofs.PrimaryLaws.{none≢some, found_kept, new_captures, old_layers, still_mapped}
use Rattle.registry_book.proofs.ViewLaws.{neat_views}
use Rattle.composition_state.proofs.SettleLaws.{without_value}

lower : {i n : ℕ} → i < suc n → (i ≡ n → ⊥) → i < n
lower {i} {n} a b = omega arith

-- ---- the lists
pub view_list : (r : CompositionRegistry) (b : Book) → Parts r → Agrees r b → (v : GenerationalHandle) → lookup_of r.views.arena v ≡ Live
    → entries_of captures (view_at r.views v).pointer_captures ≡ map capture_of (keep (is_held_in_view v) b.captures)
view_list r b p a v e =
    sym (map_back (in_view v) capture_of (λ c. refl) (entries_of captures (view_at r.views v).pointer_captures))
    ∙ ap (map capture_of) (sym (held_view r.views (neat_views r p) v e) ∙ ap (keep (is_held_in_view v)) a.captures_held)

module _ (value generation : ℕ) where
  abbrev device : InputDeviceId
  device = record { value = value; generation = generation }

  abbrev is_taken : Held → Bool
  is_taken = is_of_map_device device

  taken_slot : (t : ViewTable) (i : ℕ) → map capture_of (keep is_taken (held_at t i)) ≡ taken_at t value generation i
  taken_slot t i =
      let v = view_handle t i in
      let l = entries_of captures (view_at t v).pointer_captures in
      by_test (slot_at t.arena i).filled
      (λ s. rw s (ap (map capture_of) (keep_map (in_view v) is_taken l) ∙ map_back (in_view v) capture_of (λ c. refl) (keep (is_of_device value generation) l)))
      (λ s. rw s)

  taken_all : (t : ViewTable) → map capture_of (keep is_taken (held_in t)) ≡ device_captures t value generation
  unfolding held_in device_captures
  taken_all t =
      ap (map capture_of) (gather_keep is_taken (held_at t) (view_slots t)) ∙ gather_map capture_of (λ i. keep is_taken (held_at t i)) (view_slots t)
      ∙ gather_same (λ i. map capture_of (keep is_taken (held_at t i))) (taken_at t value generation) (view_slots t) (λ i l. taken_slot t i)

  pub device_list : (r : CompositionRegistry) (b : Book) → Agrees r b → device_captures r.views value generation ≡ map capture_of (keep (is_of_map_device (record { value = value; generation = generation })) b.captures)
  device_list r b a = sym (taken_all r.views) ∙ ap (λ (l : List Held). map capture_of (keep is_taken l)) a.captures_held

  -- ---- a view without the device's captures
  abbrev left : PointerCaptures → PointerCaptures
  left t = retained captures (λ e. not (is_of_device value generation e)) t

  left_held : (g : GenerationalHandle) (v : ViewRecord) → map (in_view g) (entries_of captures (left_view value generation v).pointer_captures)
      ≡ keep (λ x. not (is_taken x)) (map (in_view g) (entries_of captures v.pointer_captures))
  left_held g v =
      let l = entries_of captures v.pointer_captures in
      ap (λ (t : PointerCaptures). map (in_view g) (entries_of captures t)) (new_captures (loses_primary value generation v.pointer_captures) None (left v.pointer_captures) v)
      ∙ ap (map (in_view g)) (entries_packed captures (keep (λ e. not (is_of_device value generation e)) l)) ∙ sym (keep_map (in_view g) (λ x. not (is_taken x)) l)

  left_mapped : (v : ViewRecord) → CaptureParts v.pointer_captures → Mapped v → Mapped (left_view value generation v)
  left_mapped v x m = still_mapped (loses_primary value generation v.pointer_captures) None (left v.pointer_captures) v (λ h s q. none≢some q) (λ h s q. kept h s (m h q))
    where
      kept : (h : GenerationalHandle) → loses_primary value generation v.pointer_captures ≡ false → HasPrimary h v.pointer_captures → HasPrimary h (left v.pointer_captures)
      kept h s y = by_test (is_of_device value generation (capture primary h))
          (λ t. clash (ap (λ (o : Option Capture). is_some o && is_of_device value generation (capture primary h)) y ∙ t) s)
          (λ t. found_kept v.pointer_captures x (λ e. not (is_of_device value generation e)) h y ∙ rw t)

  -- ---- the views of the slots passed are without them
  record Cleared (t after : ViewTable) (n : ℕ) : Type 0 where
    slots : after.arena ≡ t.arena
    long : length after.records ≡ 16
    done : (h : GenerationalHandle) → lookup_of t.arena h ≡ Live → h.index < n → view_at after h ≡ left_view value generation (view_at t h)
    yet : (h : GenerationalHandle) → lookup_of t.arena h ≡ Live → n ≤ h.index → view_at after h ≡ view_at t h

  module _ (t : ViewTable) (neat : Neat t.arena) (long : length t.records ≡ 16) where
    turn : (after : ViewTable) (n : ℕ) → Cleared t after n → (s : Bool) → (slot_at after.arena n).filled ≡ s
        → Cleared t (cond s (record { arena = after.arena; records = set after.records n (left_view value generation (get_or after.records n no_view)) }) after) (suc n)
    turn after n c true f = record {
      slots = c.slots;
      long = length-set after.records n _ ∙ c.long;
      done = λ h e l. by_same h.index n
          (λ i. ap (λ (j : ℕ). get_or (set after.records n w) j no_view) i ∙ get_or-set_same after.records n w no_view (within (live_few t.arena neat h e) i c.long)
          ∙ ap (left_view value generation) (ap (λ (j : ℕ). get_or after.records j no_view) (sym i) ∙ c.yet h e (omega (arith, i))))
          (λ d. get_or-set_other after.records n h.index w no_view d ∙ c.done h e (lower l d));
      yet = λ h e l. get_or-set_other after.records n h.index w no_view (over l) ∙ c.yet h e (omega (arith, l));
    }
      where
        w : ViewRecord
        w = left_view value generation (get_or after.records n no_view)

        within : {i n m : ℕ} → i < 16 → i ≡ n → m ≡ 16 → n < m
        within {i} {n} {m} a b c = omega arith

        over : {i n : ℕ} → suc n ≤ i → i ≡ n → ⊥
        over {i} {n} a b = omega arith
    turn after n c false f = record {
      slots = c.slots;
      long = c.long;
      done = λ h e l. by_same h.index n
          (λ i. clash (ap (λ (j : ℕ). (slot_at after.arena j).filled) (sym i) ∙ ap (λ (x : Arena). (slot_at x h.index).filled) c.slots ∙ (live_facts t.arena h e).filled) f)
          (λ d. c.done h e (lower l d));
      yet = λ h e l. c.yet h e (omega (arith, l));
    }

    cleared : (n : ℕ) → Cleared t (iter_below (cleared_at value generation) n t) n
    unfolding iter_below
    cleared zero = record { slots = refl; long = long; done = λ h e l. absurd (none_below l); yet = λ h e l. refl }
      where
        none_below : {i : ℕ} → i < 0 → ⊥
        none_below {i} l = omega arith
    cleared (suc n) = turn (iter_below (cleared_at value generation) n t) n (cleared n) (slot_at (iter_below (cleared_at value generation) n t).arena n).filled refl

  -- ---- the book follows
  module _ (r : CompositionRegistry) (p : Parts r) (b : Book) (a : Agrees r b) where
    abbrev after : ViewTable
    after = device_cleared r.views value generation

    all_cleared : Cleared r.views after (view_slots r.views)
    unfolding device_cleared
    all_cleared = cleared r.views (neat_views r p) p.view_records (view_slots r.views)

    was_live : (h : GenerationalHandle) → lookup_of after.arena h ≡ Live → lookup_of r.views.arena h ≡ Live
    was_live h e = ap (λ (x : Arena). lookup_of x h) (sym all_cleared.slots) ∙ e

    record_left : (h : GenerationalHandle) → lookup_of r.views.arena h ≡ Live → view_at after h ≡ left_view value generation (view_at r.views h)
    record_left h e = all_cleared.done h e (subst (λ (n : ℕ). h.index < n) (sym (all_slots r.views (views_few r p))) (live_facts r.views.arena h e).used)

    left_follows : Follows r (with_views after r) (without_captures is_taken b)
    unfolding without_captures
    left_follows = views_follow r (with_views after r) b (without_captures is_taken b) a (record { status = λ h. refl; view = λ h. refl })
        (held_kept r.views after (λ x. not (is_taken x)) (record {
          kept = λ h e l. ap (λ (x : ViewRecord). map (in_view h) (entries_of captures x.pointer_captures)) (record_left h e) ∙ left_held h (view_at r.views h);
          fresh = λ h n l. absurd (n (was_live h l));
          gone = λ h e n. absurd (n (ap (λ (x : Arena). lookup_of x h) all_cleared.slots ∙ e));
        }) (neat_views r p) (subst Neat (sym all_cleared.slots) (neat_views r p)) ∙ ap (keep (λ x. not (is_taken x))) a.captures_held)
        refl (all_keep (is_held_well r) (λ x. not (is_taken x)) b.captures a.held_well)
        (λ g h l m. (
          ap (λ (x : Arena). is_live (lookup_of x g)) all_cleared.slots ∙ l,
          ap (λ (x : ViewRecord). is_among h (entries_of layers x.surfaces)) (record_left g (live_is (view_status r.views g) l))
              ∙ ap (λ (t : Layers). is_among h (entries_of layers t)) (old_layers (loses_primary value generation (view_at r.views g).pointer_captures) None (left (view_at r.views g).pointer_captures) (view_at r.views g))
              ∙ m,
        ))
        (λ g l. let e = was_live g (live_is (view_status after g) l) in
        subst Mapped (sym (record_left g e)) (left_mapped (view_at r.views g) (view_of_lem r p g e).captured (λ h q. a.single_mapped g h (ap is_live e) q)))

    -- where the list is empty the book has no capture of the device either
    none_taken : length (device_captures r.views value generation) ≡ 0 → Follows r r (without_captures is_taken b)
    unfolding without_captures
    none_taken z = subst (Follows r r) (sym (ap (λ (l : List Held). with_captures l b) (keep_rest is_taken b.captures (sym (ap length (device_list r b a) ∙ length-map (keep is_taken b.captures) capture_of) ∙ z))))
        (record { agrees = a; keeps = record { stays = λ h o. (o, refl) } })

    by_list : (s : Bool) → eqb (length (device_captures r.views value generation)) 0 ≡ s
        → (cond s (answered (device_refusal r value generation) r) (settled (device_refusal r value generation) r (with_views after r))).outcome ≡ Ok tt
        → Follows r (cond s (answered (device_refusal r value generation) r) (settled (device_refusal r value generation) r (with_views after r))).registry (without_captures is_taken b)
    by_list true z y = none_taken (eqb-true _ 0 z)
    by_list false z y = follows (without_captures is_taken b) (device_refusal r value generation) r (with_views after r) y (λ o. left_follows)

    pub release_device : outcome_of (release_device_pointer_captures r value generation) ≡ Ok tt
        → Follows r (release_device_pointer_captures r value generation).registry (without_captures (is_of_map_device (record { value = value; generation = generation })) b)
    unfolding release_device_pointer_captures
    release_device y = by_list (eqb (length (device_captures r.views value generation)) 0) refl (sym (without_value _ _) ∙ y)
