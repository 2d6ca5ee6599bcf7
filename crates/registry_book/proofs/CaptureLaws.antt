-- A capture and the releases change the captures of the panel's own view, and a suspension those of its view: the book's change in the same place, and the single field keeps to the map.
use Rattle.std.specs.Prelude.{Option, None, Some, Ok}
use Prim.Native.Nat.{ℕ}
use mathlib.Core.Path.{◌≡◌, refl, sym, ap, ◌∙◌, subst}
use mathlib.Core.Bool.{Bool, true, cond, not}
use mathlib.Core.List.{List, [], map}
use borrow.Author.Tests.{not-false}
use Rattle.lists.specs.Lists.{keep, all}
use Rattle.lists.specs.Maps.{insert, lookup, remove}
use Rattle.lists.specs.Tables.{entries_of}
use Rattle.lists.proofs.ListLaws.{clash, and_right, and_both, all_append}
use Rattle.lists.proofs.TableLaws.{entries_packed}
use Rattle.handles.specs.Handles.{same_handle, handle_lt, holds_handle}
use Rattle.handles.specs.Slots.{lookup_of}
use Rattle.handles.specs.declared.arena.SlotStatus.TheVariants.{Live}
use Rattle.handles.specs.declared.GenerationalHandle.{GenerationalHandle}
use Rattle.handles.proofs.HandleLaws.{handles}
use Rattle.maps.specs.Captures.{captures, capture_key, surface_of, PointerCaptures}
use Rattle.maps.specs.Keys.{pointer_key, key_lt, key_same, pointer_valid}
use Rattle.maps.specs.MapTables.{found, removed, inserted}
use Rattle.maps.specs.declared.captures.Capture.{Capture}
use Rattle.maps.specs.declared.keys.CompositionPointerId.{CompositionPointerId}
use Rattle.maps.proofs.MapTableLaws as table
use Rattle.records.specs.declared.error.CompositionError.TheVariants.{InvalidSurface, StaleSurface, InvalidView, StaleView, NotInteractive}
use Rattle.composition_state.specs.declared.registry.CompositionRegistry.{CompositionRegistry}
use Rattle.records.specs.declared.view.ViewRecord.{ViewRecord}
use Rattle.records.specs.Errors.{refusal_if}
use Rattle.records.specs.Layers.{is_live}
use Rattle.records.specs.Surfaces.{surface_status, surface_refusal}
use Rattle.records.specs.Views.{view_at, view_status, with_view}
use Rattle.composition_state.proofs.SettleLaws.{then_last, if_accepted}
use Rattle.composition_input.specs.Captures.{primary, is_primary, capture, own_record, capture_refusal, captured_view, capture_pointer_for, released_view, owner_refusal, release_for_refusal, release_pointer_for, release_refusal, release_pointer}
use Rattle.composition_input.specs.Focus.{entry_refusal, own_view, with_view_record, suspend_refusal, suspended_view, suspend_view_input}
use Rattle.composition_soundness.proofs.CaseLaws.{then_first, status_live, live_is}
use Rattle.composition_soundness.proofs.ListLaws.{all_keep}
use Rattle.composition_soundness.proofs.PartLaws.{Parts}
use Rattle.composition_soundness.proofs.ChangeLaws.{view_of_lem}
use Rattle.book.specs.Book.{Book, with_captures, capture_in, is_held_in_view, is_held_on_panel, without_captures}
use Rattle.registry_book.specs.MapTests.{map_place, place_lt, is_map_entry, captured_in, captured}
use Rattle.registry_book.specs.Agreement.{view_of, in_view, held_in, is_held_well, Agrees, Follows}
use Rattle.registry_book.proofs.ListLaws.{all_every, keep_every, keep_nothing, insert_map, found_removed}
use Rattle.registry_book.proofs.HeldLaws.{apart, held_of, all_held, held_inserted}
use Rattle.registry_book.proofs.AgreeLaws.{made_follows, follows, Mapped}
use Rattle.registry_book.proofs.PrimaryLaws.{none≢some, same_panel, primary_is, found_packed, new_captures, old_layers, still_mapped}
use Rattle.registry_book.proofs.ViewLaws.{neat_views, others_stay, record_own, view_follows, view_drops}
use Rattle.composition_state.specs.Registry.{outcome_of}

module _ (r : CompositionRegistry) (p : Parts r) (b : Book) (a : Agrees r b) where
  own_live : (h : GenerationalHandle) → surface_status r.surfaces h ≡ Live → lookup_of r.views.arena (own_view r h) ≡ Live
  own_live h o = live_is (view_status r.views (view_of r h)) (a.layered h (ap is_live o)).0

  module _ (q : CompositionPointerId) (h : GenerationalHandle) (o : surface_status r.surfaces h ≡ Live) where
    abbrev view : GenerationalHandle
    view = own_view r h

    abbrev old : ViewRecord
    old = own_record r h

    abbrev entries : List Capture
    entries = entries_of captures old.pointer_captures

    live : lookup_of r.views.arena view ≡ Live
    live = own_live h o

    -- ---- a capture
    abbrev taken : PointerCaptures
    taken = inserted captures capture_key (capture q h) old.pointer_captures

    taken_mapped : Mapped (captured_view q h old)
    taken_mapped = still_mapped (is_primary q) (Some h) taken old
        (λ g s m. let is = primary_is q s in
        found_packed (pointer_key primary) (insert capture_key key_lt (capture q h) entries)
        ∙ ap (λ (x : CompositionPointerId). lookup capture_key key_same (pointer_key x) (insert capture_key key_lt (capture q h) entries)) (sym is)
        ∙ (table.claims capture_key).find_inserted (capture q h) entries ∙ λ i. Some (capture (is i) (same_panel m i)))
        (λ g s m. found_packed (pointer_key primary) (insert capture_key key_lt (capture q h) entries)
        ∙ (table.claims capture_key).find_insert_other (pointer_key primary) (capture q h) entries s ∙ a.single_mapped view g (ap is_live live) m)

    same_order : (x y : Capture) → place_lt (map_place (in_view view x)) (map_place (in_view view y)) ≡ key_lt (capture_key x) (capture_key y)
    same_order x y = ap (λ (s : Bool). cond s (key_lt (capture_key x) (capture_key y)) (handle_lt view view)) (handles.same_refl view)

    taken_held : held_in (with_view view (captured_view q h old) r.views) ≡ insert map_place place_lt (capture_in view q h) b.captures
    taken_held = held_inserted r.views (neat_views r p) view live (captured_view q h old) (capture q h)
        (ap (λ (x : ViewRecord). map (in_view view) (entries_of captures x.pointer_captures)) (record_own r p view live (captured_view q h old))
        ∙ ap (λ (t : PointerCaptures). map (in_view view) (entries_of captures t)) (new_captures (is_primary q) (Some h) taken old)
        ∙ ap (map (in_view view)) (entries_packed captures (insert capture_key key_lt (capture q h) entries))
        ∙ sym (insert_map (in_view view) capture_key key_lt map_place place_lt same_order (capture q h) entries))
        ∙ ap (insert map_place place_lt (capture_in view q h)) a.captures_held

    taken_well : all (is_held_well r) (insert map_place place_lt (capture_in view q h) b.captures) ≡ true
    taken_well =
        all_append (is_held_well r) (keep (λ x. place_lt (map_place x) (map_place (capture_in view q h))) b.captures) _
        ∙ and_both (all_keep (is_held_well r) (λ x. place_lt (map_place x) (map_place (capture_in view q h))) b.captures a.held_well)
        (and_both (and_both (ap is_live o) (handles.same_refl view)) (all_keep (is_held_well r) (λ x. place_lt (map_place (capture_in view q h)) (map_place x)) b.captures a.held_well))

    taken_follows : Follows r (with_view_record view (captured_view q h old) r) (captured q h b)
    unfolding captured
    taken_follows = subst (Follows r (with_view_record view (captured_view q h old) r)) (sym (ap (λ (m : Option GenerationalHandle). captured_in m q h b) (a.homes_known h (ap is_live o))))
        (view_follows r p b a view live (captured_view q h old) (old_layers (is_primary q) (Some h) taken old) taken_mapped
        (with_captures (insert map_place place_lt (capture_in view q h) b.captures) b) taken_held refl taken_well)

    -- ---- a release of a pointer that the panel has
    abbrev left : PointerCaptures
    left = removed captures capture_key (pointer_key q) old.pointer_captures

    left_mapped : Mapped (released_view q old)
    left_mapped = still_mapped (is_primary q) None left old
        (λ g s m. none≢some m)
        (λ g s m. found_packed (pointer_key primary) (remove capture_key key_same (pointer_key q) entries)
        ∙ (table.claims capture_key).find_remove_other (pointer_key primary) (pointer_key q) entries s ∙ a.single_mapped view g (ap is_live live) m)

    left_follows : (c : Capture) → found captures capture_key (pointer_key q) old.pointer_captures ≡ Some c → same_handle h c.surface ≡ true
        → Follows r (with_view_record view (released_view q old) r) (without_captures (is_map_entry q h) b)
    left_follows c f s = view_drops r p b a view live (released_view q old) (old_layers (is_primary q) None left old) left_mapped (is_map_entry q h)
        (ap (entries_of captures) (new_captures (is_primary q) None left old) ∙ entries_packed captures (remove capture_key key_same (pointer_key q) entries)
        ∙ found_removed capture_key table.keys (λ x. same_handle h x.surface) (pointer_key q) c entries (view_of_lem r p view live).captured.rise f s)
        (others_stay r p b a (is_map_entry q h) h (λ x y. and_right (key_same (pointer_key q) (capture_key x.capture)) (is_held_on_panel h x) y))

  pub capture_for_lem : (q : CompositionPointerId) (h : GenerationalHandle) (n : ℕ) → (capture_pointer_for r q h n).outcome ≡ Ok tt → Follows r (capture_pointer_for r q h n).registry (captured q h b)
  unfolding capture_pointer_for
  capture_for_lem q h n y = follows (captured q h b) (capture_refusal r q h n) r _ y (λ o.
      let o₁ = then_last (refusal_if (not (pointer_valid q)) NotInteractive) _ (then_last (entry_refusal r n) _ o) in
      taken_follows q h (status_live (surface_status r.surfaces h) InvalidSurface StaleSurface (then_first (surface_refusal r.surfaces h) _ o₁)))

  owner : (h : GenerationalHandle) (n : ℕ) → owner_refusal r h n ≡ Ok tt → surface_status r.surfaces h ≡ Live
  owner h n o = status_live (surface_status r.surfaces h) InvalidSurface StaleSurface (then_first (surface_refusal r.surfaces h) _ (then_last (entry_refusal r n) _ o))

  -- the map has the panel for the pointer
  pub release_for_lem : (q : CompositionPointerId) (h : GenerationalHandle) (n : ℕ) → (release_pointer_for r q h n).outcome ≡ Ok tt
      → Follows r (release_pointer_for r q h n).registry (without_captures (is_map_entry q h) b)
  unfolding release_pointer_for
  release_for_lem q h n y = follows (without_captures (is_map_entry q h) b) (release_for_refusal r q h n) r _ y (λ o.
      let has = not-false (holds_handle (surface_of (found captures capture_key (pointer_key q) (own_record r h).pointer_captures)) h) (if_accepted _ NotInteractive (then_last (owner_refusal r h n) _ o)) in
      go (owner h n (then_first (owner_refusal r h n) _ o)) (found captures capture_key (pointer_key q) (own_record r h).pointer_captures) refl has)
    where
      go : surface_status r.surfaces h ≡ Live → (m : Option Capture) → found captures capture_key (pointer_key q) (own_record r h).pointer_captures ≡ m → holds_handle (surface_of m) h ≡ true
          → Follows r (with_view_record (own_view r h) (released_view q (own_record r h)) r) (without_captures (is_map_entry q h) b)
      go o None f t = clash t refl
      go o (Some c) f t = left_follows q h o c f (ap (same_handle h) (handles.same_eq c.surface h t) ∙ handles.same_refl h)

  -- the single field has the panel, so the map has it for PRIMARY
  pub release : (h : GenerationalHandle) (n : ℕ) → (release_pointer r h n).outcome ≡ Ok tt → Follows r (release_pointer r h n).registry (without_captures (is_map_entry primary h) b)
  unfolding release_pointer
  release h n y = follows (without_captures (is_map_entry primary h) b) (release_refusal r h n) r _ y (λ o.
      let has = not-false (holds_handle (own_record r h).pointer_capture h) (if_accepted _ NotInteractive (then_last (owner_refusal r h n) _ o)) in
      go (owner h n (then_first (owner_refusal r h n) _ o)) (own_record r h).pointer_capture refl has)
    where
      go : surface_status r.surfaces h ≡ Live → (m : Option GenerationalHandle) → (own_record r h).pointer_capture ≡ m → holds_handle m h ≡ true
          → Follows r (with_view_record (own_view r h) (released_view primary (own_record r h)) r) (without_captures (is_map_entry primary h) b)
      go o None f t = clash t refl
      go o (Some g) f t = left_follows primary h o (capture primary h)
          (a.single_mapped (own_view r h) h (ap is_live (own_live h o)) (f ∙ ap (λ (x : GenerationalHandle). Some x) (handles.same_eq g h t))) (handles.same_refl h)

  -- ---- a suspension
  module _ (v : GenerationalHandle) (e : lookup_of r.views.arena v ≡ Live) where
    abbrev before : List Capture
    before = entries_of captures (view_at r.views v).pointer_captures

    suspended_follows : Follows r (with_view_record v (suspended_view (view_at r.views v)) r) (without_captures (is_held_in_view v) b)
    suspended_follows = view_drops r p b a v e (suspended_view (view_at r.views v)) refl (λ h q. none≢some q) (is_held_in_view v)
        (entries_packed captures [] ∙ sym (keep_nothing (λ c. not (is_held_in_view v (in_view v c))) before (all_every _ (λ c. ap (λ (s : Bool). not (not s)) (handles.same_refl v)) before)))
        (λ g l n. keep_every (λ x. not (is_held_in_view v x)) (held_of r.views g) (all_held r.views (λ x. not (is_held_in_view v x)) g (λ c. ap not (apart g v n))))

  pub suspend : (v : GenerationalHandle) (n : ℕ) → outcome_of (suspend_view_input r v n) ≡ Ok tt → Follows r (suspend_view_input r v n).registry (without_captures (is_held_in_view v) b)
  unfolding suspend_view_input
  suspend v n y = made_follows _ (without_captures (is_held_in_view v) b) (suspend_refusal r v n) r _ y (λ o.
      suspended_follows v (status_live (view_status r.views v) InvalidView StaleView (then_last (entry_refusal r n) _ o)))
