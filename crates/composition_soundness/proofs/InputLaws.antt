-- The calls on focus, captures and compositions change one view's record, of which only the captures are tested: an insertion and a removal keep their keys rising.
use Rattle.std.specs.Prelude.{Option, None, Some, Ok}
use Prim.Native.Nat.{ℕ, zero, suc, ◌≤◌}
use mathlib.Core.Path.{◌≡◌, refl, sym, ap, ◌∙◌, subst}
use mathlib.Core.Bool.{Bool, true, cond, not}
use mathlib.Core.List.{[]}
use native.Mathlib.Omega.{arith}
use borrow.Author.Tests.{not-false}
use lib.Dec.{eqb}
use lib.ListN.{length}
use Rattle.lists.specs.Below.{iter_below}
use Rattle.lists.specs.Lists.{keep}
use Rattle.lists.specs.Maps.{insert, rising}
use Rattle.lists.specs.Tables.{entries_of, packed}
use Rattle.lists.proofs.TableLaws.{entries_packed, len_packed}
use Rattle.handles.specs.Slots.{slot_at, lookup_of}
use Rattle.handles.specs.declared.arena.Arena.{Arena}
use Rattle.handles.specs.declared.GenerationalHandle.{GenerationalHandle}
use Rattle.maps.specs.Captures.{captures, capture_key, PointerCaptures}
use Rattle.maps.specs.Keys.{pointer_key, key_lt, key_same, pointer_valid}
use Rattle.maps.specs.MapTables.{accepts, inserted, retained}
use Rattle.maps.specs.declared.captures.Capture.{Capture}
use Rattle.maps.specs.declared.keys.CompositionPointerId.{CompositionPointerId}
use Rattle.maps.proofs.MapTableLaws as map
use Rattle.records.specs.declared.error.CompositionError.TheVariants.{NotInteractive, PortLimit}
use Rattle.composition_state.specs.Registry.{Changed}
use Rattle.composition_state.specs.declared.registry.CompositionRegistry.{CompositionRegistry}
use Rattle.records.specs.Surfaces.{SurfaceTable, surface_refusal}
use Rattle.records.specs.declared.view.ViewRecord.{ViewRecord}
use Rattle.records.specs.Views.{ViewTable, view_at, view_refusal, view_slots, with_focus, with_ime, with_pointer_capture, with_pointer_captures}
use Rattle.composition_state.specs.Damage.{view_handle}
use Rattle.records.specs.Errors.{refusal_if}
use Rattle.composition_state.specs.Registry.{with_views}
use Rattle.composition_state.proofs.SettleLaws.{then_last, if_accepted}
use Rattle.composition_input.specs.Focus.{entry_refusal, own_view, interactive_refusal, with_view_record, focus_refusal, set_focus, begin_ime_refusal, begin_ime, end_ime_refusal, end_ime, suspend_refusal, suspended_view, suspend_view_input}
use Rattle.composition_input.specs.Captures.{primary, is_primary, capture, own_record, capture_refusal, captured_view, capture_pointer_for, released_view, release_for_refusal, release_pointer_for, release_refusal, release_pointer, is_of_device, loses_primary, left_view, cleared_at, device_captures, device_cleared, device_refusal, release_device_pointer_captures}
use Rattle.composition_soundness.proofs.CaseLaws.{either}
use Rattle.composition_soundness.proofs.ListLaws.{entries_few, kept_few}
use Rattle.composition_soundness.proofs.PartLaws.{Parts, keeps}
use Rattle.composition_soundness.proofs.ChangeLaws.{LayerParts, CaptureParts, ViewParts, view_changed}

-- a record with the same window and layers, and captures that pass
pub as_before : {windows : Arena} {surfaces : SurfaceTable} {limit : ℕ} {view : GenerationalHandle} {v : ViewRecord} (w : ViewRecord)
    → ViewParts windows surfaces limit view v → w.window ≡ v.window → w.surfaces ≡ v.surfaces → CaptureParts w.pointer_captures → ViewParts windows surfaces limit view w
as_before {windows} {surfaces} {limit} {view} {v} w x a b c = record {
  window = ap (lookup_of windows) a ∙ x.window;
  layered = subst (LayerParts surfaces limit view) (sym b) x.layered;
  captured = c;
}

-- ---- captures
pub none_captured : CaptureParts (packed captures [])
none_captured = record {
  count = subst (λ (n : ℕ). n ≤ 32) (sym (len_packed captures [])) (omega arith);
  rise = ap (rising capture_key key_lt) (entries_packed captures []);
}

pub kept_captured : (q : Capture → Bool) (t : PointerCaptures) → CaptureParts t → CaptureParts (retained captures q t)
kept_captured q t x = record {
  count = kept_few captures q t 32 x.count;
  rise = ap (rising capture_key key_lt) (entries_packed captures (keep q (entries_of captures t))) ∙ (map.claims capture_key).keep_rises q (entries_of captures t) x.rise;
}

inserted_captured : (e : Capture) (t : PointerCaptures) → accepts captures capture_key e t ≡ true → CaptureParts t → CaptureParts (inserted captures capture_key e t)
inserted_captured e t a x =
    let few : length (entries_of captures t) ≤ 32 = omega (arith, entries_few captures t, x.count) in
    record {
      count = subst (λ (n : ℕ). n ≤ 32) (sym (len_packed captures (insert capture_key key_lt e (entries_of captures t)))) (map.accepted_fits captures capture_key t e few a);
      rise = ap (rising capture_key key_lt) (entries_packed captures (insert capture_key key_lt e (entries_of captures t)))
          ∙ (map.claims capture_key).insert_rises e (entries_of captures t) x.rise;
    }

module _ {windows : Arena} {surfaces : SurfaceTable} {limit : ℕ} {view : GenerationalHandle} {v : ViewRecord} (x : ViewParts windows surfaces limit view v) where
  -- the map alone, or the single field with it
  recaptured : (b : Bool) (m : Option GenerationalHandle) (t : PointerCaptures) → CaptureParts t
      → ViewParts windows surfaces limit view (cond b (with_pointer_capture m (with_pointer_captures t v)) (with_pointer_captures t v))
  recaptured b m t c = either (ViewParts windows surfaces limit view) b _ _
      (as_before (with_pointer_capture m (with_pointer_captures t v)) x refl refl c) (as_before (with_pointer_captures t v) x refl refl c)

-- ---- the calls
module _ (r : CompositionRegistry) (p : Parts r) where
  pub focus : (view : GenerationalHandle) (h : Option GenerationalHandle) (n : ℕ) → Parts (set_focus r view h n).registry
  unfolding set_focus
  focus view h n = keeps (focus_refusal r view h n) r _ p (λ a. view_changed r p view (with_focus h (view_at r.views view)) (λ g e i x. as_before _ x refl refl x.captured))

  pub begin_ime_lem : (h : GenerationalHandle) (n : ℕ) → Parts (begin_ime r h n).registry
  unfolding begin_ime
  begin_ime_lem h n = keeps (begin_ime_refusal r h n) r _ p (λ a. view_changed r p (own_view r h) (with_ime (Some h) (own_record r h)) (λ g e i x. as_before _ x refl refl x.captured))

  pub end_ime_lem : (h : GenerationalHandle) (n : ℕ) → Parts (end_ime r h n).registry
  unfolding end_ime
  end_ime_lem h n = keeps (end_ime_refusal r h n) r _ p (λ a. view_changed r p (own_view r h) (with_ime None (own_record r h)) (λ g e i x. as_before _ x refl refl x.captured))

  pub suspend : (view : GenerationalHandle) (n : ℕ) → Parts (suspend_view_input r view n).registry
  unfolding suspend_view_input
  suspend view n = keeps (suspend_refusal r view n) r _ p (λ a. view_changed r p view (suspended_view (view_at r.views view)) (λ g e i x. as_before _ x refl refl none_captured))

  -- the last check of a capture: the map takes the pointer
  accepted : (q : CompositionPointerId) (h : GenerationalHandle) (n : ℕ) → capture_refusal r q h n ≡ Ok tt
      → accepts captures capture_key (capture q h) (own_record r h).pointer_captures ≡ true
  accepted q h n a =
      let a₁ = then_last (entry_refusal r n) _ a in
      let a₂ = then_last (refusal_if (not (pointer_valid q)) NotInteractive) _ a₁ in
      let a₃ = then_last (surface_refusal r.surfaces h) _ a₂ in
      let a₄ = then_last (interactive_refusal r h) _ a₃ in
      let a₅ = then_last (view_refusal r.views (own_view r h)) _ a₄ in
      not-false (accepts captures capture_key (capture q h) (own_record r h).pointer_captures) (if_accepted _ PortLimit a₅)

  pub capture_pointer_for_lem : (q : CompositionPointerId) (h : GenerationalHandle) (n : ℕ) → Parts (capture_pointer_for r q h n).registry
  unfolding capture_pointer_for
  capture_pointer_for_lem q h n = keeps (capture_refusal r q h n) r _ p (λ a. view_changed r p (own_view r h) (captured_view q h (own_record r h))
      (λ g e i x. recaptured x (is_primary q) (Some h) _ (inserted_captured (capture q h) (own_record r h).pointer_captures (accepted q h n a) x.captured)))

  without : (q : CompositionPointerId) (h : GenerationalHandle) → Parts (with_view_record (own_view r h) (released_view q (own_record r h)) r)
  without q h = view_changed r p (own_view r h) (released_view q (own_record r h))
      (λ g e i x. recaptured x (is_primary q) None _ (kept_captured (λ e. not (key_same (pointer_key q) (capture_key e))) (own_record r h).pointer_captures x.captured))

  pub release_pointer_for_lem : (q : CompositionPointerId) (h : GenerationalHandle) (n : ℕ) → Parts (release_pointer_for r q h n).registry
  unfolding release_pointer_for
  release_pointer_for_lem q h n = keeps (release_for_refusal r q h n) r _ p (λ a. without q h)

  pub release_pointer_lem : (h : GenerationalHandle) (n : ℕ) → Parts (release_pointer r h n).registry
  unfolding release_pointer
  release_pointer_lem h n = keeps (release_refusal r h n) r _ p (λ a. without primary h)

  -- ---- of a device, view after view
  module _ (device generation : ℕ) where
    cleared : (n : ℕ) → Parts (with_views (iter_below (cleared_at device generation) n r.views) r)
    unfolding iter_below
    cleared zero = p
    cleared (suc n) =
        let t : ViewTable = iter_below (cleared_at device generation) n r.views in
        let v : ViewRecord = view_at t (view_handle t n) in
        either (λ (x : ViewTable). Parts (with_views x r)) (slot_at t.arena n).filled _ _
        (view_changed (with_views t r) (cleared n) (view_handle t n) (left_view device generation v)
        (λ g e i x. recaptured x (loses_primary device generation v.pointer_captures) None _ (kept_captured (λ e. not (is_of_device device generation e)) v.pointer_captures x.captured)))
        (cleared n)

    pub release_device : Parts (release_device_pointer_captures r device generation).registry
    unfolding release_device_pointer_captures device_cleared
    release_device = either (λ (c : Changed). Parts c.registry) (eqb (length (device_captures r.views device generation)) 0) _ _ p
        (keeps (device_refusal r device generation) r _ p (λ a. cleared (view_slots r.views)))
