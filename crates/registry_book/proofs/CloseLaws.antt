-- A panel's close: its captures stand in its own view alone and go there, it is no layer any more and its handle is stale, and every other panel stays.
use Rattle.records.specs.Errors.{Outcome}
use Rattle.std.specs.Prelude.{None, Some, Option, Ok, Err}
use mathlib.Core.Path.{◌≡◌, refl, sym, ap, ◌∙◌}
use mathlib.Core.Bool.{Bool, true, false, cond, not, ◌&&◌}
use borrow.Author.Tests.{eq-eqb, not-true}
use Rattle.lists.specs.Lists.{keep}
use Rattle.lists.specs.Tables.{entries_of}
use Rattle.lists.proofs.ListLaws.{by_test, clash, and_left, and_right, and_both, keep_passes}
use Rattle.lists.proofs.TableLaws.{entries_packed}
use Rattle.handles.specs.Handles.{same_handle, holds_handle}
use Rattle.handles.specs.Slots.{lookup_of, released, released_as}
use Rattle.handles.specs.declared.arena.Arena.{Arena}
use Rattle.handles.specs.declared.arena.ReleaseError.TheVariants as release
use Rattle.handles.specs.declared.arena.SlotStatus.{SlotStatus}
use Rattle.handles.specs.declared.arena.SlotStatus.TheVariants.{Live}
use Rattle.handles.specs.declared.GenerationalHandle.{GenerationalHandle}
use Rattle.handles.proofs.ClaimLaws as arena
use Rattle.handles.proofs.HandleLaws.{handles}
use Rattle.maps.specs.Captures.{captures}
use Rattle.records.specs.declared.error.CompositionError.TheVariants.{InvalidSurface, StaleSurface}
use Rattle.composition_state.specs.declared.registry.CompositionRegistry.{CompositionRegistry}
use Rattle.records.specs.declared.view.ViewRecord.{ViewRecord}
use Rattle.composition_state.specs.Damage.{damage_refusal}
use Rattle.records.specs.Layers.{layers, is_live}
use Rattle.records.specs.Surfaces.{surface_status, surface_refusal}
use Rattle.records.specs.Views.{view_at, view_status, with_view}
use Rattle.composition_state.proofs.SettleLaws.{without_value, then_last}
use Rattle.composition_panels.specs.Windows.{exhausted_refusal}
use Rattle.composition_input.specs.Captures.{primary, capture}
use Rattle.composition_arbitration.specs.Targets.{is_among}
use Rattle.composition_close.specs.Close.{close_refusal, detached, freed, closed_panel, slot_refusal, close_settled, close_after, close_surface}
use Rattle.composition_close.specs.Detach.{is_on_surface, had_capture, detached_view}
use Rattle.composition_state.proofs.DamageLaws.{or_left}
use Rattle.composition_soundness.proofs.CaseLaws.{refused≢accepted, then_first, status_live, live_is, by_handle}
use Rattle.composition_soundness.proofs.ListLaws.{all_as, all_both, all_keep}
use Rattle.composition_soundness.proofs.LiveLaws.{was_live, stays_live}
use Rattle.composition_soundness.proofs.PartLaws.{Parts}
use Rattle.composition_soundness.proofs.ChangeLaws.{view_of_lem}
use Rattle.book.specs.Book.{Held, Book, is_held_on_panel, without_captures}
use Rattle.registry_book.specs.Agreement.{is_open, view_of, held_in, is_held_well, Agrees, KeepsBut}
use Rattle.registry_book.proofs.HeldLaws.{apart}
use Rattle.registry_book.proofs.AgreeLaws.{settled_as, agrees_again, layers_at, Mapped}
use Rattle.registry_book.proofs.LayerLaws.{among_keep}
use Rattle.registry_book.proofs.PrimaryLaws.{none≢some, found_kept}
use Rattle.registry_book.proofs.ViewLaws.{others_stay, record_own, record_other, each_record, held_dropped}
use Rattle.composition_state.specs.Registry.{outcome_of}

-- a live handle whose release is not refused 22 is released
module _ (a : Arena) (h : GenerationalHandle) (e : lookup_of a h ≡ Live) where
  exhausted : h.generation ≡ 4294967295 → (released a h).outcome ≡ Err release.GenerationExhausted
  unfolding released
  exhausted g = ap (λ (s : SlotStatus). (released_as s a h).outcome) e ∙ rw (eq-eqb h.generation 4294967295 g)

  not_exhausted : exhausted_refusal (released a h).outcome ≡ Ok tt → h.generation ≡ 4294967295 → ⊥
  not_exhausted o g = refused≢accepted (sym (ap exhausted_refusal (exhausted g)) ∙ o)

module _ (r : CompositionRegistry) (p : Parts r) (b : Book) (a : Agrees r b) (h : GenerationalHandle) where
  abbrev view : GenerationalHandle
  view = view_of r h

  abbrev old : ViewRecord
  old = view_at r.views view

  abbrev out : ViewRecord
  out = detached_view r.surfaces old h

  abbrev after : CompositionRegistry
  after = closed_panel h r

  abbrev left : Book
  left = without_captures (is_held_on_panel h) b

  module _ (o : lookup_of r.surfaces.arena h ≡ Live) (gone : exhausted_refusal (released r.surfaces.arena h).outcome ≡ Ok tt) where
    live : lookup_of r.views.arena view ≡ Live
    live = live_is (view_status r.views view) (a.layered h (ap is_live o)).0

    -- ---- the panels
    stale : lookup_of (released r.surfaces.arena h).arena h ≡ Live → ⊥
    stale l = clash (ap is_live l) (ap is_live ((arena.claims).released_stale r.surfaces.arena h
        ((arena.claims).live_released r.surfaces.arena _ h p.surfaces o (not_exhausted r.surfaces.arena h o gone))))

    was_open : (g : GenerationalHandle) → is_open after g ≡ true → is_open r g ≡ true
    unfolding freed detached
    was_open g l = ap is_live (was_live r.surfaces.arena h g (live_is (lookup_of (released r.surfaces.arena h).arena g) l))

    other_panel : (g : GenerationalHandle) → is_open after g ≡ true → g ≡ h → ⊥
    unfolding freed detached
    other_panel g l q = stale (ap (lookup_of (released r.surfaces.arena h).arena) (sym q) ∙ live_is (lookup_of (released r.surfaces.arena h).arena g) l)

    still_open : (g : GenerationalHandle) → same_handle h g ≡ false → is_open r g ≡ true → is_open after g ≡ true
    unfolding freed detached
    still_open g n l = ap is_live (stays_live r.surfaces.arena h g (λ q. clash (ap (same_handle h) q ∙ handles.same_refl h) n) (live_is (surface_status r.surfaces g) l))

    -- ---- the captures
    left_held : held_in (with_view view out r.views) ≡ keep (λ x. not (is_held_on_panel h x)) b.captures
    unfolding detached_view
    left_held = held_dropped r p b a view live out (is_held_on_panel h)
        (entries_packed captures (keep (λ e. not (is_on_surface h e)) (entries_of captures old.pointer_captures)))
        (others_stay r p b a (is_held_on_panel h) h (λ x y. y))

    still_well : (x : Held) → (is_held_well r x && not (is_held_on_panel h x)) ≡ true → is_held_well after x ≡ true
    unfolding freed detached
    still_well x y =
        let g = x.capture.surface in
        let well = and_left (is_held_well r x) (not (is_held_on_panel h x)) y in
        and_both (still_open g (not-true (is_held_on_panel h x) (and_right (is_held_well r x) (not (is_held_on_panel h x)) y)) (and_left (is_open r g) (same_handle (view_of r g) x.view) well))
        (and_right (is_open r g) (same_handle (view_of r g) x.view) well)

    -- the single field has another panel, whose entry stays
    out_mapped : Mapped out
    unfolding detached_view had_capture
    out_mapped g q = by_test (had_capture old h)
        (λ t. none≢some (ap (λ (s : Bool). cond s None old.pointer_capture) (sym t) ∙ q))
        (λ t.
        let f : old.pointer_capture ≡ Some g = ap (λ (s : Bool). cond s None old.pointer_capture) (sym t) ∙ q in
        let n : same_handle g h ≡ false = ap (λ (m : Option GenerationalHandle). holds_handle m h) (sym f) ∙ or_left (holds_handle old.pointer_capture h) _ t in
        let m : same_handle h g ≡ false = apart g h (λ s. clash (ap (λ (k : GenerationalHandle). same_handle k h) s ∙ handles.same_refl h) n) in
        found_kept old.pointer_captures (view_of_lem r p view live).captured (λ e. not (is_on_surface h e)) g (a.single_mapped view g (ap is_live live) f)
        ∙ ap (λ (s : Bool). cond (not s) (Some (capture primary g)) None) m)

    -- ---- the layers
    still_among : (g v : GenerationalHandle) → same_handle h g ≡ false → lookup_of r.views.arena v ≡ Live → is_among g (layers_at r.views v) ≡ true → is_among g (layers_at (with_view view out r.views) v) ≡ true
    unfolding detached_view
    still_among g v n l t = by_handle v view
        (λ q. ap (λ (x : ViewRecord). is_among g (entries_of layers x.surfaces)) (ap (view_at (with_view view out r.views)) q ∙ record_own r p view live out)
        ∙ ap (is_among g) (entries_packed layers (keep (λ at. not (same_handle h at)) (layers_at r.views view)))
        ∙ among_keep g (λ at. not (same_handle h at)) (layers_at r.views view) (ap not n) (ap (λ (k : GenerationalHandle). is_among g (layers_at r.views k)) (sym q) ∙ t))
        (λ m. ap (λ (x : ViewRecord). is_among g (entries_of layers x.surfaces)) (record_other r p view live out v l m) ∙ t)

    -- ---- the book agrees
    closed_agrees : Agrees after left
    unfolding freed detached without_captures
    closed_agrees = record {
      captures_held = left_held;
      homes_known = λ g l. a.homes_known g (was_open g l);
      held_well = all_as (λ x. is_held_well r x && not (is_held_on_panel h x)) (is_held_well after) still_well left.captures
          (all_both (is_held_well r) (λ x. not (is_held_on_panel h x)) left.captures (all_keep (is_held_well r) (λ x. not (is_held_on_panel h x)) b.captures a.held_well)
          (keep_passes (λ x. not (is_held_on_panel h x)) b.captures));
      layered = λ g l.
          let x = a.layered g (was_open g l) in
          (x.0, still_among g (view_of r g) (apart g h (other_panel g l)) (live_is (view_status r.views (view_of r g)) x.0) x.1);
      single_mapped = λ v g l q. each_record r p view live out Mapped v (live_is (view_status r.views v) l) out_mapped (λ k m. a.single_mapped v k l m) g q;
    }

    closed_keeps : KeepsBut h r after
    unfolding freed detached
    closed_keeps = record { stays = λ g n l. (still_open g n l, refl) }

  -- ---- by the answer of the checks
  abbrev Closed : CompositionRegistry → Type 0
  Closed x = Agrees x left × KeepsBut h r x

  close_after_lem : (o : Outcome) → close_refusal r h ≡ o → outcome_of (close_after o r h) ≡ Ok tt → Closed (close_after o r h).registry
  unfolding close_settled
  close_after_lem (Ok _) q y = settled_as Closed (λ n c x. (agrees_again left n c x.0, record { stays = x.1.stays })) (slot_refusal r h) (detached h r) (closed_panel h r) (sym (without_value _ _) ∙ y) (λ s.
      let o = status_live (surface_status r.surfaces h) InvalidSurface StaleSurface (then_first (surface_refusal r.surfaces h) _ (then_last (damage_refusal r) _ q)) in
      (closed_agrees o s, closed_keeps o s))
  close_after_lem (Err e) q y = refused≢accepted y

  pub close : outcome_of (close_surface r h) ≡ Ok tt → Agrees (close_surface r h).registry (without_captures (is_held_on_panel h) b) × KeepsBut h r (close_surface r h).registry
  unfolding close_surface
  close y = close_after_lem (close_refusal r h) refl y
