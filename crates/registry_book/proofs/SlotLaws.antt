-- A view is created empty, and one that is closed has no panel, so no capture either: the captures of all views stay; and a registry just started has nothing, as the book.
use Rattle.std.specs.Prelude.{is_ok, Ok}
use Prim.Native.Nat.{ℕ, ◌≤◌, ◌<◌}
use mathlib.Core.Path.{◌≡◌, refl, sym, ap, ◌∙◌, subst}
use mathlib.Core.Bool.{true}
use mathlib.Core.List.{List, [], map}
use native.Mathlib.Omega.{arith}
use borrow.Author.Tests.{eqb-true, not-false}
use lib.Dec.{eqb}
use lib.ListN.{length}
use lib.Seq.{get_or-set_same, get_or-set_other}
use Rattle.lists.specs.Below.{iter_below}
use Rattle.lists.specs.Lists.{keep}
use Rattle.lists.specs.Tables.{entries_of}
use Rattle.lists.proofs.ListLaws.{by_test, clash, and_left, and_right}
use Rattle.lists.proofs.TableLaws.{entries_packed}
use Rattle.handles.specs.Claims.{Proper, MayIssue, Issues}
use Rattle.handles.specs.Handles.{same_handle}
use Rattle.handles.specs.Slots.{empty_arena, lookup_of, released}
use Rattle.handles.specs.declared.arena.Allocation.{Allocation}
use Rattle.handles.specs.declared.arena.SlotStatus.TheVariants.{Live}
use Rattle.handles.specs.declared.GenerationalHandle.{GenerationalHandle}
use Rattle.handles.proofs.ClaimLaws as arena
use Rattle.handles.proofs.HandleLaws.{handles}
use Rattle.handles.proofs.LookupLaws.{live_facts}
use Rattle.maps.specs.Captures.{captures}
use Rattle.maps.specs.declared.captures.Capture.{Capture}
use Rattle.records.specs.declared.error.CompositionError.TheVariants.{Capacity, ViewInUse, InvalidView, StaleView}
use Rattle.composition_state.specs.declared.registry.CompositionLimits.{CompositionLimits}
use Rattle.composition_state.specs.declared.registry.CompositionRegistry.{CompositionRegistry}
use Rattle.records.specs.declared.view.ViewRecord.{ViewRecord}
use Rattle.records.specs.Views.{ViewTable, fresh_view, no_view, view_at, view_status, view_refusal, with_view, views_with}
use Rattle.composition_state.specs.Damage.{damage_refusal}
use Rattle.records.specs.Errors.{refusal_if}
use Rattle.records.specs.Layers.{layers, is_live}
use Rattle.composition_state.specs.Registry.{with_views, window_refusal}
use Rattle.composition_state.specs.Start.{start_refusal, fresh_registry, started}
use Rattle.composition_state.proofs.SettleLaws.{then_last, if_accepted}
use Rattle.composition_state.specs.Registry.{outcome_of}
use Rattle.composition_panels.specs.Windows.{create_view_refusal, new_view, create_view, has_layers, close_view_refusal, close_view}
use Rattle.composition_arbitration.specs.Targets.{is_among}
use Rattle.composition_soundness.proofs.CaseLaws.{then_first, status_live, live_is, by_handle}
use Rattle.composition_soundness.proofs.LiveLaws.{one_live, was_live, stays_live, used_few, may_issue, not_issued, keeps_live, others_live}
use Rattle.composition_soundness.proofs.PartLaws.{Parts, bounds}
use Rattle.composition_soundness.proofs.StartLaws.{none_live}
use Rattle.book.specs.Book.{Held, Book, empty_book}
use Rattle.registry_book.specs.Agreement.{is_open, view_of, in_view, held_in, is_held_well, Agrees, Follows}
use Rattle.registry_book.proofs.ListLaws.{all_every, keep_every, no_length, none_left}
use Rattle.registry_book.proofs.HeldLaws.{Neat, held_of, Drops, held_kept}
use Rattle.registry_book.proofs.AgreeLaws.{follows, made_follows, layers_at, LayersStay, Mapped, AllMapped, views_follow}
use Rattle.registry_book.proofs.PrimaryLaws.{none≢some}
use Rattle.registry_book.proofs.ViewLaws.{neat_views, well_in}

-- every capture stays
keep_whole : (l : List Held) → keep (λ x. true) l ≡ l
keep_whole l = keep_every (λ x. true) l (all_every (λ x. true) (λ x. refl) l)

module _ (r : CompositionRegistry) (p : Parts r) (b : Book) (a : Agrees r b) where
  -- the views' slots change, and no capture with them
  slots_follow : (t : ViewTable) → Neat t.arena → Drops r.views t (λ x. true) → LayersStay r.views t → AllMapped t → Follows r (with_views t r) b
  slots_follow t n d stay mapped = views_follow r (with_views t r) b b a (record { status = λ h. refl; view = λ h. refl })
      (held_kept r.views t (λ x. true) d (neat_views r p) n ∙ keep_whole (held_in r.views) ∙ a.captures_held) refl a.held_well stay mapped

  -- ---- a new view
  module _ (window : GenerationalHandle) (may : MayIssue r.views.arena r.limits.max_views r.first_generation) where
    abbrev made : Allocation
    made = new_view r

    abbrev more : ViewTable
    more = with_view made.handle (fresh_view window) (views_with made.arena r.views)

    proper : Proper made.arena r.limits.max_views
    proper = (arena.claims).allocate_proper r.views.arena _ r.first_generation p.views may

    issues : Issues r.views.arena made
    issues = (arena.claims).allocate_issues r.views.arena _ r.first_generation p.views may

    within : made.handle.index < length r.views.records
    within = omega (arith, (live_facts made.arena made.handle issues.is).used, used_few made.arena _ proper, (bounds r p).views, p.view_records)

    record_new : view_at more made.handle ≡ fresh_view window
    record_new = get_or-set_same r.views.records made.handle.index (fresh_view window) no_view within

    record_old : (g : GenerationalHandle) → lookup_of r.views.arena g ≡ Live → view_at more g ≡ view_at r.views g
    record_old g e = get_or-set_other r.views.records made.handle.index g.index (fresh_view window) no_view
        (λ i. not_issued r.views.arena made issues g e (one_live made.arena g made.handle (keeps_live r.views.arena made issues g e) issues.is i))

    new_drops : Drops r.views more (λ x. true)
    new_drops = record {
      kept = λ h e l. ap (λ (x : ViewRecord). map (in_view h) (entries_of captures x.pointer_captures)) (record_old h e) ∙ sym (keep_whole (held_of r.views h));
      fresh = λ h n l. by_handle h made.handle
          (λ q. ap (λ (x : ViewRecord). map (in_view h) (entries_of captures x.pointer_captures)) (ap (view_at more) q ∙ record_new) ∙ ap (map (in_view h)) (entries_packed captures []))
          (λ d. absurd (n (others_live r.views.arena made issues h d l)));
      gone = λ h e n. absurd (n (keeps_live r.views.arena made issues h e));
    }

    new_follows : Follows r (with_views more r) b
    new_follows = slots_follow more (record { limit = r.limits.max_views; proper = proper; few = (bounds r p).views }) new_drops
        (λ g h l m. let e = live_is (view_status r.views g) l in
        (ap is_live (keeps_live r.views.arena made issues g e), ap (λ (x : ViewRecord). is_among h (entries_of layers x.surfaces)) (record_old g e) ∙ m))
        (λ g l. by_handle g made.handle
        (λ q. subst Mapped (sym (ap (view_at more) q ∙ record_new)) (λ h m. none≢some m))
        (λ d. let e = others_live r.views.arena made issues g d (live_is (view_status more g) l) in
        subst Mapped (sym (record_old g e)) (λ h m. a.single_mapped g h (ap is_live e) m)))

  pub create_view_lem : (window : GenerationalHandle) → outcome_of (create_view r window) ≡ Ok tt → Follows r (create_view r window).registry b
  unfolding create_view
  create_view_lem window y = made_follows (new_view r).handle b (create_view_refusal r window) r _ y (λ o.
      let full = if_accepted (eqb r.views.arena.live r.limits.max_views) Capacity (then_last (window_refusal r.windows window) _ (then_last (damage_refusal r) _ o)) in
      let few : r.limits.max_views ≤ 64 = omega (arith, (bounds r p).views) in
      new_follows window (may_issue r.views.arena _ p.views r.first_generation few full (bounds r p).named))

  -- ---- a view that goes
  module _ (v : GenerationalHandle) (e : lookup_of r.views.arena v ≡ Live) (bare : layers_at r.views v ≡ []) where
    abbrev fewer : ViewTable
    fewer = views_with (released r.views.arena v).arena r.views

    no_layer : (h : GenerationalHandle) → is_among h (layers_at r.views v) ≡ true → ⊥
    no_layer h m = clash m (ap (is_among h) bare)

    no_capture : (c : Capture) → is_held_well r (in_view v c) ≡ true → ⊥
    no_capture c y =
        let h = c.surface in
        let is = handles.same_eq (view_of r h) v (and_right (is_open r h) (same_handle (view_of r h) v) y) in
        no_layer h (ap (λ (g : GenerationalHandle). is_among h (layers_at r.views g)) (sym is) ∙ (a.layered h (and_left (is_open r h) (same_handle (view_of r h) v) y)).1)

    nothing_held : held_of r.views v ≡ []
    nothing_held = ap (map (in_view v)) (none_left (λ c. is_held_well r (in_view v c)) no_capture (entries_of captures (view_at r.views v).pointer_captures) (well_in r p b a v e))

    gone_follows : Follows r (with_views fewer r) b
    gone_follows = slots_follow fewer (record { limit = r.limits.max_views; proper = (arena.claims).release_proper r.views.arena _ v p.views; few = (bounds r p).views })
        (record {
          kept = λ h l m. sym (keep_whole (held_of r.views h));
          fresh = λ h n l. absurd (n (was_live r.views.arena v h l));
          gone = λ h l n. by_handle h v
              (λ q. ap (λ (g : GenerationalHandle). keep (λ x. true) (held_of r.views g)) q ∙ ap (keep (λ x. true)) nothing_held)
              (λ d. absurd (n (stays_live r.views.arena v h d l)));
        })
        (λ g h l m. by_handle g v
        (λ q. absurd (no_layer h (ap (λ (k : GenerationalHandle). is_among h (layers_at r.views k)) (sym q) ∙ m)))
        (λ d. (ap is_live (stays_live r.views.arena v g d (live_is (view_status r.views g) l)), m)))
        (λ g l h m. a.single_mapped g h (ap is_live (was_live r.views.arena v g (live_is (view_status fewer g) l))) m)

  pub close_view_lem : (v : GenerationalHandle) → (close_view r v).outcome ≡ Ok tt → Follows r (close_view r v).registry b
  unfolding close_view
  close_view_lem v y = follows b (close_view_refusal r v) r _ y (λ o.
      let o₁ = then_last (damage_refusal r) _ o in
      let o₂ = then_first (refusal_if (has_layers r.views v) ViewInUse) _ (then_last (view_refusal r.views v) _ o₁) in
      let bare = eqb-true (length (layers_at r.views v)) 0 (not-false _ (if_accepted (has_layers r.views v) ViewInUse o₂)) in
      gone_follows v (status_live (view_status r.views v) InvalidView StaleView (then_first (view_refusal r.views v) _ o₁)) (no_length (layers_at r.views v) bare))

-- ---- the start
module _ (session : GenerationalHandle) (epoch : ℕ) (limits : CompositionLimits) (revision generation : ℕ) where
  none_open : (h : GenerationalHandle) → is_open (fresh_registry session epoch limits revision generation) h ≡ true → ⊥
  unfolding fresh_registry
  none_open h o = none_live h (live_is (lookup_of empty_arena h) o)

  fresh_agrees : Agrees (fresh_registry session epoch limits revision generation) empty_book
  unfolding fresh_registry empty_arena held_in iter_below
  fresh_agrees = record {
    captures_held = refl;
    homes_known = λ h o. absurd (none_open h o);
    held_well = refl;
    layered = λ h o. absurd (none_open h o);
    single_mapped = λ view h l q. absurd (none_live view (live_is _ l));
  }

  pub start : (started session epoch limits revision generation).outcome ≡ Ok tt → Agrees (started session epoch limits revision generation).registry empty_book
  start q = by_test (is_ok (start_refusal session epoch limits generation))
      (λ t. rw t fresh_agrees)
      (λ t. clash (ap is_ok (rw t at q)) t)
