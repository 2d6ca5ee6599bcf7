-- An attach: the new handle was not live, so no capture and no other panel changes; its view gets it as a layer, and the book notes it first.
use Rattle.std.specs.Prelude.{Some, Option, Ok}
use Rattle.std.specs.Result.{result_and, result_ok}
use Prim.Native.Nat.{ℕ, ◌≤◌, ◌<◌}
use mathlib.Core.Path.{◌≡◌, refl, sym, ap, ◌∙◌, subst}
use mathlib.Core.Bool.{Bool, true, false, cond, not}
use mathlib.Core.List.{List, ◌∷◌}
use native.Mathlib.Omega.{arith}
use borrow.Author.Tests.{lt-ltb, eqb-false}
use lib.Dec.{eqb}
use lib.ListN.{length}
use lib.Seq.{get_or-set_same, get_or-set_other}
use Rattle.lists.specs.Lists.{first}
use Rattle.lists.specs.Maps.{insert}
use Rattle.lists.specs.Tables.{entries_of}
use Rattle.lists.proofs.ListLaws.{and_left, and_right, and_both}
use Rattle.lists.proofs.TableLaws.{entries_packed}
use Rattle.geometry.specs.Surface.{is_valid_geometry}
use Rattle.handles.specs.Claims.{Proper, MayIssue, Issues}
use Rattle.handles.specs.Handles.{same_handle}
use Rattle.handles.specs.Slots.{lookup_of}
use Rattle.handles.specs.declared.arena.Allocation.{Allocation}
use Rattle.handles.specs.declared.arena.SlotStatus.TheVariants.{Live}
use Rattle.handles.specs.declared.GenerationalHandle.{GenerationalHandle}
use Rattle.handles.proofs.ClaimLaws as arena
use Rattle.handles.proofs.HandleLaws.{handles}
use Rattle.handles.proofs.LookupLaws.{live_facts}
use Rattle.records.specs.declared.error.CompositionError.TheVariants.{InvalidView, StaleView, InvalidGeometry, PerViewCapacity, Capacity}
use Rattle.composition_state.specs.declared.registry.CompositionRegistry.{CompositionRegistry}
use Rattle.records.specs.declared.surface.SurfaceDescriptor.{SurfaceDescriptor}
use Rattle.records.specs.declared.surface.SurfaceRecord.{SurfaceRecord}
use Rattle.records.specs.declared.view.ViewRecord.{ViewRecord}
use Rattle.composition_state.specs.Damage.{damage_refusal}
use Rattle.records.specs.Errors.{refusal_if, Outcome}
use Rattle.records.specs.Layers.{layers, itself, layer_lt, layers_with, is_live}
use Rattle.records.specs.Surfaces.{no_surface, surface_status}
use Rattle.records.specs.Views.{view_at, view_status, view_refusal, with_layers}
use Rattle.composition_state.specs.Registry.{Changed}
use Rattle.composition_state.specs.Registry.{settled}
use Rattle.composition_state.proofs.SettleLaws.{then_last, if_accepted}
use Rattle.composition_panels.specs.Panels.{layer_count, attach_refusal, new_surface, surface_added, attached, attach_surface}
use Rattle.composition_state.specs.Registry.{outcome_of}
use Rattle.composition_state.proofs.SettleLaws.{outcome_is}
use Rattle.composition_arbitration.specs.Targets.{is_among}
use Rattle.composition_soundness.proofs.CaseLaws.{then_first, status_live, live_is, by_handle}
use Rattle.composition_soundness.proofs.ListLaws.{all_as, entries_few}
use Rattle.composition_soundness.proofs.LiveLaws.{one_live, used_few, may_issue, not_issued, keeps_live, others_live}
use Rattle.composition_soundness.proofs.PartLaws.{Parts, bounds}
use Rattle.composition_soundness.proofs.ChangeLaws.{view_of_lem}
use Rattle.book.specs.Book.{Held, Home, Book, view_of_home, home_of, with_home as noted}
use Rattle.book.specs.Notes.{noted_attach}
use Rattle.registry_book.specs.Agreement.{is_open, view_of, is_held_well, Agrees, Follows}
use Rattle.registry_book.proofs.HeldLaws.{apart}
use Rattle.registry_book.proofs.AgreeLaws.{follows, layers_at, Mapped, same_held}
use Rattle.registry_book.proofs.LayerLaws.{among_itself, among_inserted}
use Rattle.registry_book.proofs.ViewLaws.{record_own, record_other, each_record}

-- ---- the book's views with one more in front
module _ (h view : GenerationalHandle) (l : List Home) where
  home_new : home_of h (record { surface = h; view = view } ∷ l) ≡ Some view
  unfolding home_of
  home_new = ap (λ (s : Bool). view_of_home (cond s (Some (record { surface = h; view = view })) (first (λ x. same_handle h x.surface) l))) (handles.same_refl h)

  home_old : (g : GenerationalHandle) → (g ≡ h → ⊥) → home_of g (record { surface = h; view = view } ∷ l) ≡ home_of g l
  unfolding home_of
  home_old g d = ap (λ (s : Bool). view_of_home (cond s (Some (record { surface = h; view = view })) (first (λ x. same_handle g x.surface) l))) (apart h g (λ q. d (sym q)))

module _ (r : CompositionRegistry) (p : Parts r) (b : Book) (a : Agrees r b) (d : SurfaceDescriptor) where
  abbrev made : Allocation
  made = new_surface r

  abbrev new : GenerationalHandle
  new = made.handle

  abbrev records : List SurfaceRecord
  records = (surface_added made d r.surfaces).records

  abbrev old : ViewRecord
  old = view_at r.views d.view

  abbrev layered : ViewRecord
  layered = with_layers (layers_with records new old.surfaces) old

  abbrev after : CompositionRegistry
  after = attached made d r

  module _ (may : MayIssue r.surfaces.arena r.limits.max_surfaces r.first_generation) (e : lookup_of r.views.arena d.view ≡ Live)
      (room : eqb (layer_count r.views d.view) r.limits.max_surfaces_per_view ≡ false) where
    proper : Proper made.arena r.limits.max_surfaces
    proper = (arena.claims).allocate_proper r.surfaces.arena _ r.first_generation p.surfaces may

    issues : Issues r.surfaces.arena made
    issues = (arena.claims).allocate_issues r.surfaces.arena _ r.first_generation p.surfaces may

    within : new.index < length r.surfaces.records
    within = omega (arith, (live_facts made.arena new issues.is).used, used_few made.arena _ proper, (bounds r p).surfaces, p.surface_records)

    -- ---- the panels
    view_new : view_of after new ≡ d.view
    unfolding attached
    view_new = ap (λ (x : SurfaceRecord). x.descriptor.view) (get_or-set_same r.surfaces.records new.index (record { descriptor = d }) no_surface within)

    view_old : (h : GenerationalHandle) → is_open r h ≡ true → view_of after h ≡ view_of r h
    unfolding attached
    view_old h o =
        let l = live_is (surface_status r.surfaces h) o in
        ap (λ (x : SurfaceRecord). x.descriptor.view) (get_or-set_other r.surfaces.records new.index h.index (record { descriptor = d }) no_surface
        (λ i. not_issued r.surfaces.arena made issues h l (one_live made.arena h new (keeps_live r.surfaces.arena made issues h l) issues.is i)))

    still_open : (h : GenerationalHandle) → is_open r h ≡ true → is_open after h ≡ true
    unfolding attached
    still_open h o = ap is_live (keeps_live r.surfaces.arena made issues h (live_is (surface_status r.surfaces h) o))

    was_open : (h : GenerationalHandle) → (h ≡ new → ⊥) → is_open after h ≡ true → is_open r h ≡ true
    unfolding attached
    was_open h n o = ap is_live (others_live r.surfaces.arena made issues h n (live_is (lookup_of made.arena h) o))

    still_well : (x : Held) → is_held_well r x ≡ true → is_held_well after x ≡ true
    still_well x y =
        let h = x.capture.surface in
        let o = and_left (is_open r h) (same_handle (view_of r h) x.view) y in
        and_both (still_open h o) (ap (λ (v : GenerationalHandle). same_handle v x.view) (view_old h o) ∙ and_right (is_open r h) (same_handle (view_of r h) x.view) y)

    -- ---- the layers
    own_layers : entries_of layers layered.surfaces ≡ insert itself (layer_lt records) new (layers_at r.views d.view)
    own_layers =
        let l = layers_at r.views d.view in
        let x = (view_of_lem r p d.view e).layered in
        let below : length l < 16 = less (eqb-false (length l) _ room) (entries_few layers old.surfaces) x.count (bounds r p).layers in
        rw (lt-ltb (length l) 16 below) (entries_packed layers (insert itself (layer_lt records) new l))
      where
        less : {k l m : ℕ} → (k ≡ m → ⊥) → k ≤ l → l ≤ m → m ≤ 16 → k < 16
        less {k} {l} {m} n s t u = omega arith

    new_among : is_among new (layers_at after.views d.view) ≡ true
    unfolding attached
    new_among = ap (λ (x : ViewRecord). is_among new (entries_of layers x.surfaces)) (record_own r p d.view e layered) ∙ ap (is_among new) own_layers
        ∙ among_itself new records (layers_at r.views d.view)

    old_among : (h view : GenerationalHandle) → (h ≡ new → ⊥) → lookup_of r.views.arena view ≡ Live → is_among h (layers_at r.views view) ≡ true → is_among h (layers_at after.views view) ≡ true
    unfolding attached
    old_among h view n l t = by_handle view d.view
        (λ q. ap (λ (x : ViewRecord). is_among h (entries_of layers x.surfaces)) (ap (view_at after.views) q ∙ record_own r p d.view e layered) ∙ ap (is_among h) own_layers
        ∙ among_inserted h records new (layers_at r.views d.view) n (ap (λ (g : GenerationalHandle). is_among h (layers_at r.views g)) (sym q) ∙ t))
        (λ m. ap (λ (x : ViewRecord). is_among h (entries_of layers x.surfaces)) (record_other r p d.view e layered view l m) ∙ t)

    -- ---- the book follows
    new_follows : Follows r after (noted new d.view b)
    unfolding attached
    new_follows = record {
      agrees = record {
        captures_held = same_held r.views d.view layered refl ∙ a.captures_held;
        homes_known = λ h o. by_handle h new
            (λ q. subst (λ (g : GenerationalHandle). home_of g (noted new d.view b).homes ≡ Some (view_of after g)) (sym q)
            (home_new new d.view b.homes ∙ ap (λ (v : GenerationalHandle). Some v) (sym view_new)))
            (λ n. let k = was_open h n o in
            home_old new d.view b.homes h n ∙ a.homes_known h k ∙ ap (λ (v : GenerationalHandle). Some v) (sym (view_old h k)));
        held_well = all_as (is_held_well r) (is_held_well after) still_well b.captures a.held_well;
        layered = λ h o. by_handle h new
            (λ q. subst (λ (g : GenerationalHandle). (is_live (view_status after.views (view_of after g)) ≡ true) × (is_among g (layers_at after.views (view_of after g)) ≡ true)) (sym q)
            (subst (λ (v : GenerationalHandle). (is_live (view_status after.views v) ≡ true) × (is_among new (layers_at after.views v) ≡ true)) (sym view_new) (ap is_live e, new_among)))
            (λ n. let k = was_open h n o in
            let x = a.layered h k in
            subst (λ (v : GenerationalHandle). (is_live (view_status after.views v) ≡ true) × (is_among h (layers_at after.views v) ≡ true)) (sym (view_old h k))
            (x.0, old_among h (view_of r h) n (live_is (view_status r.views (view_of r h)) x.0) x.1));
        single_mapped = λ view h l q. each_record r p d.view e layered Mapped view (live_is (view_status r.views view) l)
            (λ g m. a.single_mapped d.view g (ap is_live e) m) (λ g m. a.single_mapped view g l m) h q;
      };
      keeps = record { stays = λ h o. (still_open h o, view_old h o) };
    }

  abbrev attaching : Changed
  attaching = settled (attach_refusal r d) r after

  pub attach : outcome_of (attach_surface r d) ≡ Ok tt → Follows r (attach_surface r d).registry (noted_attach (result_ok (attach_surface r d).outcome) d.view b)
  unfolding attach_surface
  attach y =
      let done : attaching.outcome ≡ Ok tt = sym (outcome_is new attaching) ∙ y in
      subst (λ (m : Option GenerationalHandle). Follows r attaching.registry (noted_attach m d.view b)) (sym (ap (λ (o : Outcome). result_ok (result_and o (Ok new))) done))
      (follows (noted new d.view b) (attach_refusal r d) r after done (λ o.
      let o₁ = then_last (refusal_if (not (is_valid_geometry d.geometry)) InvalidGeometry) _ (then_last (damage_refusal r) _ o) in
      let live = status_live (lookup_of r.views.arena d.view) InvalidView StaleView (then_first (view_refusal r.views d.view) _ o₁) in
      let o₂ = then_last (view_refusal r.views d.view) _ o₁ in
      let crowded = eqb (layer_count r.views d.view) r.limits.max_surfaces_per_view in
      let room = if_accepted crowded PerViewCapacity (then_first (refusal_if crowded PerViewCapacity) _ o₂) in
      let full = if_accepted (eqb r.surfaces.arena.live r.limits.max_surfaces) Capacity (then_last (refusal_if crowded PerViewCapacity) _ o₂) in
      new_follows (may_issue r.surfaces.arena _ p.surfaces r.first_generation (bounds r p).surfaces full (bounds r p).named) live room))
