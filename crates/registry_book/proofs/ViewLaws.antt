-- One view's record changes and keeps its layers: the book follows if the view's captures change as the book's of that view do, and those of the other views stay.
use Prim.Native.Nat.{◌<◌}
use mathlib.Core.Path.{◌≡◌, refl, sym, ap, ◌∙◌, subst}
use mathlib.Core.Bool.{Bool, true, not}
use mathlib.Core.List.{map}
use native.Mathlib.Omega.{arith}
use lib.ListN.{length}
use lib.Seq.{get_or-set_same, get_or-set_other}
use Rattle.lists.specs.Lists.{keep, all}
use Rattle.lists.specs.Tables.{entries_of}
use Rattle.lists.proofs.ListLaws.{by_test, and_right}
use Rattle.handles.specs.Slots.{lookup_of}
use Rattle.handles.specs.declared.arena.SlotStatus.TheVariants.{Live}
use Rattle.handles.specs.declared.GenerationalHandle.{GenerationalHandle}
use Rattle.handles.proofs.HandleLaws.{handles}
use Rattle.maps.specs.Captures.{captures}
use Rattle.maps.specs.declared.captures.Capture.{Capture}
use Rattle.records.specs.Layers.{Layers, layers}
use Rattle.composition_state.specs.declared.registry.CompositionRegistry.{CompositionRegistry}
use Rattle.records.specs.declared.view.ViewRecord.{ViewRecord}
use Rattle.records.specs.Views.{ViewTable, no_view, view_at, view_status, with_view}
use Rattle.composition_input.specs.Focus.{with_view_record}
use Rattle.composition_arbitration.specs.Targets.{is_among}
use Rattle.composition_soundness.proofs.CaseLaws.{live_is, by_handle}
use Rattle.composition_soundness.proofs.ListLaws.{field_kept, all_as, all_keep}
use Rattle.composition_soundness.proofs.LiveLaws.{one_live}
use Rattle.composition_soundness.proofs.PartLaws.{Parts, bounds}
use Rattle.book.specs.Book.{Held, Book, without_captures, is_held_on_panel}
use Rattle.registry_book.specs.Agreement.{is_open, view_of, in_view, held_in, is_held_well, Agrees, Follows}
use Rattle.registry_book.proofs.ListLaws.{keep_every, keep_map, all_map}
use Rattle.registry_book.proofs.HeldLaws.{Neat, live_few, held_of, held_at_lem, held_kept}
use Rattle.registry_book.proofs.AgreeLaws.{Mapped, views_follow}

pub neat_views : (r : CompositionRegistry) → Parts r → Neat r.views.arena
neat_views r p = record { limit = r.limits.max_views; proper = p.views; few = (bounds r p).views }

-- ---- a live view's record after the change
module _ (r : CompositionRegistry) (p : Parts r) (v : GenerationalHandle) (e : lookup_of r.views.arena v ≡ Live) (w : ViewRecord) where
  within : v.index < length r.views.records
  within = omega (arith, live_few r.views.arena (neat_views r p) v e, p.view_records)

  pub record_own : view_at (with_view v w r.views) v ≡ w
  record_own = get_or-set_same r.views.records v.index w no_view within

  pub record_other : (g : GenerationalHandle) → lookup_of r.views.arena g ≡ Live → (g ≡ v → ⊥) → view_at (with_view v w r.views) g ≡ view_at r.views g
  record_other g l n = get_or-set_other r.views.records v.index g.index w no_view (λ i. n (one_live r.views.arena g v l e i))

  -- what holds of the new record and of the others
  pub each_record : (P : ViewRecord → Type 0) (g : GenerationalHandle) → lookup_of r.views.arena g ≡ Live → P w → P (view_at r.views g) → P (view_at (with_view v w r.views) g)
  each_record P g l x y = by_handle g v
      (λ q. subst P (sym (ap (view_at (with_view v w r.views)) q ∙ record_own)) x)
      (λ n. subst P (sym (record_other g l n)) y)

module _ (r : CompositionRegistry) (p : Parts r) (b : Book) (a : Agrees r b) where
  -- a live view's captures are of its own live panels
  pub well_in : (g : GenerationalHandle) → lookup_of r.views.arena g ≡ Live → all (λ c. is_held_well r (in_view g c)) (entries_of captures (view_at r.views g).pointer_captures) ≡ true
  well_in g e =
      sym (all_map (in_view g) (is_held_well r) (entries_of captures (view_at r.views g).pointer_captures))
      ∙ held_at_lem r.views (neat_views r p) (is_held_well r) (ap (all (is_held_well r)) a.captures_held ∙ a.held_well) g e

  -- a test that only a panel's own captures pass drops none in another view
  pub others_stay : (q : Held → Bool) (h : GenerationalHandle) → ((x : Held) → q x ≡ true → is_held_on_panel h x ≡ true)
      → (g : GenerationalHandle) → lookup_of r.views.arena g ≡ Live → (g ≡ view_of r h → ⊥) → keep (λ x. not (q x)) (held_of r.views g) ≡ held_of r.views g
  others_stay q h only g e n =
      let l = entries_of captures (view_at r.views g).pointer_captures in
      keep_every (λ x. not (q x)) (held_of r.views g) (all_map (in_view g) (λ x. not (q x)) l
      ∙ all_as (λ c. is_held_well r (in_view g c)) (λ c. not (q (in_view g c))) other l (well_in g e))
    where
      other : (c : Capture) → is_held_well r (in_view g c) ≡ true → not (q (in_view g c)) ≡ true
      other c y = by_test (q (in_view g c))
          (λ t. absurd (n (sym (ap (view_of r) (handles.same_eq h c.surface (only (in_view g c) t)) ∙ handles.same_eq (view_of r c.surface) g (and_right (is_open r c.surface) _ y)))))
          (λ t. ap not t)

  module _ (v : GenerationalHandle) (e : lookup_of r.views.arena v ≡ Live) (w : ViewRecord) where
    abbrev after : ViewTable
    after = with_view v w r.views

    -- ---- captures dropped
    pub held_dropped : (q : Held → Bool)
        → entries_of captures w.pointer_captures ≡ keep (λ c. not (q (in_view v c))) (entries_of captures (view_at r.views v).pointer_captures)
        → ((g : GenerationalHandle) → lookup_of r.views.arena g ≡ Live → (g ≡ v → ⊥) → keep (λ x. not (q x)) (held_of r.views g) ≡ held_of r.views g)
        → held_in after ≡ keep (λ x. not (q x)) b.captures
    held_dropped q own others = held_kept r.views after (λ x. not (q x)) (record {
      kept = λ g l m. by_handle g v
          (λ s. subst (λ (k : GenerationalHandle). held_of after k ≡ keep (λ x. not (q x)) (held_of r.views k)) (sym s)
          (ap (λ (x : ViewRecord). map (in_view v) (entries_of captures x.pointer_captures)) (record_own r p v e w) ∙ ap (map (in_view v)) own
          ∙ sym (keep_map (in_view v) (λ x. not (q x)) (entries_of captures (view_at r.views v).pointer_captures))))
          (λ n. ap (λ (x : ViewRecord). map (in_view g) (entries_of captures x.pointer_captures)) (record_other r p v e w g l n) ∙ sym (others g l n));
      fresh = λ g n m. absurd (n m);
      gone = λ g l n. absurd (n l);
    }) (neat_views r p) (neat_views r p) ∙ ap (keep (λ x. not (q x))) a.captures_held

    -- ---- the book follows
    module _ (layered : w.surfaces ≡ (view_at r.views v).surfaces) (mapped : Mapped w) where
      pub view_follows : (b' : Book) → held_in after ≡ b'.captures → b'.homes ≡ b.homes → all (is_held_well r) b'.captures ≡ true → Follows r (with_view_record v w r) b'
      view_follows b' has homes well = views_follow r (with_view_record v w r) b b' a (record { status = λ h. refl; view = λ h. refl }) has homes well
          (λ g h l m. (l, ap (λ (t : Layers). is_among h (entries_of layers t)) (field_kept (λ (x : ViewRecord). x.surfaces) r.views.records v.index g.index w no_view layered) ∙ m))
          (λ g l. each_record r p v e w Mapped g (live_is (view_status r.views g) l) mapped (λ h q. a.single_mapped g h l q))

      pub view_drops : (q : Held → Bool)
          → entries_of captures w.pointer_captures ≡ keep (λ c. not (q (in_view v c))) (entries_of captures (view_at r.views v).pointer_captures)
          → ((g : GenerationalHandle) → lookup_of r.views.arena g ≡ Live → (g ≡ v → ⊥) → keep (λ x. not (q x)) (held_of r.views g) ≡ held_of r.views g)
          → Follows r (with_view_record v w r) (without_captures q b)
      unfolding without_captures
      view_drops q own others = view_follows (without_captures q b) (held_dropped q own others) refl (all_keep (is_held_well r) (λ x. not (q x)) b.captures a.held_well)
