-- A panel's close: its own view is left without it, and no other view has it as a layer, since every layer names its own view; so its slot can go.
use Rattle.std.specs.Prelude.{Ok, Err}
use Rattle.records.specs.Errors.{Outcome}
use Prim.Native.Nat.{ℕ, ◌≤◌, ◌<◌}
use mathlib.Core.Path.{◌≡◌, refl, sym, ap, ◌∙◌, subst}
use mathlib.Core.Bool.{Bool, true, not, ◌&&◌}
use native.Mathlib.Omega.{arith}
use borrow.Author.Tests.{not-true}
use lib.ListN.{length, get_or, set}
use lib.Seq.{get_or-set_same, get_or-set_other}
use Rattle.lists.specs.Lists.{keep, all}
use Rattle.lists.specs.Tables.{entries_of}
use Rattle.lists.proofs.ListLaws.{by_test, clash, and_left, and_right, keep_passes}
use Rattle.lists.proofs.TableLaws.{entries_packed}
use Rattle.handles.specs.Handles.{same_handle}
use Rattle.handles.specs.Slots.{lookup_of, released}
use Rattle.handles.specs.declared.arena.SlotStatus.TheVariants.{Live}
use Rattle.handles.specs.declared.GenerationalHandle.{GenerationalHandle}
use Rattle.handles.proofs.ClaimLaws as arena
use Rattle.handles.proofs.HandleLaws.{handles}
use Rattle.handles.proofs.LookupLaws.{live_facts}
use Rattle.handles.proofs.SlotLaws.{by_same}
use Rattle.composition_state.specs.declared.registry.CompositionRegistry.{CompositionRegistry}
use Rattle.records.specs.Surfaces.{SurfaceTable, surfaces_with}
use Rattle.records.specs.declared.view.ViewRecord.{ViewRecord}
use Rattle.records.specs.Layers.{layers, is_layer_of}
use Rattle.composition_state.specs.Registry.{with_surfaces}
use Rattle.records.specs.Shortcuts.{shortcuts, is_of_other_slot, shortcuts_without}
use Rattle.records.specs.Views.{no_view, view_at}
use Rattle.composition_close.specs.Close.{close_refusal, detached, freed, closed_panel, slot_refusal, close_settled, close_after, close_surface}
use Rattle.composition_close.specs.Detach.{own_view, is_on_surface, detached_view}
use Rattle.composition_soundness.proofs.ListLaws.{all_as, all_both, kept_few}
use Rattle.composition_soundness.proofs.LiveLaws.{stays_live}
use Rattle.composition_soundness.proofs.PartLaws.{Parts, keeps}
use Rattle.composition_soundness.proofs.ChangeLaws.{Remains, layers_remain, view_changed, surfaces_changed, shortcuts_changed, view_of_lem}
use Rattle.composition_soundness.proofs.LayerLaws.{layer_live, layer_view, layer_when, layers_kept}
use Rattle.composition_soundness.proofs.InputLaws.{kept_captured}
use Rattle.composition_soundness.proofs.WindowLaws.{views_few}

-- a layer is another panel
abbrev pub is_other : GenerationalHandle → GenerationalHandle → Bool
is_other h at = not (same_handle h at)

-- a view without the panel among its layers
abbrev pub IsOut : GenerationalHandle → ViewRecord → Type 0
IsOut h v = all (is_other h) (entries_of layers v.surfaces) ≡ true

-- ---- the panel's slot goes, where no live view has it
module _ (r : CompositionRegistry) (p : Parts r) (h : GenerationalHandle) (out : (g : GenerationalHandle) → lookup_of r.views.arena g ≡ Live → IsOut h (view_at r.views g)) where
  abbrev left : SurfaceTable
  left = surfaces_with (released r.surfaces.arena h).arena r.surfaces

  remains : (view at : GenerationalHandle) → (is_layer_of r.surfaces view at && is_other h at) ≡ true → Remains r.surfaces left view at
  remains view at y =
      let own = and_left (is_layer_of r.surfaces view at) (is_other h at) y in
      let other = not-true (same_handle h at) (and_right (is_layer_of r.surfaces view at) (is_other h at) y) in
      record {
        layer = layer_when left view at
            (stays_live r.surfaces.arena h at (λ q. clash (ap (same_handle h) q ∙ handles.same_refl h) other) (layer_live r.surfaces view at own))
            (layer_view r.surfaces view at own);
        place = refl;
      }

  slot_freed : Parts (freed h r)
  unfolding freed
  slot_freed = shortcuts_changed (with_surfaces left r)
      (surfaces_changed r p left ((arena.claims).release_proper r.surfaces.arena _ h p.surfaces) p.surface_records
      (λ view e x. layers_remain r.surfaces left _ view (view_at r.views view).surfaces (λ at. is_layer_of r.surfaces view at && is_other h at) (remains view)
      (all_both (is_layer_of r.surfaces view) (is_other h) (entries_of layers (view_at r.views view).surfaces) x.own (out view e)) x))
      (shortcuts_without h.index r.shortcuts) (kept_few shortcuts (is_of_other_slot h.index) r.shortcuts 256 p.shortcuts)

-- ---- the panel leaves its view
module _ (r : CompositionRegistry) (p : Parts r) (h : GenerationalHandle) where
  abbrev view : GenerationalHandle
  view = own_view r.surfaces h

  abbrev left_view : ViewRecord
  left_view = detached_view r.surfaces (view_at r.views view) h

  panel_detached : Parts (detached h r)
  unfolding detached detached_view
  panel_detached = view_changed r p view left_view (λ g e i x. record {
    window = x.window;
    layered = layers_kept r.surfaces _ g (view_at r.views view).surfaces x.layered (is_other h);
    captured = kept_captured (λ e. not (is_on_surface h e)) (view_at r.views view).pointer_captures x.captured;
  })

  own_out : IsOut h left_view
  unfolding detached_view
  own_out = ap (all (is_other h)) (entries_packed layers (keep (is_other h) (entries_of layers (view_at r.views view).surfaces))) ∙ keep_passes (is_other h) (entries_of layers (view_at r.views view).surfaces)

  others_out : (g : GenerationalHandle) → lookup_of r.views.arena g ≡ Live → (g.index ≡ view.index → ⊥) → IsOut h (view_at r.views g)
  others_out g e n = all_as (is_layer_of r.surfaces g) (is_other h)
      (λ at y. by_test (same_handle h at)
      (λ t. absurd (n (ap (λ (x : GenerationalHandle). x.index) (sym (layer_view r.surfaces g at y) ∙ ap (own_view r.surfaces) (sym (handles.same_eq h at t))))))
      (λ t. ap not t))
      (entries_of layers (view_at r.views g).surfaces) (view_of_lem r p g e).layered.own

  all_out : (g : GenerationalHandle) → lookup_of r.views.arena g ≡ Live → IsOut h (get_or (set r.views.records view.index left_view) g.index no_view)
  all_out g e = by_same g.index view.index
      (λ i. let within : view.index < length r.views.records = below (sym i) (live_facts r.views.arena g e).used (views_few r p) p.view_records in
      subst (IsOut h) (sym (ap (λ (j : ℕ). get_or (set r.views.records view.index left_view) j no_view) i ∙ get_or-set_same r.views.records view.index left_view no_view within)) own_out)
      (λ n. subst (IsOut h) (sym (get_or-set_other r.views.records view.index g.index left_view no_view n)) (others_out g e n))
    where
      below : {j k m n : ℕ} → j ≡ k → k < m → m ≤ 16 → n ≡ 16 → j < n
      below {j} {k} {m} {n} a b c d = omega arith

  -- the whole change, whatever the handle
  pub panel_closed_lem : Parts (closed_panel h r)
  unfolding detached
  panel_closed_lem = slot_freed (detached h r) panel_detached h all_out

  close_after_lem : (o : Outcome) → Parts (close_after o r h).registry
  unfolding close_settled
  close_after_lem (Ok _) = keeps (slot_refusal r h) (detached h r) (closed_panel h r) panel_detached (λ a. panel_closed_lem)
  close_after_lem (Err e) = p

  pub close_surface_lem : Parts (close_surface r h).registry
  unfolding close_surface
  close_surface_lem = close_after_lem (close_refusal r h)
