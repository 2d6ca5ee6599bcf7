-- Each step is accepted: the test passes, no live slot is at its last generation, and the revision has room for all that is live; and an accepted step keeps that.
use Rattle.std.specs.Prelude.{Ok}
use Rattle.records.specs.Errors.{Outcome}
use Prim.Native.Nat.{ℕ, ◌+◌, ◌≤◌, ◌<◌}
use mathlib.Core.Path.{◌≡◌, refl, ap, ◌∙◌, subst}
use mathlib.Core.Bool.{true, false, not}
use mathlib.Core.List.{[]}
use native.Mathlib.Omega.{arith}
use borrow.Author.Tests.{ne_eqb}
use lib.ListN.{get_or, set}
use lib.Seq.{get_or-set_same}
use Rattle.lists.specs.Tables.{entries_of}
use Rattle.lists.specs.Numbers.{max_u64}
use Rattle.lists.proofs.BelowLaws.{all_of}
use Rattle.lists.proofs.ListLaws.{by_test}
use Rattle.handles.specs.Slots.{slot_at, lookup_of, released}
use Rattle.handles.specs.declared.arena.Arena.{Arena}
use Rattle.handles.specs.declared.arena.SlotStatus.TheVariants.{Live}
use Rattle.handles.specs.declared.GenerationalHandle.{GenerationalHandle}
use Rattle.handles.proofs.LookupLaws.{live_facts}
use Rattle.records.specs.declared.view.ViewRecord.{ViewRecord}
use Rattle.records.specs.Layers.{layers, layers_without, is_layer_of}
use Rattle.records.specs.Views.{no_view, view_at, views_with, view_slots}
use Rattle.composition_state.specs.Registry.{Changed, answered_with}
use Rattle.composition_state.specs.declared.registry.CompositionRegistry.{CompositionRegistry}
use Rattle.composition_state.specs.Damage.{damage_refusal, view_handle}
use Rattle.composition_state.specs.Registry.{with_revision, with_windows, with_views, answered, advanced, settled}
use Rattle.composition_panels.specs.Windows.{exhausted_refusal, stands_in, is_window_in_use, close_view_refusal, close_view, close_window_refusal, close_window}
use Rattle.composition_close.specs.Close.{close_refusal, detached, freed, closed_panel, slot_refusal, close_settled, close_after, close_surface}
use Rattle.composition_close.specs.Detach.{own_view, detached_view, close_report}
use Rattle.composition_close.specs.Shutdown.{raised, view_closed, window_closed}
use Rattle.composition_soundness.proofs.LayerLaws.{layer_live, layer_view}
use Rattle.composition_soundness.proofs.LiveLaws.{filled_live}
use Rattle.composition_soundness.proofs.PartLaws.{Parts, undamaged, revised}
use Rattle.composition_soundness.proofs.WindowLaws.{views_few, all_slots, view_closed_lem, window_closed_lem}
use Rattle.composition_soundness.proofs.CloseLaws.{panel_closed_lem}
use Rattle.shutdown_steps.proofs.SlotLaws.{Fresh, Released-at, release}

pub record Ready (c : CompositionRegistry) : Type 0 where
  pub parts : Parts c
  pub windows : Fresh c.windows
  pub views : Fresh c.views.arena
  pub surfaces : Fresh c.surfaces.arena
  pub room : c.revision + c.surfaces.arena.live + c.views.arena.live + c.windows.live ≤ max_u64

-- ---- a change is kept where the revision can rise
abbrev pub raised_to : CompositionRegistry → CompositionRegistry
raised_to c = with_revision (c.revision + 1) c

-- what an accepted close of a panel, a view and a window leaves
abbrev pub panel_next : GenerationalHandle → CompositionRegistry → CompositionRegistry
panel_next h c = raised_to (closed_panel h c)

abbrev pub view_next : GenerationalHandle → CompositionRegistry → CompositionRegistry
view_next view c = raised_to (with_views (views_with (released c.views.arena view).arena c.views) c)

abbrev pub window_next : GenerationalHandle → CompositionRegistry → CompositionRegistry
window_next window c = raised_to (with_windows (released c.windows window).arena c)

advanced_on : (c : CompositionRegistry) → c.revision < max_u64 → advanced c ≡ answered (Ok tt) (raised_to c)
unfolding advanced
advanced_on c l = rw (ne_eqb c.revision max_u64 (below l))
  where
    below : {n : ℕ} → n < max_u64 → n ≡ max_u64 → ⊥
    below {n} l e = omega arith

settled_on : (o : Outcome) (r c : CompositionRegistry) → o ≡ Ok tt → c.revision < max_u64 → settled o r c ≡ answered (Ok tt) (raised_to c)
settled_on o r c e l = ap (λ (x : Outcome). settled x r c) e ∙ advanced_on c l

raised_parts : (c : CompositionRegistry) → c.revision < max_u64 → Parts c → Parts (raised_to c)
raised_parts c l p = subst (λ (x : Changed). Parts x.registry) (advanced_on c l) (revised c p)

not_damaged : (c : CompositionRegistry) → Parts c → damage_refusal c ≡ Ok tt
not_damaged c p = rw (undamaged c p).sound

-- ---- a panel
module _ (c : CompositionRegistry) (y : Ready c) (view h : GenerationalHandle) (stands : lookup_of c.views.arena view ≡ Live) (layer : is_layer_of c.surfaces view h ≡ true) where
  live : lookup_of c.surfaces.arena h ≡ Live
  live = layer_live c.surfaces view h layer

  own : own_view c.surfaces h ≡ view
  own = layer_view c.surfaces view h layer

  pub panel_release : Released-at c.surfaces.arena h
  panel_release = release c.surfaces.arena _ y.parts.surfaces y.surfaces h live

  panel_room : c.revision < max_u64
  panel_room = omega (arith, y.room, panel_release.live)

  panel_checks : close_refusal c h ≡ Ok tt
  panel_checks = rw ((undamaged c y.parts).sound, live, own, stands)

  panel_settled : close_settled c h ≡ answered (Ok tt) (panel_next h c)
  unfolding close_settled freed detached
  panel_settled = settled_on (slot_refusal c h) (detached h c) (closed_panel h c) (ap exhausted_refusal panel_release.outcome) panel_room

  pub panel_closes : close_surface c h ≡ record { outcome = Ok (close_report c.surfaces c.views h (panel_next h c).revision); registry = (panel_next h c) }
  unfolding close_surface
  panel_closes =
      ap (λ (o : Outcome). close_after o c h) panel_checks
      ∙ ap (λ (x : Changed). answered_with (close_report c.surfaces c.views h x.registry.revision) x) panel_settled

  pub panel_raised : raised (closed_panel h c) ≡ panel_next h c
  unfolding freed detached
  panel_raised = ap (λ (x : Changed). x.registry) (advanced_on (closed_panel h c) panel_room)

  pub panel_windows : (panel_next h c).windows ≡ c.windows
  unfolding freed detached
  panel_windows = refl

  pub panel_slots : (panel_next h c).views.arena ≡ c.views.arena
  unfolding freed detached
  panel_slots = refl

  panel_arena : (panel_next h c).surfaces.arena ≡ (released c.surfaces.arena h).arena
  unfolding freed detached
  panel_arena = refl

  panel_revision : (panel_next h c).revision ≡ c.revision + 1
  unfolding freed detached
  panel_revision = refl

  pub panel_fewer : (panel_next h c).surfaces.arena.live + 1 ≡ c.surfaces.arena.live
  panel_fewer = ap (λ (a : Arena). a.live + 1) panel_arena ∙ panel_release.live

  pub panel_ready : Ready (panel_next h c)
  unfolding freed detached
  panel_ready = record {
    parts = raised_parts (closed_panel h c) panel_room (panel_closed_lem c y.parts h);
    windows = y.windows;
    views = y.views;
    surfaces = panel_release.fresh;
    room = omega (arith, y.room, panel_release.live);
  }

  -- the view's layers without it
  pub panel_out_lem : (view_at (panel_next h c).views view).surfaces ≡ layers_without h (view_at c.views view).surfaces
  unfolding freed detached detached_view
  panel_out_lem =
      ap (λ (v : GenerationalHandle). (get_or (set c.views.records v.index (detached_view c.surfaces (view_at c.views v) h)) view.index no_view).surfaces) own
      ∙ ap (λ (v : ViewRecord). v.surfaces)
      (get_or-set_same c.views.records view.index (detached_view c.surfaces (view_at c.views view) h) no_view
      (omega (arith, (live_facts c.views.arena view stands).used, views_few c y.parts, y.parts.view_records)))

-- ---- a view without layers
module _ (c : CompositionRegistry) (y : Ready c) (view : GenerationalHandle) (stands : lookup_of c.views.arena view ≡ Live) where
  pub view_release : Released-at c.views.arena view
  view_release = release c.views.arena _ y.parts.views y.views view stands

  view_room : c.revision < max_u64
  view_room = omega (arith, y.room, view_release.live)

  pub view_closes : entries_of layers (view_at c.views view).surfaces ≡ [] → close_view c view ≡ answered (Ok tt) (view_next view c)
  unfolding close_view
  view_closes empty = settled_on (close_view_refusal c view) c _ (rw ((undamaged c y.parts).sound, stands, empty, view_release.outcome)) view_room

  pub view_raised : view_closed view c ≡ view_next view c
  unfolding view_closed
  view_raised = ap (λ (x : Changed). x.registry) (advanced_on (with_views (views_with (released c.views.arena view).arena c.views) c) view_room)

  pub view_ready : Ready (view_next view c)
  view_ready = record {
    parts = raised_parts (with_views (views_with (released c.views.arena view).arena c.views) c) view_room (view_closed_lem c y.parts view);
    windows = y.windows;
    views = view_release.fresh;
    surfaces = y.surfaces;
    room = omega (arith, y.room, view_release.live);
  }

-- ---- a window, where no view is live
module _ (c : CompositionRegistry) (y : Ready c) (none : (g : GenerationalHandle) → lookup_of c.views.arena g ≡ Live → ⊥)
    (window : GenerationalHandle) (stands : lookup_of c.windows window ≡ Live) where
  pub window_release : Released-at c.windows window
  window_release = release c.windows _ y.parts.windows y.windows window stands

  window_room : c.revision < max_u64
  window_room = omega (arith, y.room, window_release.live)

  none_in : (i : ℕ) → i < view_slots c.views → not (stands_in c.views window i) ≡ true
  none_in i l = by_test (slot_at c.views.arena i).filled
      (λ t. absurd (none (view_handle c.views i) (filled_live c.views.arena _ y.parts.views i (rw (all_slots c.views (views_few c y.parts)) at l) t)))
      (λ t. rw t)

  not_used : is_window_in_use c.views window ≡ false
  unfolding is_window_in_use
  not_used = ap not (all_of (λ i. not (stands_in c.views window i)) (view_slots c.views) none_in)

  pub window_closes : close_window c window ≡ answered (Ok tt) (window_next window c)
  unfolding close_window
  window_closes = settled_on (close_window_refusal c window) c _ (rw ((undamaged c y.parts).sound, stands, not_used, window_release.outcome)) window_room

  pub window_raised : window_closed window c ≡ window_next window c
  unfolding window_closed
  window_raised = ap (λ (x : Changed). x.registry) (advanced_on (with_windows (released c.windows window).arena c) window_room)

  pub window_ready : Ready (window_next window c)
  window_ready = record {
    parts = raised_parts (with_windows (released c.windows window).arena c) window_room (window_closed_lem c y.parts window (λ g e q. none g e));
    windows = window_release.fresh;
    views = y.views;
    surfaces = y.surfaces;
    room = omega (arith, y.room, window_release.live);
  }
