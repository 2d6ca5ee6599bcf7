-- The calls on windows and views: an allocation keeps every live handle, a closed window is no live view's, and a view just created is empty.
use Prim.Native.Nat.{ℕ, ◌≤◌, ◌<◌}
use mathlib.Core.Path.{◌≡◌, sym, ap, ◌∙◌, subst}
use mathlib.Core.Bool.{false, not}
use mathlib.Core.List.{List, []}
use native.Mathlib.Omega.{arith}
use borrow.Author.Tests.{ltb-false, not-true, not-false}
use lib.Dec.{eqb, ltb}
use lib.ListN.{length, length-set, get_or, set}
use lib.Seq.{get_or-set_same, get_or-set_other}
use Rattle.lists.specs.Below.{all_below}
use Rattle.lists.specs.Lists.{all}
use Rattle.lists.specs.Maps.{rising}
use Rattle.lists.specs.Tables.{packed}
use Rattle.lists.proofs.BelowLaws.{all_at}
use Rattle.lists.proofs.ListLaws.{by_test, clash, and_both}
use Rattle.lists.proofs.TableLaws.{entries_packed, len_packed}
use Rattle.handles.specs.Claims.{Proper, MayIssue, Issues}
use Rattle.handles.specs.Handles.{same_handle}
use Rattle.handles.specs.Slots.{lookup_of, released}
use Rattle.handles.specs.declared.arena.Allocation.{Allocation}
use Rattle.handles.specs.declared.arena.SlotStatus.TheVariants.{Live}
use Rattle.handles.specs.declared.GenerationalHandle.{GenerationalHandle}
use Rattle.handles.proofs.ClaimLaws as arena
use Rattle.handles.proofs.HandleLaws.{handles}
use Rattle.handles.proofs.LookupLaws.{live_facts}
use Rattle.records.specs.declared.error.CompositionError.TheVariants.{Capacity, WindowInUse, InvalidWindow, StaleWindow}
use Rattle.composition_state.specs.declared.registry.CompositionRegistry.{CompositionRegistry}
use Rattle.records.specs.Surfaces.{SurfaceTable}
use Rattle.records.specs.declared.view.ViewRecord.{ViewRecord}
use Rattle.records.specs.Views.{ViewTable, fresh_view, no_view, view_at, view_slots, views_with}
use Rattle.composition_state.specs.Damage.{damage_refusal}
use Rattle.records.specs.Errors.{refusal_if}
use Rattle.records.specs.Layers.{layers, itself, layer_lt, is_layer_of}
use Rattle.composition_state.specs.Registry.{with_windows, with_views, window_refusal}
use Rattle.composition_state.proofs.SettleLaws.{then_last, if_accepted}
use Rattle.composition_panels.specs.Windows.{create_window_refusal, new_window, create_window, stands_in, is_window_in_use, close_window_refusal, close_window, create_view_refusal, new_view, create_view, close_view_refusal, close_view}
use Rattle.composition_soundness.proofs.CaseLaws.{then_first, status_live, by_handle}
use Rattle.composition_soundness.proofs.LiveLaws.{one_live, was_live, stays_live, used_few, may_issue, keeps_live, others_live}
use Rattle.composition_soundness.proofs.PartLaws.{Parts, bounds, keeps}
use Rattle.composition_soundness.proofs.ChangeLaws.{LayerParts, ViewParts, views_changed, windows_changed, view_of_lem}
use Rattle.composition_soundness.proofs.InputLaws.{none_captured}

-- every used slot of the views is one that a loop over them passes
pub all_slots : (t : ViewTable) → t.arena.used ≤ 16 → view_slots t ≡ t.arena.used
all_slots t few = by_test (ltb t.arena.used 16) (λ h. rw h) (λ h. rw h (full few (ltb-false t.arena.used 16 h)))
  where
    full : {n : ℕ} → n ≤ 16 → 16 ≤ n → 16 ≡ n
    full {n} l m = omega arith

-- a view just created
empty_layers : (surfaces : SurfaceTable) (limit : ℕ) (view : GenerationalHandle) → LayerParts surfaces limit view (packed layers [])
empty_layers surfaces limit view = record {
  count = subst (λ (n : ℕ). n ≤ limit) (sym (len_packed layers [])) (omega arith);
  own = ap (all (is_layer_of surfaces view)) (entries_packed layers []);
  rise = ap (rising itself (layer_lt surfaces.records)) (entries_packed layers []);
}

module _ (r : CompositionRegistry) (p : Parts r) where
  abbrev limit : ℕ
  limit = r.limits.max_surfaces_per_view

  pub views_few : r.views.arena.used ≤ 16
  views_few = omega (arith, used_few r.views.arena _ p.views, (bounds r p).views)

  -- ---- windows
  pub create_window_lem : Parts (create_window r).registry
  unfolding create_window
  create_window_lem = keeps (create_window_refusal r) r _ p (λ a.
      let full = if_accepted (eqb r.windows.live r.limits.max_windows) Capacity (then_last (damage_refusal r) _ a) in
      let may = may_issue r.windows _ p.windows r.first_generation (bounds r p).windows full (bounds r p).named in
      windows_changed r p (new_window r).arena ((arena.claims).allocate_proper r.windows _ r.first_generation p.windows may)
      (λ h e l. keeps_live r.windows (new_window r) ((arena.claims).allocate_issues r.windows _ r.first_generation p.windows may) (view_at r.views h).window l))

  -- a window without a live view is released
  pub window_closed_lem : (window : GenerationalHandle)
      → ((h : GenerationalHandle) → lookup_of r.views.arena h ≡ Live → (view_at r.views h).window ≡ window → ⊥) → Parts (with_windows (released r.windows window).arena r)
  window_closed_lem window unused = windows_changed r p (released r.windows window).arena ((arena.claims).release_proper r.windows _ window p.windows)
      (λ h e l. stays_live r.windows window (view_at r.views h).window (unused h e) l)

  not_in_use : (window : GenerationalHandle) → is_window_in_use r.views window ≡ false → (h : GenerationalHandle) → lookup_of r.views.arena h ≡ Live → (view_at r.views h).window ≡ window → ⊥
  unfolding is_window_in_use
  not_in_use window t h e q =
      let f = live_facts r.views.arena h e in
      let none = not-false (all_below (λ i. not (stands_in r.views window i)) (view_slots r.views)) t in
      let here = all_at (λ i. not (stands_in r.views window i)) (view_slots r.views) h.index none (rw (all_slots r.views views_few) f.used) in
      clash (and_both f.filled (ap (λ (w : GenerationalHandle). same_handle w window) q ∙ handles.same_refl window)) (not-true (stands_in r.views window h.index) here)

  pub close_window_lem : (window : GenerationalHandle) → Parts (close_window r window).registry
  unfolding close_window
  close_window_lem window = keeps (close_window_refusal r window) r _ p (λ a.
      let a₁ = then_last (window_refusal r.windows window) _ (then_last (damage_refusal r) _ a) in
      window_closed_lem window (not_in_use window (if_accepted (is_window_in_use r.views window) WindowInUse (then_first (refusal_if (is_window_in_use r.views window) WindowInUse) _ a₁))))

  -- ---- views
  module _ (window : GenerationalHandle) (live : lookup_of r.windows window ≡ Live) (may : MayIssue r.views.arena r.limits.max_views r.first_generation) where
    abbrev made : Allocation
    made = new_view r

    proper : Proper made.arena r.limits.max_views
    proper = (arena.claims).allocate_proper r.views.arena _ r.first_generation p.views may

    issues : Issues r.views.arena made
    issues = (arena.claims).allocate_issues r.views.arena _ r.first_generation p.views may

    abbrev records : List ViewRecord
    records = set r.views.records made.handle.index (fresh_view window)

    within : made.handle.index < length r.views.records
    within = omega (arith, (live_facts made.arena made.handle issues.is).used, used_few made.arena _ proper, (bounds r p).views, p.view_records)

    fresh : (h : GenerationalHandle) → ViewParts r.windows r.surfaces limit h (fresh_view window)
    fresh h = record { window = live; layered = empty_layers r.surfaces limit h; captured = none_captured }

    each : (h : GenerationalHandle) → lookup_of made.arena h ≡ Live → ViewParts r.windows r.surfaces limit h (get_or records h.index no_view)
    each h e = by_handle h made.handle
        (λ q. subst (ViewParts r.windows r.surfaces limit h)
        (sym (ap (λ (g : GenerationalHandle). get_or records g.index no_view) q ∙ get_or-set_same r.views.records made.handle.index (fresh_view window) no_view within)) (fresh h))
        (λ n. subst (ViewParts r.windows r.surfaces limit h)
        (sym (get_or-set_other r.views.records made.handle.index h.index (fresh_view window) no_view (λ i. n (one_live made.arena h made.handle e issues.is i))))
        (view_of_lem r p h (others_live r.views.arena made issues h n e)))

  pub create_view_lem : (window : GenerationalHandle) → Parts (create_view r window).registry
  unfolding create_view
  create_view_lem window = keeps (create_view_refusal r window) r _ p (λ a.
      let a₁ = then_last (damage_refusal r) _ a in
      let live = status_live (lookup_of r.windows window) InvalidWindow StaleWindow (then_first (window_refusal r.windows window) _ a₁) in
      let full = if_accepted (eqb r.views.arena.live r.limits.max_views) Capacity (then_last (window_refusal r.windows window) _ a₁) in
      let few : r.limits.max_views ≤ 64 = omega (arith, (bounds r p).views) in
      let may = may_issue r.views.arena _ p.views r.first_generation few full (bounds r p).named in
      views_changed r p _ (proper window live may) (length-set r.views.records (new_view r).handle.index (fresh_view window) ∙ p.view_records) (each window live may))

  -- a view is released, whatever it has
  pub view_closed_lem : (view : GenerationalHandle) → Parts (with_views (views_with (released r.views.arena view).arena r.views) r)
  view_closed_lem view = views_changed r p (views_with (released r.views.arena view).arena r.views) ((arena.claims).release_proper r.views.arena _ view p.views) p.view_records
      (λ h e. view_of_lem r p h (was_live r.views.arena view h e))

  pub close_view_lem : (view : GenerationalHandle) → Parts (close_view r view).registry
  unfolding close_view
  close_view_lem view = keeps (close_view_refusal r view) r _ p (λ a. view_closed_lem view)
