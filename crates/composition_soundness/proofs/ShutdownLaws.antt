-- A shutdown is closes of panels, views and windows: each keeps the test, and when the windows' turn comes no view is live.
use Rattle.std.specs.Prelude.{Ok, Err}
use Prim.Native.Nat.{ℕ, zero, suc, ◌≤◌, ◌<◌}
use mathlib.Core.Path.{◌≡◌, refl, sym, ap, ◌∙◌}
use mathlib.Core.Bool.{true, not}
use mathlib.Core.List.{List, [], ◌∷◌, reverse}
use native.Mathlib.Omega.{arith}
use borrow.Author.Tests.{eq-eqb, not-true, not-false}
use lib.Dec.{eqb}
use Rattle.lists.specs.Below.{iter_below}
use Rattle.lists.specs.Tables.{entries_of, packed}
use Rattle.lists.specs.Numbers.{max_u64}
use Rattle.lists.proofs.BelowLaws.{all_at}
use Rattle.lists.proofs.ListLaws.{by_test, clash, and_left, and_right, and_both}
use Rattle.handles.specs.Claims.{Proper}
use Rattle.handles.specs.Handles.{handle_of}
use Rattle.handles.specs.Slots.{slot_at, lookup_of, released, used_places, is_exhausted, none_exhausted}
use Rattle.handles.specs.declared.arena.Arena.{Arena}
use Rattle.handles.specs.declared.arena.SlotStatus.TheVariants.{Live}
use Rattle.handles.specs.declared.GenerationalHandle.{GenerationalHandle}
use Rattle.handles.proofs.ClaimLaws as arena
use Rattle.handles.proofs.ListedLaws.{places}
use Rattle.handles.proofs.LookupLaws.{live_facts}
use Rattle.handles.proofs.SoundLaws.{sound}
use Rattle.records.specs.declared.error.CompositionError.TheVariants.{RevisionExhausted, GenerationExhausted}
use Rattle.composition_state.specs.Registry.{Changed}
use Rattle.composition_state.specs.declared.registry.CompositionRegistry.{CompositionRegistry}
use Rattle.records.specs.Views.{ViewTable, view_at, view_slots, views_with}
use Rattle.composition_state.specs.Damage.{damage_refusal, view_handle}
use Rattle.records.specs.Errors.{refusal_if, Outcome}
use Rattle.records.specs.Layers.{layers, is_live}
use Rattle.composition_state.specs.Registry.{with_windows, with_views, advanced}
use Rattle.composition_state.proofs.SettleLaws.{then_last, if_accepted}
use Rattle.composition_close.specs.declared.shutdown.Closing.{Closing}
use Rattle.composition_close.specs.Close.{detached, freed, closed_panel}
use Rattle.composition_close.specs.Reports.{close_reports}
use Rattle.composition_close.specs.Shutdown.{is_over, is_any_exhausted, shutdown_refusal, layer_closed, layers_closed, view_closed, whole_view_closed, view_closed_at, views_closed, window_closed, window_handle, window_closed_at, windows_closed, shut_down, shutdown_after, shutdown_of}
use Rattle.composition_soundness.proofs.CaseLaws.{either}
use Rattle.composition_soundness.proofs.LiveLaws.{was_live}
use Rattle.composition_soundness.proofs.PartLaws.{Parts, revised}
use Rattle.composition_soundness.proofs.WindowLaws.{all_slots, views_few, window_closed_lem, view_closed_lem}
use Rattle.composition_soundness.proofs.CloseLaws.{panel_closed_lem}

-- a raised revision leaves the views
raised_views : (c : CompositionRegistry) → (advanced c).registry.views ≡ c.views
unfolding advanced
raised_views c = either (λ (x : Changed). x.registry.views ≡ c.views) (eqb c.revision max_u64) _ _ refl refl

-- ---- panels, one after the other
layers_closed_lem : (l : List GenerationalHandle) (w : Closing) → Parts w.registry → Parts (layers_closed l w).registry
unfolding layers_closed layer_closed
layers_closed_lem [] w p = p
layers_closed_lem (h ∷ l) w p = layers_closed_lem l (layer_closed h w) (revised (closed_panel h w.registry) (panel_closed_lem w.registry p h))

same_slots : (h : GenerationalHandle) (r : CompositionRegistry) → (closed_panel h r).views.arena ≡ r.views.arena
unfolding freed detached
same_slots h r = refl

layers_slots : (l : List GenerationalHandle) (w : Closing) → (layers_closed l w).registry.views.arena ≡ w.registry.views.arena
unfolding layers_closed layer_closed
layers_slots [] w = refl
layers_slots (h ∷ l) w =
    layers_slots l (layer_closed h w) ∙ ap (λ (t : ViewTable). t.arena) (raised_views (closed_panel h w.registry)) ∙ same_slots h w.registry

-- ---- a view with its panels
module _ (view : GenerationalHandle) (w : Closing) where
  abbrev done : Closing
  done = layers_closed (reverse (entries_of layers (view_at w.registry.views view).surfaces)) w

  whole_closed : Parts w.registry → Parts (whole_view_closed view w).registry
  unfolding whole_view_closed view_closed
  whole_closed p = revised _ (view_closed_lem done.registry (layers_closed_lem (reverse (entries_of layers (view_at w.registry.views view).surfaces)) w p) view)

  whole_slots : (whole_view_closed view w).registry.views.arena ≡ (released w.registry.views.arena view).arena
  unfolding whole_view_closed view_closed
  whole_slots =
      ap (λ (t : ViewTable). t.arena) (raised_views (with_views (views_with (released done.registry.views.arena view).arena done.registry.views) done.registry))
      ∙ ap (λ (a : Arena). (released a view).arena) (layers_slots (reverse (entries_of layers (view_at w.registry.views view).surfaces)) w)

not_exhausted : (a : Arena) (limit : ℕ) → Proper a limit → none_exhausted a ≡ true → (g : GenerationalHandle) → lookup_of a g ≡ Live → g.generation ≡ 4294967295 → ⊥
unfolding none_exhausted
not_exhausted a limit p t g e z =
    let f = live_facts a g e in
    let fresh = all_at (λ i. not (is_exhausted (slot_at a i))) (used_places a) g.index t (rw (places a (sound a limit p.formed).within_limit.used.table) f.used) in
    clash (and_both f.filled (eq-eqb _ _ (f.same ∙ z))) (not-true (is_exhausted (slot_at a g.index)) fresh)

-- ---- every view in slot order
module _ (r : CompositionRegistry) (p : Parts r) (fresh : none_exhausted r.views.arena ≡ true) where
  -- after i slots: what is live was live, and is of a later slot
  record Left (i : ℕ) (w : Closing) : Type 0 where
    pub kept : Parts w.registry
    pub was : (g : GenerationalHandle) → lookup_of w.registry.views.arena g ≡ Live → lookup_of r.views.arena g ≡ Live
    pub later : (g : GenerationalHandle) → lookup_of w.registry.views.arena g ≡ Live → i ≤ g.index

  module _ (i : ℕ) (w : Closing) (x : Left i w) where
    abbrev slots : Arena
    slots = w.registry.views.arena

    abbrev here : GenerationalHandle
    here = view_handle w.registry.views i

    -- the live handle of the slot is the one that is closed
    at_slot : (g : GenerationalHandle) → lookup_of slots g ≡ Live → g.index ≡ i → g ≡ here
    at_slot g e q = let same : (slot_at slots i).generation ≡ g.generation = ap (λ (j : ℕ). (slot_at slots j).generation) (sym q) ∙ (live_facts slots g e).same in
        λ k. handle_of (q k) (sym same k)

    gone : (g : GenerationalHandle) → lookup_of slots g ≡ Live → g.index ≡ i → lookup_of (released slots here).arena g ≡ Live → ⊥
    gone g e q l =
        let is = at_slot g e q in
        let live : lookup_of slots here ≡ Live = ap (lookup_of slots) (sym is) ∙ e in
        let done = (arena.claims).live_released slots _ here x.kept.views live
        (λ z. not_exhausted r.views.arena _ p.views fresh g (x.was g e) (ap (λ (y : GenerationalHandle). y.generation) is ∙ z)) in
        clash (ap is_live (ap (lookup_of (released slots here).arena) (sym is) ∙ l)) (ap is_live ((arena.claims).released_stale slots here done))

    passed : (g : GenerationalHandle) → i ≤ g.index → (g.index ≡ i → ⊥) → suc i ≤ g.index
    passed g l n = over l n
      where
        over : {m : ℕ} → i ≤ m → (m ≡ i → ⊥) → suc i ≤ m
        over {m} l n = omega arith

    step : Left (suc i) (view_closed_at i w)
    step = by_test (slot_at slots i).filled
        (λ t. rw t (record {
          kept = whole_closed here w x.kept;
          was = λ g e. x.was g (before g e);
          later = λ g e. passed g (x.later g (before g e)) (λ q. gone g (before g e) q (ap (λ (a : Arena). lookup_of a g) (sym (whole_slots here w)) ∙ e));
        }))
        (λ t. rw t (record {
          kept = x.kept;
          was = x.was;
          later = λ g e. passed g (x.later g e) (λ q. clash (live_facts slots g e).filled (ap (λ (j : ℕ). (slot_at slots j).filled) q ∙ t));
        }))
      where
        before : (g : GenerationalHandle) → lookup_of (whole_view_closed here w).registry.views.arena g ≡ Live → lookup_of slots g ≡ Live
        before g e = was_live slots here g (ap (λ (a : Arena). lookup_of a g) (sym (whole_slots here w)) ∙ e)

  abbrev begun : Closing
  begun = record { registry = r; reports = packed close_reports [] }

  all_left : (n : ℕ) → Left n (iter_below view_closed_at n begun)
  unfolding iter_below
  all_left zero = record { kept = p; was = λ g e. e; later = λ g e. omega arith }
  all_left (suc n) = step n (iter_below view_closed_at n begun) (all_left n)

  views_gone : (g : GenerationalHandle) → lookup_of (views_closed r).registry.views.arena g ≡ Live → ⊥
  unfolding views_closed
  views_gone g e =
      let x = all_left (view_slots r.views) in
      apart (all_slots r.views (views_few r p)) (x.later g e) (live_facts r.views.arena g (x.was g e)).used
    where
      apart : {j k m : ℕ} → j ≡ k → j ≤ m → m < k → ⊥
      apart {j} {k} {m} a b c = omega arith

  views_kept : Parts (views_closed r).registry
  unfolding views_closed
  views_kept = (all_left (view_slots r.views)).kept

-- ---- every window, once no view is live
record Viewless (r : CompositionRegistry) : Type 0 where
  pub kept : Parts r
  pub none : (g : GenerationalHandle) → lookup_of r.views.arena g ≡ Live → ⊥

one_window : (i : ℕ) (r : CompositionRegistry) → Viewless r → Viewless (window_closed_at i r)
unfolding window_closed
one_window i r x = either Viewless (slot_at r.windows i).filled _ _
    (record {
      kept = revised _ (window_closed_lem r x.kept (window_handle r.windows i) (λ h e q. x.none h e));
      none = λ g e. x.none g (ap (λ (t : ViewTable). lookup_of t.arena g) (sym (raised_views (with_windows (released r.windows (window_handle r.windows i)).arena r))) ∙ e);
    })
    x

all_windows : (r : CompositionRegistry) → Viewless r → (n : ℕ) → Viewless (iter_below window_closed_at n r)
unfolding iter_below
all_windows r x zero = x
all_windows r x (suc n) = one_window n (iter_below window_closed_at n r) (all_windows r x n)

module _ (r : CompositionRegistry) (p : Parts r) where
  shut_down_lem : none_exhausted r.views.arena ≡ true → Parts (shut_down r).registry
  unfolding shut_down windows_closed
  shut_down_lem fresh = (all_windows (views_closed r).registry (record { kept = views_kept r p fresh; none = views_gone r p fresh }) (used_places (views_closed r).registry.windows)).kept

  shut_after : (o : Outcome) → (o ≡ Ok tt → none_exhausted r.views.arena ≡ true) → Parts (shutdown_after o r).registry
  shut_after (Ok _) f = shut_down_lem (f refl)
  shut_after (Err e) f = p

  pub shutdown : Parts (shutdown_of r).registry
  unfolding shutdown_of
  shutdown = shut_after (shutdown_refusal r) (λ a.
      let a₁ = then_last (refusal_if (is_over r.revision r.surfaces.arena.live r.views.arena.live r.windows.live) RevisionExhausted) _ (then_last (damage_refusal r) _ a) in
      let all = not-false _ (if_accepted (is_any_exhausted r) GenerationExhausted a₁) in
      and_left (none_exhausted r.views.arena) _ (and_right (none_exhausted r.windows) _ all))
