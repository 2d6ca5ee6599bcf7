-- The damage test as facts of its parts, the views' by their live handles; and a call that settles keeps them if its change does.
use Rattle.std.specs.Prelude.{Ok, Err}
use Rattle.records.specs.Errors.{Outcome}
use Prim.Native.Nat.{ℕ, ◌+◌, ◌≤◌}
use mathlib.Core.Path.{◌≡◌, refl, sym, ap, ◌∙◌}
use mathlib.Core.Bool.{true, ◌||◌}
use native.Mathlib.Omega.{arith}
use borrow.Author.Tests.{leb-true, le-leb, ltb-false, eqb-false, not-true}
use lib.Dec.{eqb, leb, ltb}
use lib.ListN.{length}
use Rattle.lists.specs.Below.{all_below}
use Rattle.lists.specs.Numbers.{max_u64}
use Rattle.lists.proofs.BelowLaws.{all_at, all_of}
use Rattle.lists.proofs.ListLaws.{by_test, and_left, and_right, and_both}
use Rattle.handles.specs.Handles.{handle_of}
use Rattle.handles.specs.Slots.{slot_at, lookup_of}
use Rattle.handles.specs.WellFormed.{well_formed}
use Rattle.handles.specs.Claims.{Proper}
use Rattle.handles.specs.declared.arena.Arena.{Arena}
use Rattle.handles.specs.declared.arena.SlotStatus.TheVariants.{Live}
use Rattle.handles.specs.declared.GenerationalHandle.{GenerationalHandle}
use Rattle.handles.proofs.LookupLaws.{live_facts}
use Rattle.composition_state.specs.Registry.{Changed}
use Rattle.composition_state.specs.declared.registry.CompositionLimits.{CompositionLimits}
use Rattle.composition_state.specs.declared.registry.CompositionRegistry.{CompositionRegistry}
use Rattle.records.specs.Surfaces.{SurfaceTable}
use Rattle.records.specs.Views.{ViewTable, view_at}
use Rattle.composition_state.specs.Damage.{limits_sound, arenas_sound, traces_sound, view_sound, view_handle, slot_sound, views_sound, is_sound}
use Rattle.composition_state.specs.Registry.{with_revision, advanced, settled}
use Rattle.composition_state.specs.Start.{any_zero, any_over_port}
use Rattle.composition_soundness.specs.Claims.{WholeArena, Undamaged}
use Rattle.composition_state.proofs.DamageLaws.{or_left, or_right}
use Rattle.composition_soundness.proofs.CaseLaws.{either}
use Rattle.composition_soundness.proofs.LiveLaws.{filled_live}

-- ---- the views, by their live handles
module _ (windows : Arena) (surfaces : SurfaceTable) (limit : ℕ) (views : ViewTable) where
  abbrev pub EachSound : Type 0
  EachSound = (h : GenerationalHandle) → lookup_of views.arena h ≡ Live → view_sound windows surfaces limit h (view_at views h) ≡ true

  each_of : all_below (slot_sound windows surfaces limit views) views.arena.used ≡ true → EachSound
  each_of t h e =
      let f = live_facts views.arena h e in
      let s : slot_sound windows surfaces limit views h.index ≡ true = all_at (slot_sound windows surfaces limit views) views.arena.used h.index t f.used in
      let at : view_sound windows surfaces limit (view_handle views h.index) (view_at views h) ≡ true = rw f.filled at s in
      let named : h ≡ view_handle views h.index = λ k. handle_of h.index (sym f.same k) in
      ap (λ (g : GenerationalHandle). view_sound windows surfaces limit g (view_at views h)) named ∙ at

  of_each : (few : ℕ) → Proper views.arena few → EachSound → all_below (slot_sound windows surfaces limit views) views.arena.used ≡ true
  of_each few p each = all_of (slot_sound windows surfaces limit views) views.arena.used (λ i l. by_test (slot_at views.arena i).filled
      (λ t. rw t (each (view_handle views i) (filled_live views.arena few p i l t)))
      (λ t. rw t))

-- ---- the limits
pub record LimitParts (l : CompositionLimits) (generation : ℕ) : Type 0 where
  pub windows : l.max_windows ≤ 64
  pub views : l.max_views ≤ 16
  pub surfaces : l.max_surfaces ≤ 64
  pub layers : l.max_surfaces_per_view ≤ 16
  pub some_trace : l.max_trace_entries ≡ 0 → ⊥
  pub named : generation ≡ 0 → ⊥

-- ---- the whole
pub record Parts (r : CompositionRegistry) : Type 0 where
  pub limits : limits_sound r.limits r.first_generation ≡ true
  pub windows : Proper r.windows r.limits.max_windows
  pub views : Proper r.views.arena r.limits.max_views
  pub surfaces : Proper r.surfaces.arena r.limits.max_surfaces
  pub shortcuts : r.shortcuts.len ≤ 256
  pub traces : traces_sound r.limits.max_trace_entries r.traces ≡ true
  pub view_records : length r.views.records ≡ 16
  pub surface_records : length r.surfaces.records ≡ 64
  pub each : EachSound r.windows r.surfaces r.limits.max_surfaces_per_view r.views

proper : (a : Arena) (limit : ℕ) → WholeArena a → well_formed a limit ≡ true → Proper a limit
proper a limit w h = record { slots = w.slots; free = w.free; formed = h }

whole : (a : Arena) (limit : ℕ) → Proper a limit → WholeArena a
whole a limit p = record { slots = p.slots; free = p.free }

module _ (r : CompositionRegistry) where
  pub parts : Undamaged r → Parts r
  unfolding is_sound arenas_sound views_sound
  parts u =
      let h = u.sound in
      let h₁ = and_right (limits_sound r.limits r.first_generation) _ h in
      let arenas = and_left (arenas_sound r.limits r.windows r.views.arena r.surfaces.arena) _ h₁ in
      let two = and_right (well_formed r.windows r.limits.max_windows) _ arenas in
      let h₂ = and_right (arenas_sound r.limits r.windows r.views.arena r.surfaces.arena) _ h₁ in
      let h₃ = and_right (leb r.shortcuts.len 256) _ h₂ in
      record {
        limits = and_left (limits_sound r.limits r.first_generation) _ h;
        windows = proper r.windows _ u.whole.windows (and_left (well_formed r.windows r.limits.max_windows) _ arenas);
        views = proper r.views.arena _ u.whole.views (and_left (well_formed r.views.arena r.limits.max_views) _ two);
        surfaces = proper r.surfaces.arena _ u.whole.surfaces (and_right (well_formed r.views.arena r.limits.max_views) _ two);
        shortcuts = leb-true r.shortcuts.len 256 (and_left (leb r.shortcuts.len 256) _ h₂);
        traces = and_left (traces_sound r.limits.max_trace_entries r.traces) _ h₃;
        view_records = u.whole.view_records;
        surface_records = u.whole.surface_records;
        each = each_of r.windows r.surfaces r.limits.max_surfaces_per_view r.views (and_right (traces_sound r.limits.max_trace_entries r.traces) _ h₃);
      }

  pub undamaged : Parts r → Undamaged r
  unfolding is_sound arenas_sound views_sound
  undamaged p = record {
    whole = record {
      windows = whole r.windows _ p.windows;
      views = whole r.views.arena _ p.views;
      surfaces = whole r.surfaces.arena _ p.surfaces;
      view_records = p.view_records;
      surface_records = p.surface_records;
    };
    sound = and_both p.limits
        (and_both (and_both p.windows.formed (and_both p.views.formed p.surfaces.formed))
        (and_both (le-leb r.shortcuts.len 256 p.shortcuts)
        (and_both p.traces (of_each r.windows r.surfaces r.limits.max_surfaces_per_view r.views r.limits.max_views p.views p.each))));
  }

pub limit_parts : (l : CompositionLimits) (generation : ℕ) → limits_sound l generation ≡ true → LimitParts l generation
limit_parts l generation h =
    let h₁ = not-true (any_zero l || (any_over_port l || eqb generation 0)) h in
    let zero₁ = or_left (any_zero l) _ h₁ in
    let zero₂ = or_right (eqb l.max_windows 0) _ zero₁ in
    let zero₃ = or_right (eqb l.max_views 0) _ zero₂ in
    let zero₄ = or_right (eqb l.max_surfaces 0) _ zero₃ in
    let zero₅ = or_right (eqb l.max_surfaces_per_view 0) _ zero₄ in
    let rest = or_right (any_zero l) _ h₁ in
    let over₁ = or_left (any_over_port l) _ rest in
    let over₂ = or_right (ltb 8 l.max_windows) _ over₁ in
    let over₃ = or_right (ltb 16 l.max_views) _ over₂ in
    let over₄ = or_right (ltb 64 l.max_surfaces) _ over₃ in
    record {
      windows = omega (arith, ltb-false 8 l.max_windows (or_left (ltb 8 l.max_windows) _ over₁));
      views = ltb-false 16 l.max_views (or_left (ltb 16 l.max_views) _ over₂);
      surfaces = ltb-false 64 l.max_surfaces (or_left (ltb 64 l.max_surfaces) _ over₃);
      layers = ltb-false 16 l.max_surfaces_per_view (or_left (ltb 16 l.max_surfaces_per_view) _ over₄);
      some_trace = eqb-false l.max_trace_entries 0 zero₅;
      named = eqb-false generation 0 (or_right (any_over_port l) _ rest);
    }

-- the limits of a registry
pub bounds : (r : CompositionRegistry) → Parts r → LimitParts r.limits r.first_generation
bounds r p = limit_parts r.limits r.first_generation p.limits

-- ---- a call that settles: the revision is no part of the test
again : (n : ℕ) (c : CompositionRegistry) → Parts c → Parts (with_revision n c)
again n c p = record {
  limits = p.limits;
  windows = p.windows;
  views = p.views;
  surfaces = p.surfaces;
  shortcuts = p.shortcuts;
  traces = p.traces;
  view_records = p.view_records;
  surface_records = p.surface_records;
  each = p.each;
}

pub revised : (c : CompositionRegistry) → Parts c → Parts (advanced c).registry
unfolding advanced
revised c p = either (λ (x : Changed). Parts x.registry) (eqb c.revision max_u64) _ _ p (again (c.revision + 1) c p)

pub keeps : (o : Outcome) (r c : CompositionRegistry) → Parts r → (o ≡ Ok tt → Parts c) → Parts (settled o r c).registry
keeps (Ok _) r c p f = revised c (f refl)
keeps (Err e) r c p f = p
