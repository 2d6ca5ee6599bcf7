-- A registry with one part changed passes the damage test again if that part does: what is to be shown for each kind of change.
use Prim.Native.Nat.{ℕ, ◌≤◌}
use mathlib.Core.Path.{◌≡◌, ap, ◌∙◌}
use mathlib.Core.Bool.{Bool, true}
use borrow.Author.Tests.{leb-true, le-leb}
use lib.Dec.{leb}
use lib.ListN.{length, length-set}
use lib.Signed.{lt_z}
use Rattle.lists.specs.Lists.{all}
use Rattle.lists.specs.Orders.{lex_both}
use Rattle.lists.specs.Tables.{entries_of}
use Rattle.lists.proofs.ListLaws.{and_left, and_right, and_both}
use Rattle.handles.specs.Claims.{Proper}
use Rattle.handles.specs.Handles.{handle_lt}
use Rattle.handles.specs.Slots.{lookup_of}
use Rattle.handles.specs.declared.arena.Arena.{Arena}
use Rattle.handles.specs.declared.arena.SlotStatus.TheVariants.{Live}
use Rattle.handles.specs.declared.GenerationalHandle.{GenerationalHandle}
use Rattle.maps.specs.Captures.{captures, capture_key, PointerCaptures}
use Rattle.maps.specs.MapTables.{keys_rise}
use Rattle.records.specs.Layers.{Layers, layers, itself, z_of, layer_lt, layers_rise, is_live, is_layer_of}
use Rattle.composition_state.specs.declared.registry.CompositionRegistry.{CompositionRegistry}
use Rattle.records.specs.Shortcuts.{Shortcuts}
use Rattle.records.specs.Surfaces.{SurfaceTable}
use Rattle.records.specs.Traces.{Traces}
use Rattle.records.specs.declared.view.ViewRecord.{ViewRecord}
use Rattle.records.specs.Views.{ViewTable, no_view, view_at, with_view}
use Rattle.composition_state.specs.Damage.{traces_sound, layers_sound, view_sound}
use Rattle.composition_state.specs.Registry.{with_windows, with_views, with_surfaces, with_shortcuts, with_traces}
use Rattle.composition_soundness.proofs.CaseLaws.{live_is}
use Rattle.composition_soundness.proofs.ListLaws.{set_keeps, all_as, rising_as}
use Rattle.composition_soundness.proofs.PartLaws.{Parts}

-- ---- a view, as facts of its parts
pub record LayerParts (surfaces : SurfaceTable) (limit : ℕ) (view : GenerationalHandle) (t : Layers) : Type 0 where
  pub count : t.len ≤ limit
  pub own : all (is_layer_of surfaces view) (entries_of layers t) ≡ true
  pub rise : layers_rise surfaces.records t ≡ true

pub record CaptureParts (t : PointerCaptures) : Type 0 where
  pub count : t.table.len ≤ 32
  pub rise : keys_rise captures capture_key t ≡ true

pub record ViewParts (windows : Arena) (surfaces : SurfaceTable) (limit : ℕ) (view : GenerationalHandle) (v : ViewRecord) : Type 0 where
  pub window : lookup_of windows v.window ≡ Live
  pub layered : LayerParts surfaces limit view v.surfaces
  pub captured : CaptureParts v.pointer_captures

module _ (windows : Arena) (surfaces : SurfaceTable) (limit : ℕ) (view : GenerationalHandle) (v : ViewRecord) where
  layer_parts : layers_sound surfaces limit view v ≡ true → LayerParts surfaces limit view v.surfaces
  unfolding layers_sound
  layer_parts h =
      let h₁ = and_right (leb v.surfaces.len limit) _ h in
      record {
        count = leb-true v.surfaces.len limit (and_left (leb v.surfaces.len limit) _ h);
        own = and_left (all (is_layer_of surfaces view) (entries_of layers v.surfaces)) _ h₁;
        rise = and_right (all (is_layer_of surfaces view) (entries_of layers v.surfaces)) _ h₁;
      }

  pub view_parts : view_sound windows surfaces limit view v ≡ true → ViewParts windows surfaces limit view v
  unfolding view_sound
  view_parts h =
      let h₁ = and_right (is_live (lookup_of windows v.window)) _ h in
      let h₂ = and_right (layers_sound surfaces limit view v) _ h₁ in
      record {
        window = live_is (lookup_of windows v.window) (and_left (is_live (lookup_of windows v.window)) _ h);
        layered = layer_parts (and_left (layers_sound surfaces limit view v) _ h₁);
        captured = record {
          count = leb-true v.pointer_captures.table.len 32 (and_left (leb v.pointer_captures.table.len 32) _ h₂);
          rise = and_right (leb v.pointer_captures.table.len 32) _ h₂;
        };
      }

  pub view_sound_lem : ViewParts windows surfaces limit view v → view_sound windows surfaces limit view v ≡ true
  unfolding view_sound layers_sound
  view_sound_lem x =
      and_both (ap is_live x.window)
      (and_both (and_both (le-leb v.surfaces.len limit x.layered.count) (and_both x.layered.own x.layered.rise))
      (and_both (le-leb v.pointer_captures.table.len 32 x.captured.count) x.captured.rise))

-- ---- layers under another table of panels
-- a layer is still one, at its place in the order
pub record Remains (before after : SurfaceTable) (view at : GenerationalHandle) : Type 0 where
  pub layer : is_layer_of after view at ≡ true
  pub place : z_of after.records at ≡ z_of before.records at

same_order : (before after : SurfaceTable) (a b : GenerationalHandle) → z_of after.records a ≡ z_of before.records a → z_of after.records b ≡ z_of before.records b
    → layer_lt after.records a b ≡ layer_lt before.records a b
unfolding layer_lt
same_order before after a b p q = λ i. lex_both lt_z handle_lt (p i, a) (q i, b)

pub layers_remain : (before after : SurfaceTable) (limit : ℕ) (view : GenerationalHandle) (t : Layers) (p : GenerationalHandle → Bool)
    → ((at : GenerationalHandle) → p at ≡ true → Remains before after view at) → all p (entries_of layers t) ≡ true
    → LayerParts before limit view t → LayerParts after limit view t
layers_remain before after limit view t p remains h x = record {
  count = x.count;
  own = all_as p (is_layer_of after view) (λ at y. (remains at y).layer) (entries_of layers t) h;
  rise = rising_as itself (layer_lt before.records) (layer_lt after.records) p
      (λ a b y z l. same_order before after a b (remains a y).place (remains b z).place ∙ l) (entries_of layers t) h x.rise;
}

-- ---- one part changed
module _ (r : CompositionRegistry) (p : Parts r) where
  -- a live view's facts
  pub view_of_lem : (h : GenerationalHandle) → lookup_of r.views.arena h ≡ Live → ViewParts r.windows r.surfaces r.limits.max_surfaces_per_view h (view_at r.views h)
  view_of_lem h e = view_parts _ _ _ h _ (p.each h e)

  -- the views as a whole
  pub views_changed : (t : ViewTable) → Proper t.arena r.limits.max_views → length t.records ≡ 16
      → ((h : GenerationalHandle) → lookup_of t.arena h ≡ Live → ViewParts r.windows r.surfaces r.limits.max_surfaces_per_view h (view_at t h))
      → Parts (with_views t r)
  views_changed t proper long f = record {
    limits = p.limits;
    windows = p.windows;
    views = proper;
    surfaces = p.surfaces;
    shortcuts = p.shortcuts;
    traces = p.traces;
    view_records = long;
    surface_records = p.surface_records;
    each = λ h e. view_sound_lem _ _ _ h _ (f h e);
  }

  -- a view's record, to one that passes where the old one does
  pub view_changed : (h : GenerationalHandle) (v : ViewRecord)
      → ((view : GenerationalHandle) → lookup_of r.views.arena view ≡ Live → view.index ≡ h.index
      → ViewParts r.windows r.surfaces r.limits.max_surfaces_per_view view (view_at r.views h)
      → ViewParts r.windows r.surfaces r.limits.max_surfaces_per_view view v)
      → Parts (with_views (with_view h v r.views) r)
  view_changed h v f = views_changed (with_view h v r.views) p.views (length-set r.views.records h.index v ∙ p.view_records)
      (λ g e. set_keeps (ViewParts r.windows r.surfaces r.limits.max_surfaces_per_view g) r.views.records h.index g.index v no_view (f g e) (view_of_lem g e))

  -- the windows, where every live view's window stays live
  pub windows_changed : (a : Arena) → Proper a r.limits.max_windows
      → ((h : GenerationalHandle) → lookup_of r.views.arena h ≡ Live → lookup_of r.windows (view_at r.views h).window ≡ Live → lookup_of a (view_at r.views h).window ≡ Live)
      → Parts (with_windows a r)
  windows_changed a proper f = record {
    limits = p.limits;
    windows = proper;
    views = p.views;
    surfaces = p.surfaces;
    shortcuts = p.shortcuts;
    traces = p.traces;
    view_records = p.view_records;
    surface_records = p.surface_records;
    each = λ h e. let x = view_of_lem h e in view_sound_lem _ _ _ h _ (record { window = f h e x.window; layered = x.layered; captured = x.captured });
  }

  -- the panels, where every live view's layers pass again
  pub surfaces_changed : (t : SurfaceTable) → Proper t.arena r.limits.max_surfaces → length t.records ≡ 64
      → ((h : GenerationalHandle) → lookup_of r.views.arena h ≡ Live → LayerParts r.surfaces r.limits.max_surfaces_per_view h (view_at r.views h).surfaces
      → LayerParts t r.limits.max_surfaces_per_view h (view_at r.views h).surfaces)
      → Parts (with_surfaces t r)
  surfaces_changed t proper long f = record {
    limits = p.limits;
    windows = p.windows;
    views = p.views;
    surfaces = proper;
    shortcuts = p.shortcuts;
    traces = p.traces;
    view_records = p.view_records;
    surface_records = long;
    each = λ h e. let x = view_of_lem h e in view_sound_lem _ _ _ h _ (record { window = x.window; layered = f h e x.layered; captured = x.captured });
  }

  pub shortcuts_changed : (t : Shortcuts) → t.len ≤ 256 → Parts (with_shortcuts t r)
  shortcuts_changed t few = record {
    limits = p.limits;
    windows = p.windows;
    views = p.views;
    surfaces = p.surfaces;
    shortcuts = few;
    traces = p.traces;
    view_records = p.view_records;
    surface_records = p.surface_records;
    each = p.each;
  }

  pub traces_changed : (t : Traces) → traces_sound r.limits.max_trace_entries t ≡ true → Parts (with_traces t r)
  traces_changed t sound = record {
    limits = p.limits;
    windows = p.windows;
    views = p.views;
    surfaces = p.surfaces;
    shortcuts = p.shortcuts;
    traces = sound;
    view_records = p.view_records;
    surface_records = p.surface_records;
    each = p.each;
  }
