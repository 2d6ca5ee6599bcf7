-- How the book's captures and panels' views stand to a registry: both are read from it, and each panel that holds a
-- capture is a live panel of that view.
use Rattle.std.specs.Prelude.{ℕ, ◌≡◌, Bool, true, false, ◌&&◌, cond, List, [], ◌++◌, map, Some}
use Rattle.lists.specs.Below.{iter_below}
use Rattle.lists.specs.Lists.{all}
use Rattle.lists.specs.Tables.{entries_of}
use Rattle.handles.specs.declared.GenerationalHandle.{GenerationalHandle}
use Rattle.handles.specs.Handles.{same_handle}
use Rattle.handles.specs.Slots.{slot_at}
use Rattle.maps.specs.declared.captures.Capture.{Capture}
use Rattle.maps.specs.Captures.{captures, capture_key}
use Rattle.maps.specs.Keys.{pointer_key}
use Rattle.maps.specs.MapTables.{found}
use Rattle.composition_state.specs.declared.registry.CompositionRegistry.{CompositionRegistry}
use Rattle.records.specs.Views.{ViewTable, view_at, view_slots, view_status}
use Rattle.composition_state.specs.Damage.{view_handle}
use Rattle.records.specs.Layers.{layers, is_live}
use Rattle.records.specs.Surfaces.{descriptor_of, surface_status}
use Rattle.composition_input.specs.Captures.{primary, capture}
use Rattle.composition_arbitration.specs.Targets.{is_among}
use Rattle.book.specs.Book.{Held, Book, home_of}

-- a live panel, and its view
abbrev pub is_open : CompositionRegistry → GenerationalHandle → Bool
is_open r h = is_live (surface_status r.surfaces h)

abbrev pub view_of : CompositionRegistry → GenerationalHandle → GenerationalHandle
view_of r h = (descriptor_of r.surfaces h).view

abbrev pub in_view : GenerationalHandle → Capture → Held
in_view view c = record { view = view; capture = c }

-- the captures of the view in a slot, and of all live views: by view slot, then by pointer
abbrev pub held_at : ViewTable → ℕ → List Held
held_at t i =
    cond (slot_at t.arena i).filled
    (map (in_view (view_handle t i)) (entries_of captures (view_at t (view_handle t i)).pointer_captures)) []

unfoldable pub held_in : ViewTable → List Held
held_in t = iter_below (λ i l. l ++ held_at t i) (view_slots t) []

-- a capture's panel is live, and of the capture's view
abbrev pub is_held_well : CompositionRegistry → Held → Bool
is_held_well r x = is_open r x.capture.surface && same_handle (view_of r x.capture.surface) x.view

pub record Agrees (r : CompositionRegistry) (b : Book) : Type 0 where
  -- the book has the registry's captures
  pub captures_held : held_in r.views ≡ b.captures
  -- the book knows each live panel's view
  pub homes_known : (h : GenerationalHandle) → is_open r h ≡ true → home_of h b.homes ≡ Some (view_of r h)
  pub held_well : all (is_held_well r) b.captures ≡ true
  -- a live panel is a layer of its view, which is live
  pub layered : (h : GenerationalHandle) → is_open r h ≡ true
      → (is_live (view_status r.views (view_of r h)) ≡ true)
      × (is_among h (entries_of layers (view_at r.views (view_of r h)).surfaces) ≡ true)
  -- a panel in a live view's single field has PRIMARY in that view's map
  pub single_mapped : (view h : GenerationalHandle) → is_live (view_status r.views view) ≡ true
      → (view_at r.views view).pointer_capture ≡ Some h
      → found captures capture_key (pointer_key primary) (view_at r.views view).pointer_captures
      ≡ Some (capture primary h)

-- live panels stay live, in their views
pub record Keeps (r after : CompositionRegistry) : Type 0 where
  pub stays : (h : GenerationalHandle) → is_open r h ≡ true → (is_open after h ≡ true) × (view_of after h ≡ view_of r h)

-- live panels but one stay live, in their views
pub record KeepsBut (gone : GenerationalHandle) (r after : CompositionRegistry) : Type 0 where
  pub stays : (h : GenerationalHandle) → same_handle gone h ≡ false → is_open r h ≡ true → (is_open after h ≡ true)
      × (view_of after h ≡ view_of r h)

-- the book goes on agreeing, and live panels stay
pub record Follows (r after : CompositionRegistry) (b : Book) : Type 0 where
  pub agrees : Agrees after b
  pub keeps : Keeps r after
