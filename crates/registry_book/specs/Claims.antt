-- RULES.md, Book, claimed of every call on the registry that is accepted: the book's captures and views after it are
-- the registry's.
-- The tests are those of the registry's maps (`MapTests`).
use Rattle.std.specs.Prelude.{ℕ, ◌≡◌, true, map, Option, Some, Ok}
use Rattle.lists.specs.Lists.{keep, all}
use Rattle.lists.specs.Tables.{entries_of}
use Rattle.handles.specs.declared.GenerationalHandle.{GenerationalHandle}
use Rattle.maps.specs.declared.captures.Capture.{Capture}
use Rattle.maps.specs.declared.keys.CompositionPointerId.{CompositionPointerId}
use Rattle.maps.specs.Captures.{captures}
use Rattle.composition_state.specs.declared.registry.CompositionLimits.{CompositionLimits}
use Rattle.composition_state.specs.declared.registry.CompositionRegistry.{CompositionRegistry}
use Rattle.records.specs.declared.trace.ArbitrationEvent.{ArbitrationEvent}
use Rattle.records.specs.Traces.{Hits, deliveries}
use Rattle.records.specs.Layers.{is_live}
use Rattle.composition_state.specs.Start.{started}
use Rattle.records.specs.Views.{view_at, view_status}
use Rattle.composition_input.specs.Focus.{set_focus, begin_ime, end_ime, suspend_view_input}
use Rattle.composition_input.specs.Captures.{primary, capture_pointer_for, release_pointer_for, release_pointer, device_captures, release_device_pointer_captures}
use Rattle.composition_shortcuts.specs.Registrations.{Registrations}
use Rattle.composition_arbitration.specs.declared.arbitrate.ArbitrationResult.{ArbitrationResult}
use Rattle.composition_state.specs.Registry.{outcome_of}
use Rattle.composition_arbitration.specs.Arbitration.{arbitrated}
use Rattle.composition_close.specs.Close.{close_surface}
use Rattle.composition_soundness.specs.Claims.{Undamaged}
use Rattle.calls.specs.declared.call.PanelCall.{PanelCall}
use Rattle.calls.specs.declared.call.ShortcutCall.{ShortcutCall}
use Rattle.registry_step.specs.Steps.{panel_step, shortcut_step}
use Rattle.book.specs.Book.{Held, Book, empty_book, without_captures, is_held_in_view, is_held_on_panel}
use Rattle.registry_book.specs.MapTests.{captured, is_of_map_device, is_map_entry}
use Rattle.book.specs.Notes.{noted_panel}
use Rattle.registry_book.specs.Agreement.{is_open, Agrees, KeepsBut, Follows}

abbrev pub capture_of : Held → Capture
capture_of x = x.capture

pub record RegistryBookClaims : Type 0 where
  -- a start that is accepted, and the empty book
  pub start : (session : GenerationalHandle) (epoch : ℕ) (limits : CompositionLimits) (revision generation : ℕ)
      → (started session epoch limits revision generation).outcome ≡ Ok tt
      → Agrees (started session epoch limits revision generation).registry empty_book
  -- calls on windows, views and panels: "Attach notes the view.", and the book does not name the others
  pub panel : (r : CompositionRegistry) (b : Book) (call : PanelCall) → Undamaged r → Agrees r b
      → (panel_step r call).outcome ≡ Ok tt
      → Follows r (panel_step r call).registry (noted_panel call (panel_step r call).handle b)
  -- calls that the book does not name
  pub focus : (r : CompositionRegistry) (b : Book) (v : GenerationalHandle) (h : Option GenerationalHandle) (n : ℕ) → Undamaged r
      → Agrees r b → (set_focus r v h n).outcome ≡ Ok tt → Follows r (set_focus r v h n).registry b
  pub begin_ime_lem : (r : CompositionRegistry) (b : Book) (h : GenerationalHandle) (n : ℕ) → Undamaged r → Agrees r b
      → (begin_ime r h n).outcome ≡ Ok tt → Follows r (begin_ime r h n).registry b
  pub end_ime_lem : (r : CompositionRegistry) (b : Book) (h : GenerationalHandle) (n : ℕ) → Undamaged r → Agrees r b
      → (end_ime r h n).outcome ≡ Ok tt → Follows r (end_ime r h n).registry b
  pub shortcut : (r : CompositionRegistry) (b : Book) (call : ShortcutCall) (l : Registrations)
      → Undamaged r → Agrees r b → (shortcut_step r call l).outcome ≡ Ok tt
      → Follows r (shortcut_step r call l).registry b
  pub arbitrate : (r : CompositionRegistry) (b : Book) (v : GenerationalHandle) (e : ArbitrationEvent) (hits : Hits)
      → Undamaged r → Agrees r b → outcome_of (arbitrated r v e hits) ≡ Ok tt
      → Follows r (arbitrated r v e hits).registry b
  -- "Capture gives the panel the pointer in the panel's view"
  pub capture : (r : CompositionRegistry) (b : Book) (p : CompositionPointerId) (h : GenerationalHandle) (n : ℕ)
      → Undamaged r → Agrees r b → (capture_pointer_for r p h n).outcome ≡ Ok tt
      → Follows r (capture_pointer_for r p h n).registry (captured p h b)
  -- "release of a pointer drops it if that panel has it"
  pub release_for_lem : (r : CompositionRegistry) (b : Book) (p : CompositionPointerId) (h : GenerationalHandle) (n : ℕ)
      → Undamaged r → Agrees r b → (release_pointer_for r p h n).outcome ≡ Ok tt
      → Follows r (release_pointer_for r p h n).registry (without_captures (is_map_entry p h) b)
  pub release : (r : CompositionRegistry) (b : Book) (h : GenerationalHandle) (n : ℕ) → Undamaged r → Agrees r b
      → (release_pointer r h n).outcome ≡ Ok tt
      → Follows r (release_pointer r h n).registry (without_captures (is_map_entry primary h) b)
  -- "device captures, suspend and a panel's close drop the captures of the device, view or panel"
  pub device : (r : CompositionRegistry) (b : Book) (value generation : ℕ) → Undamaged r → Agrees r b
      → outcome_of (release_device_pointer_captures r value generation) ≡ Ok tt
      → Follows r (release_device_pointer_captures r value generation).registry
      (without_captures (is_of_map_device (record { value = value; generation = generation })) b)
  pub suspend : (r : CompositionRegistry) (b : Book) (v : GenerationalHandle) (n : ℕ) → Undamaged r → Agrees r b
      → outcome_of (suspend_view_input r v n) ≡ Ok tt
      → Follows r (suspend_view_input r v n).registry (without_captures (is_held_in_view v) b)
  pub close : (r : CompositionRegistry) (b : Book) (h : GenerationalHandle) → Undamaged r → Agrees r b
      → outcome_of (close_surface r h) ≡ Ok tt
      → Agrees (close_surface r h).registry (without_captures (is_held_on_panel h) b)
      × KeepsBut h r (close_surface r h).registry
  -- the captures of a device and of a live view are the book's, in its order
  pub device_list : (r : CompositionRegistry) (b : Book) (value generation : ℕ) → Undamaged r → Agrees r b
      → device_captures r.views value generation
      ≡ map capture_of (keep (is_of_map_device (record { value = value; generation = generation })) b.captures)
  pub view_list : (r : CompositionRegistry) (b : Book) (v : GenerationalHandle) → Undamaged r → Agrees r b
      → is_live (view_status r.views v) ≡ true
      → entries_of captures (view_at r.views v).pointer_captures
      ≡ map capture_of (keep (is_held_in_view v) b.captures)
  -- who gets an event, and who takes it, is a live panel
  pub delivered : (r : CompositionRegistry) (v : GenerationalHandle) (e : ArbitrationEvent) (hits : Hits) → Undamaged r
      → (x : ArbitrationResult) → (arbitrated r v e hits).outcome ≡ Ok x
      → all (λ d. is_open r d.surface) (entries_of deliveries x.deliveries) ≡ true
  pub consumed : (r : CompositionRegistry) (v h : GenerationalHandle) (e : ArbitrationEvent) (hits : Hits)
      → Undamaged r → (x : ArbitrationResult) → (arbitrated r v e hits).outcome ≡ Ok x
      → x.consumed_by ≡ Some h → is_open r h ≡ true
