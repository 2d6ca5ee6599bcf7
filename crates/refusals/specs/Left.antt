-- RULES.md, What a refusal has written: what is left of presses, captures, focus and layers, in the terms of the rules.
use Rattle.std.specs.Prelude.{ℕ, suc, Bool, false, cond, not, ◌&&◌, ◌||◌, List, [], ◌∷◌, reverse, eqb, ltb, Option, None}
use Rattle.lists.specs.Lists.{keep, first}
use Rattle.lists.specs.Maps.{insert}
use Rattle.lists.specs.Tables.{entries_of, packed}
use Rattle.handles.specs.declared.GenerationalHandle.{GenerationalHandle}
use Rattle.handles.specs.Handles.{same_handle, holds_handle}
use Rattle.handles.specs.Slots.{slot_at}
use Rattle.maps.specs.declared.bindings.Binding.{Binding}
use Rattle.maps.specs.declared.captures.Capture.{Capture}
use Rattle.maps.specs.declared.keys.BindingKey.{BindingKey}
use Rattle.maps.specs.declared.keys.BindingKey.TheVariants.{Pointer, Key, Gamepad}
use Rattle.maps.specs.declared.keys.CompositionPointerId.{CompositionPointerId}
use Rattle.maps.specs.declared.keys.InputDeviceId.{InputDeviceId}
use Rattle.maps.specs.declared.sequences.DeviceSequence.{DeviceSequence}
use Rattle.maps.specs.Bindings.{bindings}
use Rattle.maps.specs.Captures.{captures}
use Rattle.maps.specs.Keys.{key_lt}
use Rattle.maps.specs.Sequences.{sequences, sequence_key}
use Rattle.records.specs.declared.view.ViewRecord.{ViewRecord}
use Rattle.records.specs.Views.{ViewTable, view_at, view_slots, with_view}
use Rattle.records.specs.Layers.{layers, is_live}
use Rattle.records.specs.Surfaces.{is_interactive, surface_status, descriptor_of}
use Rattle.composition_state.specs.declared.registry.CompositionRegistry.{CompositionRegistry}
use Rattle.composition_state.specs.Registry.{with_views}
use Rattle.input_events.specs.declared.event.PlatformInputEvent.{PlatformInputEvent}
use Rattle.input_router.specs.declared.router.PlatformInputRouter.{PlatformInputRouter}
use Rattle.input_router.specs.Router.{presses_of, with_bindings}
use Rattle.book.specs.Ids.{is_same_device, pointer_device, press_device}

-- some element of a list passes a test
abbrev pub any : {E : Type 0} → (E → Bool) → List E → Bool
any p [] = false
any p (e ∷ l) = p e || any p l

-- ---- what is left of the router
-- the event's sequence number, with its device
abbrev pub sequence_of : PlatformInputEvent → DeviceSequence
sequence_of x = record { device = x.header.device; sequence = x.header.sequence }

-- "Route keeps the sequence and time once recorded": the sequence in its device's place, and the time
abbrev pub recorded_by : PlatformInputEvent → PlatformInputRouter → PlatformInputRouter
recorded_by x t = record {
  max_active_bindings = t.max_active_bindings;
  last_timestamp_micros = x.header.timestamp_micros;
  device_sequences =
      packed sequences (insert sequence_key key_lt (sequence_of x) (entries_of sequences t.device_sequences));
  bindings = t.bindings;
}

-- the router without the presses that pass a test; its limit, sequences and time stay
abbrev pub drop_presses : (Binding → Bool) → PlatformInputRouter → PlatformInputRouter
drop_presses p t = with_bindings (packed bindings (keep (λ x. not (p x)) (presses_of t))) t

-- "the presses of that device id (value and generation)"
abbrev pub is_press_by : InputDeviceId → Binding → Bool
is_press_by device x = is_same_device (press_device x.key) device

-- the presses "of the view's panels": the press's panel names that view as its own
abbrev pub is_press_in : CompositionRegistry → GenerationalHandle → Binding → Bool
is_press_in r view x = same_handle (descriptor_of r.surfaces x.surface).view view

-- the kinds in release order: "Pointers .. keys .. gamepads"
abbrev pub kind_of : BindingKey → ℕ
kind_of (Pointer p) = 0
kind_of (Key k) = 1
kind_of (Gamepad d) = 2

-- "a closed owner": in release order the first press whose panel is not live, if there is one
abbrev pub closed_owner : CompositionRegistry → PlatformInputRouter → Option Binding
closed_owner r t = first (λ x. not (is_live (surface_status r.surfaces x.surface))) (presses_of t)

-- "the kinds before it": a press of a kind before that of the closed owner's press
abbrev pub is_kind_before : Binding → Binding → Bool
is_kind_before owner x = ltb (kind_of x.key) (kind_of owner.key)

-- ---- what is left of the views: windows, metrics and, but for a close, layers stay
-- the registry with one view changed; all else of it stays
abbrev pub in_view : GenerationalHandle → (ViewRecord → ViewRecord) → CompositionRegistry → CompositionRegistry
in_view view change r = with_views (with_view view (change (view_at r.views view)) r.views) r

-- a slot that holds a live view
abbrev pub is_live_slot : ViewTable → ℕ → Bool
is_live_slot t i = ltb i (view_slots t) && (slot_at t.arena i).filled

-- the records from slot i on, those in slots that pass a test changed
abbrev pub changed_from : (ℕ → Bool) → (ViewRecord → ViewRecord) → ℕ → List ViewRecord → List ViewRecord
changed_from p change i [] = []
changed_from p change i (v ∷ l) = cond (p i) (change v) v ∷ changed_from p change (suc i) l

-- the registry with every live view changed; all else of it stays
abbrev pub in_every_view : (ViewRecord → ViewRecord) → CompositionRegistry → CompositionRegistry
in_every_view change r =
    with_views (record {
      arena = r.views.arena;
      records = changed_from (is_live_slot r.views) change 0 r.views.records;
    })
    r

-- the captured pointers of a view, each with its panel
abbrev pub captures_in : ViewRecord → List Capture
captures_in v = entries_of captures v.pointer_captures

-- "PRIMARY, the pointer of device 1, generation 1, contact 0"
abbrev pub is_primary : CompositionPointerId → Bool
is_primary p = eqb 1 p.device && (eqb 1 p.device_generation && eqb 0 p.contact)

-- "the captures of the device": its value and generation
abbrev pub is_capture_by : InputDeviceId → Capture → Bool
is_capture_by device e = is_same_device (pointer_device e.pointer) device

-- PRIMARY's device
abbrev pub primary_device : InputDeviceId
primary_device = record { value = 1; generation = 1 }

-- PRIMARY is captured, and it is of the device
abbrev pub loses_primary : InputDeviceId → ViewRecord → Bool
loses_primary device v = any (λ e. is_primary e.pointer) (captures_in v) && is_same_device primary_device device

-- the captures of the device go; the single field empties exactly if PRIMARY's is one of them
abbrev pub without_device : InputDeviceId → ViewRecord → ViewRecord
without_device device v = record {
  window = v.window;
  metrics = v.metrics;
  surfaces = v.surfaces;
  focus = v.focus;
  pointer_capture = cond (loses_primary device v) None v.pointer_capture;
  pointer_captures = packed captures (keep (λ e. not (is_capture_by device e)) (captures_in v));
  ime = v.ime;
}

-- "a view's loss": its focus, its captures, the single field and its composition go
abbrev pub lost_view : ViewRecord → ViewRecord
lost_view v = record {
  window = v.window;
  metrics = v.metrics;
  surfaces = v.surfaces;
  focus = None;
  pointer_capture = None;
  pointer_captures = packed captures [];
  ime = None;
}

-- ---- what is left of a closed panel's view
-- the layers but the panel, from lowest to highest
abbrev pub layers_but : GenerationalHandle → ViewRecord → List GenerationalHandle
layers_but h v = keep (λ at. not (same_handle h at)) (entries_of layers v.surfaces)

-- a layer that may have the focus: a live panel whose policy is Interactive or Exclusive
abbrev pub takes_focus : CompositionRegistry → GenerationalHandle → Bool
takes_focus r at = is_live (surface_status r.surfaces at) && is_interactive (descriptor_of r.surfaces at).input

-- "focus .. already moved": from the panel to the topmost layer left that may have it; another panel's focus stays
abbrev pub focus_left : CompositionRegistry → GenerationalHandle → ViewRecord → Option GenerationalHandle
focus_left r h v = cond (holds_handle v.focus h) (first (takes_focus r) (reverse (layers_but h v))) v.focus

-- a capture of the panel
abbrev pub is_capture_on : GenerationalHandle → Capture → Bool
is_capture_on h e = same_handle h e.surface

-- "the view's single capture field empties" if the panel has it or any pointer of the map
abbrev pub field_left : GenerationalHandle → ViewRecord → Option GenerationalHandle
field_left h v =
    cond (holds_handle v.pointer_capture h || any (is_capture_on h) (captures_in v)) None v.pointer_capture

-- "out of its view, with focus, captures and IME already moved": no layer, no capture and no composition is the panel's
abbrev pub without_panel : CompositionRegistry → GenerationalHandle → ViewRecord → ViewRecord
without_panel r h v = record {
  window = v.window;
  metrics = v.metrics;
  surfaces = packed layers (layers_but h v);
  focus = focus_left r h v;
  pointer_capture = field_left h v;
  pointer_captures = packed captures (keep (λ e. not (is_capture_on h e)) (captures_in v));
  ime = cond (holds_handle v.ime h) None v.ime;
}

-- the registry with the panel out of its own view; the panel stays live, with its registrations
abbrev pub panel_out : GenerationalHandle → CompositionRegistry → CompositionRegistry
panel_out h r = in_view (descriptor_of r.surfaces h).view (without_panel r h) r
