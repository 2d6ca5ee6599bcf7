-- What a part of the state becomes as memory is read as that part: by the cases of the enums, field by field, and entry by entry in the tables.
use Rattle.handles.specs.declared.GenerationalHandle.{GenerationalHandle}
use Rattle.geometry.specs.declared.rect.SurfaceRect.{SurfaceRect}
use Rattle.std.specs.Prelude.{Option, None, Some}
use mathlib.Core.Path.{◌≡◌, refl}
use mathlib.Core.List.{List, [], ◌∷◌, map}
use Rattle.geometry.specs.declared.metrics.ViewMetrics.{ViewMetrics}
use Rattle.geometry.specs.declared.surface.SurfaceGeometry.{SurfaceGeometry}
use Rattle.maps.specs.declared.bindings.Binding.{Binding}
use Rattle.maps.specs.declared.keys.BindingKey.{BindingKey}
use Rattle.maps.specs.declared.keys.BindingKey.TheVariants as key
use Rattle.maps.specs.Keys.{binding_key}
use Rattle.composition_state.specs.declared.registry.CompositionRegistry.{CompositionRegistry}
use Rattle.records.specs.declared.shortcut.SlotShortcut.{SlotShortcut}
use Rattle.records.specs.declared.surface.SurfaceRecord.{SurfaceRecord}
use Rattle.records.specs.declared.trace.ArbitrationEvent.{ArbitrationEvent}
use Rattle.records.specs.declared.trace.ArbitrationEvent.TheVariants.{Pointer, PointerStack, PointerFor, PointerStackFor, Keyboard, KeyboardFor, Gamepad, GamepadFor, Text, Shortcut, SystemShortcut}
use Rattle.records.specs.declared.trace.CompositionTrace.{CompositionTrace}
use Rattle.records.specs.declared.view.ViewRecord.{ViewRecord}
use Rattle.input_router.specs.declared.router.PlatformInputRouter.{PlatformInputRouter}
use Rattle.call_fields.specs.Back.{surface_kind_back, policy_back, scope_back, visibility_back}
use Rattle.counter_memory.specs.Optionals.{optional_handle_memory, optional_handle_of, optional_rect_memory, optional_rect_of}
use Rattle.counter_memory.specs.Events.{event_memory, event_of}
use Rattle.counter_memory.specs.Views.{metrics_memory, metrics_of, view_memory, view_of}
use Rattle.counter_memory.specs.Surfaces.{geometry_memory, geometry_of, surface_memory, surface_of}
use Rattle.counter_memory.specs.Shortcuts.{shortcut_memory, shortcut_of}
use Rattle.counter_memory.specs.Traces.{trace_memory, trace_of}
use Rattle.counter_memory.specs.Bindings.{key_of, binding_memory, binding_of}
use Rattle.counter_memory.specs.Registry.{registry_memory, registry_of}
use Rattle.counter_memory.specs.Router.{router_memory, router_of}

each_back : {A B : Type 0} (f : A → B) (g : B → A) → ((x : A) → g (f x) ≡ x) → (l : List A) → map g (map f l) ≡ l
each_back f g h [] = refl
each_back f g h (x ∷ l) = rw (h x, each_back f g h l)

optional_handle_back : (o : Option GenerationalHandle) → optional_handle_of (optional_handle_memory o) ≡ o
optional_handle_back None = refl
optional_handle_back (Some h) = refl

optional_rect_back : (o : Option SurfaceRect) → optional_rect_of (optional_rect_memory o) ≡ o
optional_rect_back None = refl
optional_rect_back (Some r) = refl

event_back : (e : ArbitrationEvent) → event_of (event_memory e) ≡ e
event_back (Pointer hit) = rw (optional_handle_back hit)
event_back PointerStack = refl
event_back (PointerFor pointer hit) = rw (optional_handle_back hit)
event_back (PointerStackFor pointer) = refl
event_back Keyboard = refl
event_back (KeyboardFor target) = rw (optional_handle_back target)
event_back Gamepad = refl
event_back (GamepadFor target) = rw (optional_handle_back target)
event_back Text = refl
event_back Shortcut = refl
event_back (SystemShortcut mask) = refl

press_back : (k : BindingKey) → key_of (binding_key k) ≡ k
press_back (key.Pointer p) = refl
press_back (key.Key k) = refl
press_back (key.Gamepad d) = refl

metrics_back : (m : ViewMetrics) → metrics_of (metrics_memory m) ≡ m
metrics_back m = rw (visibility_back m.visibility)

view_back : (v : ViewRecord) → view_of (view_memory v) ≡ v
view_back v = rw (metrics_back v.metrics, optional_handle_back v.focus, optional_handle_back v.pointer_capture, optional_handle_back v.ime)

geometry_back : (g : SurfaceGeometry) → geometry_of (geometry_memory g) ≡ g
geometry_back g = rw (optional_rect_back g.bounds, optional_rect_back g.clip)

surface_back : (s : SurfaceRecord) → surface_of (surface_memory s) ≡ s
surface_back s = rw (surface_kind_back s.descriptor.kind, policy_back s.descriptor.input, geometry_back s.descriptor.geometry)

shortcut_back : (s : SlotShortcut) → shortcut_of (shortcut_memory s) ≡ s
shortcut_back s = rw (scope_back s.registration.scope)

trace_back : (t : CompositionTrace) → trace_of (trace_memory t) ≡ t
trace_back t = rw (event_back t.event, optional_handle_back t.consumed_by)

binding_back : (b : Binding) → binding_of (binding_memory b) ≡ b
binding_back b = rw (press_back b.key)

pub registry_back : (r : CompositionRegistry) → registry_of (registry_memory r) ≡ r
unfolding registry_memory registry_of
registry_back r =
    rw (each_back view_memory view_of view_back r.views.records, each_back surface_memory surface_of surface_back r.surfaces.records, each_back shortcut_memory shortcut_of shortcut_back r.shortcuts.items, each_back trace_memory trace_of trace_back r.traces.items)

pub router_back : (r : PlatformInputRouter) → router_of (router_memory r) ≡ r
unfolding router_memory router_of
router_back r = rw (each_back binding_memory binding_of binding_back r.bindings.table.items)
