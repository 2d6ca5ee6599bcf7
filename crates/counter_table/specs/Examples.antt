-- Registries that calls from a start lead to, in which the counter table's lines about registries can be seen.
use Rattle.std.specs.Prelude.{ℕ, false, [], ◌∷◌, ℤ, pos, replicate, None, Some}
use Rattle.lists.specs.Tables.{packed}
use Rattle.geometry.specs.Surface.{default_geometry}
use Rattle.handles.specs.declared.GenerationalHandle.{GenerationalHandle}
use Rattle.maps.specs.declared.keys.CompositionPointerId.{CompositionPointerId}
use Rattle.records.specs.declared.surface.SurfaceDescriptor.{SurfaceDescriptor}
use Rattle.records.specs.declared.surface.SurfaceInputPolicy.{SurfaceInputPolicy}
use Rattle.records.specs.declared.surface.SurfaceInputPolicy.TheVariants.{Observe, Interactive}
use Rattle.records.specs.declared.surface.SurfaceKind.TheVariants.{Ui}
use Rattle.composition_state.specs.declared.registry.CompositionRegistry.{CompositionRegistry}
use Rattle.composition_state.specs.Start.{started}
use Rattle.composition_panels.specs.Panels.{attach_surface}
use Rattle.composition_panels.specs.Windows.{create_window, create_view}
use Rattle.composition_input.specs.Captures.{primary, capture_pointer_for}
use Rattle.composition_shortcuts.specs.Registrations.{Registrations}
use Rattle.composition_shortcuts.specs.Register.{registrations}
use Rattle.input_events.specs.declared.event.CompositionPhase.TheVariants as phase
use Rattle.input_events.specs.declared.event.InputDeviceKind.TheVariants.{Pen}
use Rattle.input_events.specs.declared.event.PlatformInputEvent.{PlatformInputEvent}
use Rattle.input_events.specs.declared.event.PlatformInputPayload.{PlatformInputPayload}
use Rattle.input_events.specs.declared.event.PlatformInputPayload.TheVariants.{Pointer, Composition}
use Rattle.input_events.specs.declared.event.PointerPhase.TheVariants.{Down}
use Rattle.input_router.specs.declared.router.PlatformInputRouter.{PlatformInputRouter}
use Rattle.input_router.specs.Router as router
use Rattle.book.specs.Examples.{handle_at, device_at, pointer_at}

-- a start at revision 5 with room for one window, one view and two panels
abbrev pub fresh : CompositionRegistry
fresh =
    (started (handle_at 0 1) 1
    (record
    { max_windows = 1; max_views = 1; max_surfaces = 2; max_surfaces_per_view = 2; max_trace_entries = 1 })
    5 1).registry

-- its first window and view
abbrev pub opened : CompositionRegistry
opened = (create_view (create_window fresh).registry (handle_at 0 1)).registry

-- a panel of that view
abbrev pub panel : SurfaceInputPolicy → SurfaceDescriptor
panel policy = record {
  view = handle_at 0 1;
  kind = Ui;
  z_order = pos 0;
  input = policy;
  accepts_text = false;
  geometry = default_geometry;
}

-- the first panel
abbrev pub panel_a : GenerationalHandle
panel_a = handle_at 0 1

-- the second panel, where there is one
abbrev pub panel_b : GenerationalHandle
panel_b = handle_at 1 1

-- an Observe panel
abbrev pub watched : CompositionRegistry
watched = (attach_surface opened (panel Observe)).registry

-- a list of 65 registrations, which is more than its places
abbrev pub sixty_five : Registrations
sixty_five = record { items = replicate 64 registrations.blank; len = 65 }

-- a list of one registration
abbrev pub one_listed : Registrations
one_listed = packed registrations (registrations.blank ∷ [])

-- contact 9 of a device
abbrev pub contact_nine : CompositionPointerId
contact_nine = pointer_at 7 1 9

-- two panels of that view, A and B
abbrev pub paired : CompositionRegistry
paired = (attach_surface (attach_surface opened (panel Interactive)).registry (panel Interactive)).registry

-- A holds contact 9 and B holds PRIMARY
abbrev pub held : CompositionRegistry
held = (capture_pointer_for (capture_pointer_for paired contact_nine panel_a 9).registry primary panel_b 10).registry

-- a view that was never created
abbrev pub unknown_view : GenerationalHandle
unknown_view = handle_at 3 1

-- ---- the first event of a device, in the view of those panels
-- a router just started, with room for two presses
abbrev pub new_router : PlatformInputRouter
new_router = (router.started 2).router

-- an event of device 7.1 with a good header
abbrev pub event : PlatformInputPayload → PlatformInputEvent
event x = record {
  header = record {
    sequence = 1;
    timestamp_micros = 10;
    metrics_revision = 1;
    window = handle_at 0 1;
    view = handle_at 0 1;
    device = device_at 7 1;
    device_kind = Pen;
    modifiers =
        record { shift = false; control = false; alt = false; meta = false; caps_lock = false; num_lock = false };
  };
  payload = x;
}

-- contact 9 goes down with a pressure and tilts
abbrev pub pressed : ℕ → ℤ → ℤ → PlatformInputEvent
pressed pressure x y = event (Pointer (record {
  contact = 9;
  phase = Down;
  x_milli = pos 0;
  y_milli = pos 0;
  delta_x_milli = pos 0;
  delta_y_milli = pos 0;
  pressure_q15 = pressure;
  tilt_x_degrees = x;
  tilt_y_degrees = y;
  buttons = 0;
  changed_button = None;
}))

-- a composition of 3 bytes with a selection
abbrev pub selected : ℕ → ℕ → PlatformInputEvent
selected from to =
    event (Composition (record { phase = phase.Update; length = 3; selection_start = from; selection_end = to }))
