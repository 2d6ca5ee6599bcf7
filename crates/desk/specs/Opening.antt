-- RULES.md, Desk: the counter at its start, and the window, the view and the three panels that are set up.
use Rattle.std.specs.Prelude.{ℕ, false, [], ℤ, pos, Option, None, Some}
use Rattle.lists.specs.Tables.{packed}
use Rattle.handles.specs.Handles.{handle_of, invalid_handle}
use Rattle.handles.specs.declared.GenerationalHandle.{GenerationalHandle}
use Rattle.geometry.specs.Surface.{default_geometry}
use Rattle.composition_state.specs.declared.registry.CompositionLimits.{CompositionLimits}
use Rattle.records.specs.declared.surface.SurfaceInputPolicy.{SurfaceInputPolicy}
use Rattle.records.specs.declared.surface.SurfaceInputPolicy.TheVariants.{Observe, Interactive, Exclusive}
use Rattle.records.specs.declared.surface.SurfaceKind.TheVariants.{Ui}
use Rattle.composition_state.specs.Start.{started}
use Rattle.records.specs.Traces.{hits}
use Rattle.composition_shortcuts.specs.Register.{registrations}
use Rattle.input_router.specs.Router.{started as router_started}
use Rattle.calls.specs.declared.call.Call.TheVariants.{Panel, Read}
use Rattle.calls.specs.declared.call.Lists.{Lists}
use Rattle.calls.specs.declared.call.PanelCall.{PanelCall}
use Rattle.calls.specs.declared.call.PanelCall.TheVariants.{CreateWindow, CreateView, AttachSurface}
use Rattle.calls.specs.declared.call.ReadCall.TheVariants.{ViewMetrics}
use Rattle.calls.specs.declared.shown.Shown.{Shown}
use Rattle.calls.specs.declared.shown.Shown.TheVariants as shown
use Rattle.counter.specs.declared.step.Counter.{Counter}
use Rattle.counter.specs.Step.{stepped}
use Rattle.desk.specs.declared.opening.Created.{Created}
use Rattle.desk.specs.declared.opening.Opened.{Opened}
use Rattle.desk.specs.declared.opening.Viewed.{Viewed}

-- no hits and no registrations
unfoldable pub no_lists : Lists
no_lists = record { hits = packed hits []; registrations = packed registrations [] }

-- RULES.md, Port limits
abbrev pub port_limits : CompositionLimits
port_limits =
    record {
      max_windows = 8;
      max_views = 16;
      max_surfaces = 64;
      max_surfaces_per_view = 16;
      max_trace_entries = 32;
    }

-- session 0.1 of epoch 1, at the port's limits, and a router of 128 presses
unfoldable pub start_counter : Counter
start_counter =
    record { registry = (started (handle_of 0 1) 1 port_limits 0 1).registry; router = (router_started 128).router }

-- a refused call has made nothing
abbrev pub handle_from : Option GenerationalHandle → GenerationalHandle
handle_from None = invalid_handle
handle_from (Some h) = h

-- what a call makes, and the counter after it
unfoldable pub created_by : Counter → PanelCall → Created
created_by c call =
    let s = stepped c (Panel call) no_lists in
    record { handle = handle_from s.answer.handle; counter = s.counter }

-- a panel with no bounds, the identity matrix and hit testing on
unfoldable pub attached : Counter → GenerationalHandle → ℤ → SurfaceInputPolicy → Created
attached c view z input =
    created_by c (AttachSurface
    (record {
      view = view;
      kind = Ui;
      z_order = z;
      input = input;
      accepts_text = false;
      geometry = default_geometry;
    }))

-- the revision of the metrics that a read shows
unfoldable pub revision_shown : Shown → ℕ
revision_shown (shown.Metrics m) = m.revision
revision_shown shown.Nothing = 0
revision_shown (shown.Window h) = 0
revision_shown (shown.InputState s) = 0
revision_shown (shown.Captures h) = 0
revision_shown (shown.Descriptor d) = 0
revision_shown (shown.Layers h) = 0
revision_shown shown.Traces = 0
revision_shown (shown.Counts n) = 0
revision_shown (shown.BindingCount n) = 0
revision_shown (shown.Hits a) = 0
revision_shown (shown.Local p) = 0

unfoldable pub metrics_revision : Counter → GenerationalHandle → ℕ
metrics_revision c view = revision_shown (stepped c (Read (ViewMetrics view)) no_lists).answer.shown

-- one window, one view
unfoldable pub view_opened : Counter → Viewed
view_opened c =
    let window = created_by c CreateWindow in
    let view = created_by window.counter (CreateView window.handle) in
    record { window = window.handle; view = view.handle; counter = view.counter }

-- seat map Interactive z 0, hold bar Observe z 1, pay sheet Exclusive z 2
unfoldable pub panels_opened : Viewed → Opened
panels_opened v =
    let seat_map = attached v.counter v.view (pos 0) Interactive in
    let hold_bar = attached seat_map.counter v.view (pos 1) Observe in
    let pay_sheet = attached hold_bar.counter v.view (pos 2) Exclusive in
    record {
      places =
          record {
            window = v.window;
            view = v.view;
            metrics_revision = metrics_revision pay_sheet.counter v.view;
            pay_sheet = pay_sheet.handle;
          };
      counter = pay_sheet.counter;
    }

unfoldable pub opened : Opened
opened = panels_opened (view_opened start_counter)
