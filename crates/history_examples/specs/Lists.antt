-- Lists of calls at a counter with one window and one view, whose panels are Exclusive and so take every event.
use Rattle.std.specs.Prelude.{ℕ, Bool, false, [], pos}
use Rattle.lists.specs.Tables.{packed}
use Rattle.handles.specs.declared.GenerationalHandle.{GenerationalHandle}
use Rattle.geometry.specs.Surface.{default_geometry}
use Rattle.records.specs.declared.surface.SurfaceInputPolicy.TheVariants.{Exclusive}
use Rattle.records.specs.declared.surface.SurfaceKind.TheVariants.{Ui}
use Rattle.records.specs.Traces.{hits}
use Rattle.composition_shortcuts.specs.Register.{registrations}
use Rattle.input_events.specs.declared.event.GamepadMapping.TheVariants.{Standard}
use Rattle.input_events.specs.declared.event.InputDeviceKind.TheVariants.{Keyboard}
use Rattle.input_events.specs.declared.event.KeyPhase.TheVariants.{Down}
use Rattle.input_events.specs.declared.event.PlatformInputPayload.{PlatformInputPayload}
use Rattle.input_events.specs.declared.event.PlatformInputPayload.TheVariants as payload
use Rattle.calls.specs.declared.call.Call.{Call}
use Rattle.calls.specs.declared.call.Call.TheVariants.{Panel, Input, Close, Router, Read}
use Rattle.calls.specs.declared.call.CloseCall.TheVariants.{CloseSurface, Shutdown}
use Rattle.calls.specs.declared.call.InputCall.TheVariants.{CapturePointerFor}
use Rattle.calls.specs.declared.call.PanelCall.TheVariants.{CreateWindow, CreateView, AttachSurface}
use Rattle.calls.specs.declared.call.ReadCall.TheVariants.{ActiveBindingCount}
use Rattle.calls.specs.declared.call.RouterCall.TheVariants.{Route, ReleaseSurface, ReleaseAll}
use Rattle.book.specs.Book.{Asked}
use Rattle.book.specs.Examples.{handle_at, device_at, pointer_at}
use Rattle.history.specs.Histories.{Start}

-- a start with room for one window, one view, two panels and two presses
abbrev pub start_at : ℕ → ℕ → Start
start_at revision generation = record {
  session = handle_at 0 1;
  epoch = 1;
  limits =
      record
      { max_windows = 1; max_views = 1; max_surfaces = 2; max_surfaces_per_view = 2; max_trace_entries = 1 };
  revision = revision;
  generation = generation;
  bindings = 2;
}

-- ---- calls, with no lists beside them
abbrev pub ask : Call → Asked
ask c = record { call = c; lists = record { hits = packed hits []; registrations = packed registrations [] } }

abbrev pub open_window : Asked
open_window = ask (Panel CreateWindow)

abbrev pub open_view : GenerationalHandle → Asked
open_view window = ask (Panel (CreateView window))

-- a panel of the view 0 with a generation
abbrev pub attach : ℕ → ℕ → Asked
attach generation z =
    ask (Panel (AttachSurface (record {
      view =
          handle_at 0 generation;
      kind = Ui;
      z_order = pos z;
      input = Exclusive;
      accepts_text = false;
      geometry =
          default_geometry;
    })))

-- contact 9 of device 7.1
abbrev pub capture : GenerationalHandle → ℕ → Asked
capture panel revision =
    ask (Input (CapturePointerFor (record { pointer = pointer_at 7 1 9; surface = panel; revision = revision })))

-- an event of device 7.1 at a time, in window and view 0 with a generation, and its sequence number
abbrev pub event_at : ℕ → ℕ → ℕ → PlatformInputPayload → Asked
event_at time generation n x = ask (Router (Route (record {
  header = record {
    sequence = n;
    timestamp_micros = time;
    metrics_revision = 1;
    window = handle_at 0 generation;
    view = handle_at 0 generation;
    device = device_at 7 1;
    device_kind = Keyboard;
    modifiers =
        record { shift = false; control = false; alt = false; meta = false; caps_lock = false; num_lock = false };
  };
  payload = x;
})))

abbrev pub event : ℕ → ℕ → PlatformInputPayload → Asked
event generation n x = event_at 10 generation n x

abbrev pub key_down : PlatformInputPayload
key_down = payload.Key (record { phase = Down; physical_key = 30; repeat = false })

abbrev pub snapshot : Bool → PlatformInputPayload
snapshot connected = payload.GamepadSnapshot (record { connected = connected; mapping = Standard })

abbrev pub focus_lost : PlatformInputPayload
focus_lost = payload.FocusChanged false

abbrev pub close : GenerationalHandle → Asked
close panel = ask (Close (CloseSurface panel))

abbrev pub shutdown : Asked
shutdown = ask (Close Shutdown)

abbrev pub release : GenerationalHandle → Asked
release panel = ask (Router (ReleaseSurface panel))

abbrev pub release_all : Asked
release_all = ask (Router ReleaseAll)

abbrev pub count : Asked
count = ask (Read ActiveBindingCount)
