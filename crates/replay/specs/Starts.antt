-- The replay format, State: "An accepted `new`, `new_at` or `router` replaces its own of the two and leaves the other;
-- a refused one leaves both."
use Rattle.std.specs.Prelude.{ℕ, Result, Ok, Err}
use Rattle.handles.specs.Handles.{handle_of}
use Rattle.records.specs.Errors.{number_of}
use Rattle.composition_state.specs.Start.{started}
use Rattle.input_events.specs.RouterErrors.{router_number_of}
use Rattle.input_router.specs.Router.{started as router_started}
use Rattle.counter.specs.declared.step.Counter.{Counter}
use Rattle.script_calls.specs.declared.script_call.Start.{Start}
use Rattle.replay.specs.declared.starts.Started.{Started}

abbrev pub kept_by : {S E : Type 0} → Result (Unit {0}) E → S → S → S
kept_by (Ok _) old new = new
kept_by (Err e) old new = old

unfoldable pub started_registry : Counter → Start → Started
started_registry c s =
    let x = started s.session s.session_epoch s.limits s.first_revision s.first_generation in
    record {
      number = number_of x.outcome;
      counter = record { registry = kept_by x.outcome c.registry x.registry; router = c.router };
    }

unfoldable pub started_router : Counter → ℕ → Started
started_router c limit =
    let x = router_started limit in
    record {
      number = router_number_of x.outcome;
      counter = record { registry = c.registry; router = kept_by x.outcome c.router x.router };
    }

-- "Before the first `new` and `router` lines they are `new 0 1 1 8 16 64 16 32` and `router 128`."
unfoldable pub first_counter : Counter
first_counter = record {
  registry =
      (started (handle_of 0 1) 1
      (record {
        max_windows = 8;
        max_views = 16;
        max_surfaces = 64;
        max_surfaces_per_view = 16;
        max_trace_entries = 32;
      }) 0 1).registry;
  router = (router_started 128).router;
}
