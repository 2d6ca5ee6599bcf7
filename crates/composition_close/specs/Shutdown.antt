-- RULES.md, Shutdown: 21, 22 (a filled slot of generation 4,294,967,295), both before any change, after 42.
-- After them no close inside is refused (proved in `shutdown_steps`, where it is the Rust's fold of closes): each layer
-- is a live panel of its view (42), no live slot is at its last generation (22), and the revision has room for every
-- step (21); a view has no layer left and a window no view when its turn comes. So the work is the closing steps alone,
-- each what the accepted call does.
use Rattle.std.specs.Result.{result_and, result_unwrap_or}
use Rattle.std.specs.Prelude.{ℕ, ◌+◌, Bool, cond, not, ◌&&◌, List, [], ◌∷◌, reverse, ltb, Ok, Err}
use Rattle.lists.specs.Below.{iter_below}
use Rattle.lists.specs.Tables.{entries_of, packed, pushed}
use Rattle.lists.specs.Numbers.{max_u64}
use Rattle.handles.specs.Handles.{handle_of}
use Rattle.handles.specs.Slots.{slot_at, released, used_places, none_exhausted, handles_table, live_handles}
use Rattle.handles.specs.declared.GenerationalHandle.{GenerationalHandle}
use Rattle.handles.specs.declared.arena.Arena.{Arena}
use Rattle.records.specs.declared.error.CompositionError.TheVariants.{RevisionExhausted, GenerationExhausted}
use Rattle.composition_state.specs.declared.registry.CompositionRegistry.{CompositionRegistry}
use Rattle.composition_state.specs.Damage.{damage_refusal, view_handle}
use Rattle.records.specs.Errors.{refusal_if, Outcome}
use Rattle.records.specs.Layers.{layers}
use Rattle.composition_state.specs.Registry.{with_windows, with_views, advanced}
use Rattle.records.specs.Views.{view_at, view_slots, views_with}
use Rattle.composition_state.specs.declared.registry.Answered.{Answered}
use Rattle.composition_close.specs.declared.answer.CompositionShutdownReport.{CompositionShutdownReport}
use Rattle.composition_close.specs.declared.shutdown.Closing.{Closing}
use Rattle.composition_close.specs.Reports.{close_reports, no_shutdown}
use Rattle.composition_close.specs.Detach.{close_report}
use Rattle.composition_close.specs.Close.{closed_panel}

-- 21: the revision cannot rise once for each live panel, view and window
abbrev pub is_over : ℕ → ℕ → ℕ → ℕ → Bool
is_over revision surfaces views windows = ltb max_u64 (revision + surfaces + views + windows)

-- 22: a filled slot is at the last generation
abbrev pub is_any_exhausted : CompositionRegistry → Bool
is_any_exhausted r =
    not (none_exhausted r.windows && (none_exhausted r.views.arena && none_exhausted r.surfaces.arena))

abbrev pub shutdown_refusal : CompositionRegistry → Outcome
shutdown_refusal r =
    result_and (damage_refusal r)
    (result_and (refusal_if (is_over r.revision r.surfaces.arena.live r.views.arena.live r.windows.live)
    RevisionExhausted)
    (refusal_if (is_any_exhausted r) GenerationExhausted))

-- a changed registry, its revision raised
abbrev pub raised : CompositionRegistry → CompositionRegistry
raised r = (advanced r).registry

-- a panel's close, with its report and its own revision
unfoldable pub layer_closed : GenerationalHandle → Closing → Closing
layer_closed h w =
    let after = raised (closed_panel h w.registry) in
    record {
      registry = after;
      reports =
          pushed close_reports w.reports
          (close_report w.registry.surfaces w.registry.views h after.revision);
    }

-- panels, one after the other
unfoldable pub layers_closed : List GenerationalHandle → Closing → Closing
layers_closed [] w = w
layers_closed (h ∷ l) w = layers_closed l (layer_closed h w)

-- the view itself
unfoldable pub view_closed : GenerationalHandle → CompositionRegistry → CompositionRegistry
view_closed view r = raised (with_views (views_with (released r.views.arena view).arena r.views) r)

-- a view with its panels, which go from the top
unfoldable pub whole_view_closed : GenerationalHandle → Closing → Closing
whole_view_closed view w =
    let done = layers_closed (reverse (entries_of layers (view_at w.registry.views view).surfaces)) w in
    record { registry = view_closed view done.registry; reports = done.reports }

abbrev pub view_closed_at : ℕ → Closing → Closing
view_closed_at i w =
    cond (slot_at w.registry.views.arena i).filled (whole_view_closed (view_handle w.registry.views i) w) w

-- every live view in slot order
unfoldable pub views_closed : CompositionRegistry → Closing
views_closed r =
    iter_below view_closed_at (view_slots r.views) (record { registry = r; reports = packed close_reports [] })

-- a window, and every live window in slot order
unfoldable pub window_closed : GenerationalHandle → CompositionRegistry → CompositionRegistry
window_closed window r = raised (with_windows (released r.windows window).arena r)

abbrev pub window_handle : Arena → ℕ → GenerationalHandle
window_handle a i = handle_of i (slot_at a i).generation

abbrev pub window_closed_at : ℕ → CompositionRegistry → CompositionRegistry
window_closed_at i r = cond (slot_at r.windows i).filled (window_closed (window_handle r.windows i) r) r

unfoldable pub windows_closed : CompositionRegistry → CompositionRegistry
windows_closed r = iter_below window_closed_at (used_places r.windows) r

-- a shutdown answers its report; of a refused one it is blank
abbrev pub Shutdown : Type 0
Shutdown = Answered CompositionShutdownReport

abbrev pub shutdown_report : Shutdown → CompositionShutdownReport
shutdown_report x = result_unwrap_or x.outcome no_shutdown

-- the views first, then the windows; the report lists what was live
unfoldable pub shut_down : CompositionRegistry → Shutdown
shut_down r =
    let work = views_closed r in
    let after = windows_closed work.registry in
    record {
      outcome = Ok (record {
        closed_surfaces = work.reports;
        closed_views = packed handles_table (live_handles r.views.arena);
        closed_windows = packed handles_table (live_handles r.windows);
        final_revision = after.revision;
      });
      registry = after;
    }

abbrev pub shutdown_after : Outcome → CompositionRegistry → Shutdown
shutdown_after (Ok _) r = shut_down r
shutdown_after (Err e) r = record { outcome = Err e; registry = r }

-- a refused shutdown leaves the registry as it came
unfoldable pub shutdown_of : CompositionRegistry → Shutdown
shutdown_of r = shutdown_after (shutdown_refusal r) r
