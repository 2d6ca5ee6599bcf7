-- The example holds by computing the calls that lead to its registry, and the steps.
use mathlib.Core.Path.{refl}
use Rattle.lists.specs.Below.{all_below, count_below, iter_below}
use Rattle.lists.specs.Tables.{entries_of, packed, pushed}
use Rattle.geometry.specs.Surface.{is_valid_geometry}
use Rattle.handles.specs.Slots.{empty_arena, lookup_of, has_room, allocated, released, none_exhausted, handles_below}
use Rattle.handles.specs.WellFormed.{counts_within, occurrences_of, well_formed}
use Rattle.records.specs.Layers.{layer_lt, records_of}
use Rattle.composition_state.specs.Damage.{arenas_sound, traces_sound, layers_sound, view_sound, views_sound, is_sound}
use Rattle.composition_state.specs.Registry.{advanced}
use Rattle.composition_state.specs.Start.{fresh_registry}
use Rattle.composition_panels.specs.Panels.{attached, attach_surface}
use Rattle.composition_panels.specs.Windows.{create_window, is_window_in_use, close_window, create_view, close_view}
use Rattle.composition_close.specs.Close.{detached, freed, close_settled, close_surface}
use Rattle.composition_close.specs.Detach.{had_capture, topmost, detached_view, close_report}
use Rattle.shutdown_steps.specs.Steps.{panel_step, panel_steps, view_found, view_left, view_step, view_steps, window_step, window_steps, views_done, shutdown_steps}
use Rattle.shutdown_steps.proofs.shutdown_example.Goals as goal

pub returns : goal.returns
unfolding all_below count_below iter_below entries_of packed pushed empty_arena lookup_of has_room allocated released none_exhausted handles_below counts_within occurrences_of well_formed is_valid_geometry layer_lt records_of arenas_sound traces_sound layers_sound view_sound views_sound is_sound advanced fresh_registry attached attach_surface create_window is_window_in_use close_window create_view close_view detached freed close_settled close_surface had_capture topmost detached_view close_report panel_step panel_steps view_found view_left view_step view_steps window_step window_steps views_done shutdown_steps
returns c =
    record {
      undamaged = record {
        whole = record {
          windows = record { slots = refl; free = refl };
          views = record { slots = refl; free = refl };
          surfaces = record { slots = refl; free = refl };
          view_records = refl;
          surface_records = refl;
        };
        sound = refl;
      };
      passes = refl;
      accepted = refl;
      panels = refl;
      revisions = refl;
      views = refl;
      windows = refl;
      last = refl;
    }
