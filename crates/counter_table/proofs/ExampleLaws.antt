-- Each example by computing the calls that lead to its registry, and the lines about registries in general applied to it.
use mathlib.Core.Path.{refl}
use native.Mathlib.Omega.{arith}
use Rattle.lists.specs.Below.{all_below, count_below, iter_below}
use Rattle.lists.specs.Tables.{entries_of, packed, pushed}
use Rattle.handles.specs.Slots.{empty_arena, lookup_of, has_room, allocated, released}
use Rattle.handles.specs.WellFormed.{counts_within, occurrences_of, well_formed}
use Rattle.geometry.specs.Surface.{is_hit, is_valid_geometry}
use Rattle.geometry.specs.Transform.{solved}
use Rattle.records.specs.Layers.{layer_lt, records_of}
use Rattle.composition_state.specs.Damage.{arenas_sound, traces_sound, layers_sound, view_sound, views_sound, is_sound}
use Rattle.composition_state.specs.Registry.{advanced}
use Rattle.composition_state.specs.Start.{fresh_registry}
use Rattle.composition_panels.specs.Panels.{attached, attach_surface}
use Rattle.composition_panels.specs.Windows.{create_window, create_view}
use Rattle.composition_input.specs.Captures.{capture_pointer_for}
use Rattle.composition_input.specs.Focus.{set_focus}
use Rattle.composition_shortcuts.specs.Claims.{Observing}
use Rattle.composition_shortcuts.specs.OwnView.{own_view_refusal}
use Rattle.composition_arbitration.specs.Arbitration.{own_hits, resolution_of, alone, walk_over, concluded, arbitrated}
use Rattle.composition_arbitration.specs.Decisions.{decision_with, decided_with, decided}
use Rattle.composition_arbitration.specs.Layers.{verdict_of, until_consumed, consumer_of, walk_of}
use Rattle.composition_arbitration.specs.Targets.{chosen, is_targeted}
use Rattle.composition_arbitration.specs.Trace.{traced}
use Rattle.composition_close.specs.Close.{detached, freed, close_settled, close_surface}
use Rattle.composition_close.specs.Detach.{had_capture, topmost, detached_view}
use Rattle.composition_hits.specs.HitTest.{hits_among, view_hits}
use Rattle.composition_soundness.specs.Claims.{Undamaged}
use Rattle.input_events.specs.ArbitrationEvents.{arbitration_event_in, needs_hits, point_of, is_loss, is_disconnect}
use Rattle.input_events.specs.Checks.{payload_refusal, header_refusal_in, event_refusal}
use Rattle.input_events.specs.Presses.{press_in, effect_in, receiver_of}
use Rattle.input_router.specs.Damage.{is_router_sound}
use Rattle.input_route.specs.Checks.{route_refusal}
use Rattle.input_route.specs.Route.{hits_for, routed_arbitration, routed_payload, routed}
use Rattle.counter_table.specs.Examples.{panel_a, watched, sixty_five, held}
use Rattle.counter_table.specs.Table.{CounterExamples}
use Rattle.counter_table.proofs.TableLaws.{table}

watching : Observing watched panel_a
unfolding all_below count_below iter_below entries_of packed pushed empty_arena lookup_of has_room allocated counts_within occurrences_of well_formed is_valid_geometry layer_lt records_of arenas_sound traces_sound layers_sound view_sound views_sound is_sound advanced fresh_registry attached attach_surface create_window create_view
watching = record { sound = refl; live = refl; observe = refl }

holding : Undamaged held
unfolding all_below count_below iter_below entries_of packed pushed empty_arena lookup_of has_room allocated counts_within occurrences_of well_formed is_valid_geometry layer_lt records_of arenas_sound traces_sound layers_sound view_sound views_sound is_sound advanced fresh_registry attached attach_surface create_window create_view capture_pointer_for own_view_refusal
holding = record {
  whole = record {
    windows = record { slots = refl; free = refl };
    views = record { slots = refl; free = refl };
    surfaces = record { slots = refl; free = refl };
    view_records = refl;
    surface_records = refl;
  };
  sound = refl;
}

pub examples : CounterExamples
unfolding all_below count_below iter_below entries_of packed pushed empty_arena lookup_of has_room allocated released counts_within occurrences_of well_formed is_hit is_valid_geometry solved layer_lt records_of arenas_sound traces_sound layers_sound view_sound views_sound is_sound advanced fresh_registry attached attach_surface create_window create_view capture_pointer_for set_focus own_view_refusal own_hits resolution_of alone walk_over concluded arbitrated decision_with decided_with decided verdict_of until_consumed consumer_of walk_of chosen is_targeted traced detached freed close_settled close_surface had_capture topmost detached_view hits_among view_hits arbitration_event_in needs_hits point_of is_loss is_disconnect payload_refusal header_refusal_in event_refusal press_in effect_in receiver_of is_router_sound route_refusal hits_for routed_arbitration routed_payload routed lib.Ieee.lt lib.Ieee.sub lib.Ieee.mul lib.Ieee.div lib.Ieee.of_int
examples = record {
  observing = watching;
  observe_many = (table.observe_panel watched panel_a watching).0 sixty_five refl;
  observe_one = (table.observe_panel watched panel_a watching).1 _;
  observe_none = (table.observe_panel watched panel_a watching).2 (λ q. omega arith);
  sound = refl;
  live = refl;
  own_view = refl;
  unknown = refl;
  wrong_view = refl;
  undamaged = holding;
  closes = refl;
  a_holds = refl;
  b_holds = refl;
  field_holds = refl;
  field_empties = refl;
  b_remains = refl;
  arrives = record { registry = refl; router = refl; device = refl; header = refl };
  fits = record { room = refl; order = refl };
  pressures = (refl, refl);
  tilts_x = (refl, refl);
  tilts_y = (refl, refl);
  selections = (refl, refl, refl);
}
