-- Each part holds by computing the history; the claim fails where the router holds, or lists, other presses than the book.
use Rattle.std.specs.Prelude.{Some}
use Prim.Native.Nat.{ℕ}
use mathlib.Core.Path.{◌≡◌, refl, sym, ap, ◌∙◌, subst}
use mathlib.Core.Bool.{true, false}
use mathlib.Core.Logic.{inl, inr}
use mathlib.Core.List.{List, [], ◌∷◌, ◌++◌}
use native.Mathlib.Omega.{arith}
use lib.Dec.{eqb}
use Rattle.lists.proofs.ListLaws.{clash}
use Rattle.handles.specs.declared.GenerationalHandle.{GenerationalHandle}
use Rattle.maps.specs.declared.bindings.Binding.{Binding}
use Rattle.calls.specs.declared.call.Call.TheVariants.{Router}
use Rattle.calls.specs.declared.call.RouterCall.TheVariants.{ReleaseSurface}
use Rattle.input_events.specs.declared.event.PlatformInputPayload.TheVariants.{DeviceDisconnected}
use Rattle.book.specs.Book.{Asked, empty_book, home_of, with_capture, without_captures, with_press, without_press, without_presses}
use Rattle.book.specs.Examples.{handle_at}
use Rattle.lists.specs.Below.{all_below, count_below, iter_below}
use Rattle.lists.specs.Tables.{entries_of, packed, pushed}
use Rattle.handles.specs.Slots.{empty_arena, lookup_of, has_room, allocated, released, none_exhausted, handles_below}
use Rattle.handles.specs.WellFormed.{counts_within, occurrences_of, well_formed}
use Rattle.geometry.specs.Metrics.{is_valid_metrics}
use Rattle.geometry.specs.Surface.{is_hit, is_valid_geometry}
use Rattle.geometry.specs.Transform.{solved}
use Rattle.records.specs.Layers.{layer_lt, records_of}
use Rattle.composition_state.specs.Damage.{arenas_sound, traces_sound, layers_sound, view_sound, views_sound, is_sound}
use Rattle.composition_state.specs.Registry.{advanced}
use Rattle.composition_state.specs.Start.{fresh_registry}
use Rattle.composition_panels.specs.Metrics.{update_view_metrics}
use Rattle.composition_panels.specs.Panels.{attached, attach_surface, update_surface_geometry, update_surface_input_policy}
use Rattle.composition_panels.specs.Windows.{create_window, is_window_in_use, close_window, create_view, close_view}
use Rattle.release_lists.specs.Releases.{by_panel, in_panel_order, add_captures}
use Rattle.composition_input.specs.Captures.{capture_pointer_for, release_pointer_for, release_pointer, device_captures, device_cleared, release_device_pointer_captures}
use Rattle.composition_input.specs.Focus.{set_focus, begin_ime, end_ime, suspend_view_input}
use Rattle.composition_shortcuts.specs.Candidates.{candidate_of, is_less}
use Rattle.composition_shortcuts.specs.Greatest.{greatest}
use Rattle.composition_shortcuts.specs.OwnView.{own_view_refusal}
use Rattle.composition_shortcuts.specs.Register.{register_surface_system_shortcut_set}
use Rattle.composition_shortcuts.specs.Resolve.{resolve_system_shortcut}
use Rattle.composition_shortcuts.specs.Scope.{shares_bit, counts}
use Rattle.composition_arbitration.specs.Arbitration.{own_hits, resolution_of, alone, walk_over, concluded, arbitrated}
use Rattle.composition_arbitration.specs.Decisions.{decision_with, decided_with, decided}
use Rattle.composition_arbitration.specs.Layers.{verdict_of, until_consumed, consumer_of, walk_of}
use Rattle.composition_arbitration.specs.Targets.{chosen, is_targeted}
use Rattle.composition_arbitration.specs.Trace.{traced}
use Rattle.composition_close.specs.Close.{detached, freed, close_settled, close_surface}
use Rattle.composition_close.specs.Detach.{had_capture, topmost, detached_view, close_report}
use Rattle.composition_close.specs.Shutdown.{layer_closed, layers_closed, view_closed, whole_view_closed, views_closed, window_closed, windows_closed, shut_down, shutdown_of}
use Rattle.composition_hits.specs.Buffer.{over, written}
use Rattle.composition_hits.specs.HitTest.{hits_among, view_hits, hit_numbers, hit_test, buffer_after}
use Rattle.input_events.specs.ArbitrationEvents.{arbitration_event_in, needs_hits, point_of, is_loss, is_disconnect}
use Rattle.input_events.specs.Checks.{payload_refusal, header_refusal_in, event_refusal}
use Rattle.input_events.specs.Presses.{press_in, effect_in, receiver_of}
use Rattle.input_router.specs.Damage.{is_router_sound}
use Rattle.input_router.specs.Releases.{release_surface, release_all}
use Rattle.input_router.specs.ViewReleases.{release_view}
use Rattle.input_releases.specs.Losses.{routed_disconnect, suspended_loss, routed_loss}
use Rattle.input_route.specs.Checks.{route_refusal}
use Rattle.input_route.specs.Route.{hits_for, routed_arbitration, routed_payload, routed}
use Rattle.registry_step.specs.Steps.{panel_step, input_step, shortcut_step}
use Rattle.read_step.specs.Reads.{read_step}
use Rattle.counter.specs.Answers.{nothing_listed, captures_listed, close_listed, shutdown_listed, arbitration_alone, releases_alone}
use Rattle.counter.specs.Step.{close_step, router_step, stepped}
use Rattle.book.specs.Notes.{payload_change, router_change, change, changed, noted_panel, noted_input, noted_close, registered, noted, note}
use Rattle.book.specs.Owed.{payload_concern, router_concern, concern, panel_put, panels_of, panel_by_panel, concerned_presses, concerned_captures, then_captures, owed_presses, owed_captures, owed, without_concerned}
use Rattle.history.specs.Histories.{Start, fresh, call, Entry, entry_of, after, history, book_after}
use Rattle.history.specs.Demand.{is_read, closed_in, ReleasedNext, CallPremises, NothingLost}
use Rattle.history.proofs.HistoryLaws.{entry_there}
use Rattle.history_examples.specs.Lists.{start_at, open_window, open_view, attach, capture, event, close, shutdown}
use Rattle.history_examples.specs.Claims.{is_shutdown, is_released_next, are_released, books, pay_sheet, last_generation, last_revision_calls, unreleased_calls}
use Rattle.history_examples.proofs.demand_3_examples.Goals as goal

-- ---- the premises of a call
premises : (e : Entry) (es : List Entry) → is_shutdown e.asked.call ≡ false → eqb e.told.number 21 ≡ false → eqb e.told.number 22 ≡ false → ReleasedNext (closed_in e) es → CallPremises e es
premises e es s a b n = record {
  no_shutdown_lem = λ q. clash (ap is_shutdown q) s;
  not_21 = λ q. clash (ap (λ k. eqb k 21) q) a;
  not_22 = λ q. clash (ap (λ k. eqb k 22) q) b;
  released_next = n;
}

-- a close, with a read before the panel's release
closing : (h : GenerationalHandle) (e g f : Entry) (es : List Entry) → is_read g.asked.call ≡ true → is_shutdown e.asked.call ≡ false → eqb e.told.number 21 ≡ false → eqb e.told.number 22 ≡ false
    → closed_in e ≡ Some h → f.asked.call ≡ Router (ReleaseSurface h) → CallPremises e (g ∷ f ∷ es)
closing h e g f es t s a b q n = premises e (g ∷ f ∷ es) s a b (subst (λ x. ReleasedNext x (g ∷ f ∷ es)) (sym q) (inl (t, inr (inl n))))

-- ---- how the claim fails
-- lists of different lengths
none_is_some : {A : Type 0} {x : A} {l : List A} → [] ≡ x ∷ l → ⊥
none_is_some q = let z : ◌≡◌ {A = ℕ} 0 1 = cc in omega arith

one_is_two : {A : Type 0} {x y z : A} → x ∷ [] ≡ y ∷ z ∷ [] → ⊥
one_is_two {A} {x} {y} {z} q = let r : ◌≡◌ {A = List A} [] (z ∷ []) = cc in none_is_some r

-- a call at the end lists nothing, and the book owes something
unlisted : (s : Start) (before : List Asked) (x : Asked) (y : Binding) (more : List Binding) → (entry_of x (call (after before (fresh s)) x).answer).listed ≡ []
    → owed x (entry_of x (call (after before (fresh s)) x).answer).told (book_after (history before (fresh s)) empty_book) ≡ y ∷ more → NothingLost s (before ++ (x ∷ [])) → ⊥
unlisted s before x y more q o lost =
    none_is_some (sym q ∙ lost.listed (history before (fresh s)) (entry_of x (call (after before (fresh s)) x).answer) (history [] (call (after before (fresh s)) x).counter) (entry_there before x [] (fresh s)) ∙ o)

pub returns : goal.returns
unfolding all_below count_below iter_below entries_of packed pushed empty_arena lookup_of has_room allocated released none_exhausted handles_below counts_within occurrences_of well_formed is_valid_metrics is_hit is_valid_geometry solved layer_lt records_of arenas_sound traces_sound layers_sound view_sound views_sound is_sound advanced fresh_registry update_view_metrics attached attach_surface update_surface_geometry update_surface_input_policy create_window is_window_in_use close_window create_view close_view by_panel in_panel_order add_captures capture_pointer_for release_pointer_for release_pointer device_captures device_cleared release_device_pointer_captures set_focus begin_ime end_ime suspend_view_input candidate_of is_less greatest own_view_refusal register_surface_system_shortcut_set resolve_system_shortcut shares_bit counts own_hits resolution_of alone walk_over concluded arbitrated decision_with decided_with decided verdict_of until_consumed consumer_of walk_of chosen is_targeted traced detached freed close_settled close_surface had_capture topmost detached_view close_report layer_closed layers_closed view_closed whole_view_closed views_closed window_closed windows_closed shut_down shutdown_of over written hits_among view_hits hit_numbers hit_test buffer_after arbitration_event_in needs_hits point_of is_loss is_disconnect payload_refusal header_refusal_in event_refusal press_in effect_in receiver_of is_router_sound release_surface release_all release_view routed_disconnect suspended_loss routed_loss route_refusal hits_for routed_arbitration routed_payload routed panel_step input_step shortcut_step read_step nothing_listed captures_listed close_listed shutdown_listed arbitration_alone releases_alone close_step router_step stepped home_of with_capture without_captures with_press without_press without_presses payload_change router_change change changed noted_panel noted_input noted_close registered noted note payload_concern router_concern concern panel_put panels_of panel_by_panel concerned_presses concerned_captures then_captures owed_presses owed_captures owed without_concerned after history book_after is_released_next are_released books
returns c =
    record {
      desk = record {
        accepts = record { registry = refl; router = refl };
        premises = (
          premises _ _ refl refl refl tt,
          (
            premises _ _ refl refl refl tt,
            (
              premises _ _ refl refl refl tt,
              (
                premises _ _ refl refl refl tt,
                (
                  premises _ _ refl refl refl tt,
                  (
                    premises _ _ refl refl refl tt,
                    (
                      premises _ _ refl refl refl tt,
                      (
                        premises _ _ refl refl refl tt,
                        (
                          premises _ _ refl refl refl tt,
                          (
                            premises _ _ refl refl refl tt,
                            (closing pay_sheet _ _ _ _ refl refl refl refl refl refl, (premises _ _ refl refl refl tt, (premises _ _ refl refl refl tt, (premises _ _ refl refl refl tt, tt)))),
                          ),
                        ),
                      ),
                    ),
                  ),
                ),
              ),
            ),
          ),
        );
        are_met = refl;
        answers = refl;
        releases = refl;
        presses = refl;
        captures = refl;
      };
      needed = record {
        shutdown_met = refl;
        shutdown_answers = refl;
        shutdown_fails = unlisted (start_at 5 1) (open_window ∷ open_view (handle_at 0 1) ∷ attach 1 0 ∷ capture (handle_at 0 1) 8 ∷ shutdown ∷ open_window ∷ open_view (handle_at 0 2) ∷ []) (event 2 1 DeviceDisconnected) _ _ refl refl;
        last_revision_met = refl;
        last_revision_answers = refl;
        last_revision_fails = λ lost. none_is_some (lost.held last_revision_calls [] refl);
        last_generation_met = refl;
        last_generation_answers = refl;
        last_generation_fails = unlisted (start_at 5 last_generation) (open_window ∷ open_view (handle_at 0 last_generation) ∷ attach last_generation 0 ∷ capture (handle_at 0 last_generation) 8 ∷ close (handle_at 0 last_generation) ∷ []) (event last_generation 1 DeviceDisconnected) _ _ refl refl;
        unreleased_met = refl;
        unreleased_answers = refl;
        unreleased_fails = λ lost. one_is_two (lost.held unreleased_calls [] refl);
      };
      others = record {
        disconnect_forgets = refl;
        all_forgets = refl;
        close_ends = (
          premises _ _ refl refl refl tt,
          (
            premises _ _ refl refl refl tt,
            (
              premises _ _ refl refl refl tt,
              (premises _ _ refl refl refl tt, (premises _ _ refl refl refl tt, tt)),
            ),
          ),
        );
      };
    }
