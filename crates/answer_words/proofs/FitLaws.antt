-- All list of an answer of `step` keeps to its call's bound, call by call; so its words are at most 4,608.
use Rattle.input_events.specs.RouterErrors.{RouterOutcome}
use Rattle.records.specs.declared.view.ViewInputState.{ViewInputState}
use Rattle.geometry.specs.declared.metrics.ViewMetrics.{ViewMetrics}
use Rattle.handles.specs.declared.GenerationalHandle.{GenerationalHandle}
use Rattle.geometry.specs.declared.transform.Point.{Point}
use Rattle.std.specs.Prelude.{is_ok, Option, None, Some}
use Prim.Native.Nat.{ℕ, ◌+◌, ◌≤◌}
use mathlib.Core.Bool.{Bool, true, false, cond}
use mathlib.Core.List.{List, [], ◌++◌}
use mathlib.Core.Path.{◌≡◌, ◌∙◌}
use native.Mathlib.Omega.{arith}
use lib.ListN.{length, length-append, length-map}
use Rattle.lists.specs.Tables.{entries_of, packed}
use Rattle.maps.specs.Captures.{captures}
use Rattle.records.specs.Layers.{layers}
use Rattle.records.specs.Traces.{deliveries}
use Rattle.records.specs.Views.{view_at}
use Rattle.release_lists.specs.Captures.{capture_list}
use Rattle.release_lists.specs.Releases.{releases}
use Rattle.composition_panels.specs.Metrics.{update_view_metrics}
use Rattle.composition_input.specs.Focus.{suspend_view_input}
use Rattle.composition_hits.specs.HitTest.{view_hits}
use Rattle.composition_shortcuts.specs.Registrations.{Registrations}
use Rattle.composition_state.specs.declared.registry.CompositionRegistry.{CompositionRegistry}
use Rattle.input_releases.specs.Answers.{report_of, no_report}
use Rattle.input_releases.specs.declared.answer.RouteKind.{RouteKind}
use Rattle.input_releases.specs.declared.answer.RouteKind.TheVariants as kind
use Rattle.calls.specs.declared.call.Call.{Call}
use Rattle.calls.specs.declared.call.Call.TheVariants.{Panel, Input, ReleaseDevice, Shortcut, Arbitrate, Close, Router, Read}
use Rattle.calls.specs.declared.call.CloseCall.{CloseCall}
use Rattle.calls.specs.declared.call.CloseCall.TheVariants as close
use Rattle.calls.specs.declared.call.InputCall.{InputCall}
use Rattle.calls.specs.declared.call.InputCall.TheVariants as input
use Rattle.calls.specs.declared.call.Lists.{Lists}
use Rattle.calls.specs.declared.call.PanelCall.{PanelCall}
use Rattle.calls.specs.declared.call.PanelCall.TheVariants as panel
use Rattle.calls.specs.declared.call.RouterCall.{RouterCall}
use Rattle.calls.specs.declared.call.RouterCall.TheVariants as router
use Rattle.calls.specs.declared.call.ShortcutCall.{ShortcutCall}
use Rattle.calls.specs.declared.call.ShortcutCall.TheVariants as shortcut
use Rattle.calls.specs.declared.shown.Shown.{Shown}
use Rattle.calls.specs.declared.shown.Shown.TheVariants as shown
use Rattle.input_route.specs.Route.{routed}
use Rattle.registry_step.specs.Steps.{metrics_shown, state_shown, panel_step, input_step, shortcut_step}
use Rattle.read_step.specs.Reads.{read_step, shown_of}
use Rattle.std.specs.Result.{result_ok}
use Rattle.counter.specs.Answers.{nothing_listed, captures_listed, close_listed, shutdown_listed, arbitration_alone, releases_alone}
use Rattle.counter.specs.Step.{close_step, router_step, stepped}
use Rattle.counter.specs.declared.answer.Answer.{Answer}
use Rattle.counter.specs.declared.step.Counter.{Counter}
use Rattle.answer_numbers.specs.Groups.{handle_numbers, capture_numbers, local_numbers}
use Rattle.answer_numbers.specs.Numbers.{Number, dumped_number}
use Rattle.answer_numbers.specs.Views.{described_numbers}
use Rattle.answer_more.specs.More.{loss_numbers, event_more, accepted_more, more_of}
use Rattle.answer_more.specs.Shown.{shown_more}
use Rattle.answer_columns.specs.Named.{handle_for}
use Rattle.answer_words.specs.Answers.{answer_numbers, shown_numbers, answer_words}
use Rattle.answer_words.specs.Bounds.{Most, most, most_closing, most_routed, most_of, Bounded, most_words}
use Rattle.answer_words.specs.Claims.{step_words}
use Rattle.answer_words.specs.Lengths.{Lengths}
use Rattle.answer_words.proofs.EntryLaws.{list_fixed, packed_few}
use Rattle.answer_words.proofs.SizeLaws.{state_size, descriptor_size, described_size, traces_size, front_size}
use Rattle.answer_words.proofs.ListLaws.{layers_few, captures_few, released_few, arbitrated_few, hits_few}
use Rattle.answer_words.proofs.CloseLaws.{closed_size, shutdown_size}
use Rattle.answer_words.proofs.RouteLaws.{surface_few, all_few, routed_few}

-- ---- the words of an answer, from a bound for each list
words_few : (m : Most) (call : Call) (a : Answer) (k : Counter)
    → Bounded m call a k → length (answer_words call a k) ≤ most_words m
unfolding answer_words
words_few m call a k x =
    let own = answer_numbers k.registry.revision a (handle_for call a) in
    let more = shown_numbers (more_of call a k) in
    let all : length (answer_words call a k) ≡ length own + length more =
    length-map (own ++ more) dumped_number ∙ length-append own more in
    omega
    (arith, front_size k.registry.revision a (handle_for call a), x.delivered, x.released, x.captured, x.shown)

-- the bounds of every call come to at most 4,608 words
room : (c : Call) → most_words (most_of c) ≤ 4608
room (Panel c) = omega arith
room (Input c) = omega arith
room (ReleaseDevice c) = omega arith
room (Shortcut c) = omega arith
room (Arbitrate c) = omega arith
room (Close (close.CloseSurface s)) = omega arith
room (Close close.Shutdown) = omega arith
room (Router (router.Route e)) = omega arith
room (Router (router.ReleaseSurface h)) = omega arith
room (Router router.ReleaseAll) = omega arith
room (Read c) = omega arith

-- ---- a refused call shows nothing, and what is not listed is a list of none
shown_if_lem : (b : Bool) (o : Option (List Number)) (n : ℕ)
    → length (shown_numbers o) ≤ n → length (shown_numbers (cond b o None)) ≤ n
shown_if_lem true o n h = h
shown_if_lem false o n h = omega arith

more_few : (call : Call) (a : Answer) (k : Counter) (n : ℕ)
    → length (shown_numbers (accepted_more call a k)) ≤ n → length (shown_numbers (more_of call a k)) ≤ n
unfolding more_of
more_few call a k n h = shown_if_lem (is_ok a.outcome) (accepted_more call a k) n h

nothing_shown : length (shown_numbers None) ≤ 0
nothing_shown = omega arith

no_deliveries : length (entries_of deliveries no_report.arbitration.deliveries) ≤ 0
no_deliveries = packed_few deliveries [] 0 (omega arith)

no_releases : length (entries_of releases (packed releases [])) ≤ 0
no_releases = packed_few releases [] 0 (omega arith)

no_captures : length (entries_of capture_list (packed capture_list [])) ≤ 0
no_captures = packed_few capture_list [] 0 (omega arith)

-- ---- what calls show
-- how many numbers a value is that is shown with a registry
abbrev size_of : Shown → CompositionRegistry → ℕ
size_of s r = length (shown_numbers (shown_more s r))

metrics_few : (m : Option ViewMetrics) (after : CompositionRegistry) → size_of (metrics_shown m) after ≤ 13
metrics_few None after = omega arith
metrics_few (Some m) after = omega arith

panel_few : (r : CompositionRegistry) (c : PanelCall) (after : CompositionRegistry)
    → size_of (panel_step r c).shown after ≤ 13
unfolding panel_step
panel_few r panel.CreateWindow after = omega arith
panel_few r (panel.CloseWindow w) after = omega arith
panel_few r (panel.CreateView w) after = omega arith
panel_few r (panel.UpdateViewMetrics a) after =
    metrics_few (result_ok (update_view_metrics r a.view a.update a.revision).outcome) after
panel_few r (panel.CloseView v) after = omega arith
panel_few r (panel.AttachSurface d) after = omega arith
panel_few r (panel.UpdateSurfaceGeometry a) after = omega arith
panel_few r (panel.UpdateSurfaceInputPolicy a) after = omega arith

state_few : (s : Option ViewInputState) (after : CompositionRegistry) → size_of (state_shown s) after ≤ 9
state_few None after = omega arith
state_few (Some s) after = omega (arith, state_size s)

input_few : (r : CompositionRegistry) (c : InputCall) (after : CompositionRegistry)
    → size_of (input_step r c).shown after ≤ 9
unfolding input_step
input_few r (input.SetFocus a) after = omega arith
input_few r (input.CapturePointer a) after = omega arith
input_few r (input.CapturePointerFor a) after = omega arith
input_few r (input.ReleasePointer a) after = omega arith
input_few r (input.ReleasePointerFor a) after = omega arith
input_few r (input.BeginIme a) after = omega arith
input_few r (input.EndIme a) after = omega arith
input_few r (input.SuspendViewInput a) after =
    state_few (result_ok (suspend_view_input r a.handle a.revision).outcome) after

shortcut_few : (r : CompositionRegistry) (c : ShortcutCall) (l : Registrations) (after : CompositionRegistry)
    → size_of (shortcut_step r c l).shown after ≤ 0
unfolding shortcut_step
shortcut_few r (shortcut.RegisterSet a) l after = omega arith
shortcut_few r (shortcut.RegisterOne a) l after = omega arith
shortcut_few r (shortcut.SetMask a) l after = omega arith

loss_few : (s : Option ViewInputState) → length (loss_numbers s) ≤ 10
loss_few None = omega arith
loss_few (Some s) = omega (arith, state_size s)

event_few : (k : RouteKind) (s : Option ViewInputState) → length (shown_numbers (event_more k s)) ≤ 10
event_few kind.Nothing s = omega arith
event_few kind.Disconnected s = omega arith
event_few kind.Arbitrated s = omega arith
event_few kind.ViewReleased s = loss_few s

local_few : (p : Option Point) → length (local_numbers p) ≤ 3
local_few (Some p) = omega arith
local_few None = omega arith

module _ (k : Counter) (x : Lengths k) where
  shown_few : (s : Shown) → size_of s k.registry ≤ 3073
  shown_few shown.Nothing = omega arith
  shown_few (shown.Window w) = omega arith
  shown_few (shown.Metrics m) = omega arith
  shown_few (shown.InputState s) = omega (arith, state_size s)
  shown_few (shown.Captures v) =
      let l = entries_of captures (view_at k.registry.views v).pointer_captures in
      let few = captures_few k.registry.views x.views v in
      omega (arith, list_fixed capture_numbers 5 32 l few (λ e. omega arith))
  shown_few (shown.Descriptor d) = omega (arith, descriptor_size d)
  shown_few (shown.Layers v) =
      let l = entries_of layers (view_at k.registry.views v).surfaces in
      let few = layers_few k.registry.views x.views v in
      let surfaces = k.registry.surfaces in
      omega (arith, list_fixed (described_numbers surfaces) 26 16 l few (described_size surfaces))
  shown_few shown.Traces = traces_size k.registry.traces x.traces x.each_trace
  shown_few (shown.Counts c) = omega arith
  shown_few (shown.BindingCount n) = omega arith
  shown_few (shown.Hits a) =
      let l = view_hits k.registry a.view a.point in
      let few = hits_few k.registry x.views a.view a.point in
      omega (arith, list_fixed handle_numbers 2 16 l few (λ h. omega arith))
  shown_few (shown.Local p) = omega (arith, local_few p)

  -- ---- call by call
  close_bounded : (c : CloseCall) (l : Lists)
      → Bounded (most_closing c) (Close c) (stepped k (Close c) l).answer (stepped k (Close c) l).counter
  unfolding stepped close_step close_listed shutdown_listed
  close_bounded (close.CloseSurface s) l = record {
    delivered = no_deliveries;
    released = no_releases;
    captured = no_captures;
    shown = more_few (Close (close.CloseSurface s)) _ _ 7 (closed_size k.registry s);
  }
  close_bounded close.Shutdown l = record {
    delivered = no_deliveries;
    released = no_releases;
    captured = no_captures;
    shown = more_few (Close close.Shutdown) _ _ 2819 (shutdown_size k.registry);
  }

  router_bounded : (c : RouterCall) (l : Lists)
      → Bounded (most_routed c) (Router c) (stepped k (Router c) l).answer (stepped k (Router c) l).counter
  unfolding stepped router_step nothing_listed releases_alone
  router_bounded (router.Route e) l =
      let few = routed_few k.registry x.views k.router x.presses e in
      let report = (report_of (routed k.registry k.router e)) in
      record {
        delivered = few.delivered;
        released = few.listed;
        captured = no_captures;
        shown = more_few (Router (router.Route e)) _ _ 10 (event_few report.kind report.view_release);
      }
  router_bounded (router.ReleaseSurface s) l = record {
    delivered = no_deliveries;
    released = surface_few k.router x.presses s;
    captured = no_captures;
    shown = more_few (Router (router.ReleaseSurface s)) _ _ 0 nothing_shown;
  }
  router_bounded router.ReleaseAll l = record {
    delivered = no_deliveries;
    released = all_few k.router x.presses;
    captured = no_captures;
    shown = more_few (Router router.ReleaseAll) _ _ 0 nothing_shown;
  }

  -- an answer that lists nothing
  abbrev blank : RouterOutcome → Option GenerationalHandle → Shown → Answer
  blank o h s = record { outcome = o; handle = h; shown = s; report = no_report; listed = nothing_listed }

  quiet : (n : ℕ) (c : Call) (o : RouterOutcome) (h : Option GenerationalHandle) (s : Shown) (after : Counter)
      → length (shown_numbers (accepted_more c (blank o h s) after)) ≤ n
      → Bounded (most 0 0 0 n) c (blank o h s) after
  unfolding nothing_listed
  quiet n c o h s after few = record {
    delivered = no_deliveries;
    released = no_releases;
    captured = no_captures;
    shown = more_few c (blank o h s) after n few;
  }

  pub bounded : (c : Call) (l : Lists) → Bounded (most_of c) c (stepped k c l).answer (stepped k c l).counter
  unfolding stepped nothing_listed captures_listed arbitration_alone
  bounded (Panel c) l = quiet 13 (Panel c) _ _ _ _ (panel_few k.registry c _)
  bounded (Input c) l = quiet 9 (Input c) _ _ _ _ (input_few k.registry c _)
  bounded (ReleaseDevice a) l = record {
    delivered = no_deliveries;
    released = no_releases;
    captured = released_few k.registry x.views a.device a.device_generation;
    shown = more_few (ReleaseDevice a) _ _ 0 nothing_shown;
  }
  bounded (Shortcut c) l = quiet 0 (Shortcut c) _ _ _ _ (shortcut_few k.registry c l.registrations _)
  bounded (Arbitrate a) l = record {
    delivered = arbitrated_few k.registry x.views a.view a.event l.hits;
    released = no_releases;
    captured = no_captures;
    shown = more_few (Arbitrate a) _ _ 0 nothing_shown;
  }
  bounded (Close c) l = close_bounded c l
  bounded (Router c) l = router_bounded c l
  bounded (Read c) l =
      quiet 3073 (Read c) _ _ _ _ (shown_few (shown_of (read_step k.registry k.router c)))

  pub fits : (c : Call) (l : Lists) → length (step_words k c l) ≤ 4608
  fits c l =
      let s = stepped k c l in
      omega (arith, words_few (most_of c) c s.answer s.counter (bounded c l), room c)
