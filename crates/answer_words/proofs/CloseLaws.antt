-- What a close and a shutdown show: a report has at most 10 numbers, an array has 256 of them, and 64 slots 64 handles.
use Rattle.records.specs.Errors.{Outcome}
use Rattle.std.specs.Prelude.{is_ok, Ok, Err}
use Prim.Native.Nat.{ℕ, zero, suc, ◌≤◌}
use mathlib.Core.Bool.{Bool, true, false, cond}
use mathlib.Core.List.{List, [], ◌∷◌, ◌++◌, reverse}
use mathlib.Core.Path.{◌≡◌, ◌∙◌}
use native.Mathlib.Omega.{arith}
use lib.ListN.{length, length-append, length-replicate, length-set}
use Rattle.lists.specs.Below.{iter_below}
use Rattle.lists.specs.Tables.{entries_of, packed, pushed}
use Rattle.lists.proofs.TableLaws as table
use Rattle.handles.specs.Slots.{slot_at, used_places, handles_at, handles_below, handles_table, live_handles}
use Rattle.handles.specs.declared.GenerationalHandle.{GenerationalHandle}
use Rattle.handles.specs.declared.arena.Arena.{Arena}
use Rattle.records.specs.Layers.{layers}
use Rattle.records.specs.Views.{view_at, view_slots, ViewTable}
use Rattle.records.specs.Surfaces.{SurfaceTable}
use Rattle.composition_state.specs.declared.registry.CompositionRegistry.{CompositionRegistry}
use Rattle.composition_state.specs.Damage.{view_handle}
use Rattle.composition_close.specs.Reports.{CloseReports, releases, release_list, no_report, close_reports, no_shutdown}
use Rattle.composition_close.specs.declared.answer.CompositionShutdownReport.{CompositionShutdownReport}
use Rattle.composition_close.specs.declared.answer.SurfaceCloseReport.{SurfaceCloseReport}
use Rattle.composition_close.specs.declared.shutdown.Closing.{Closing}
use Rattle.composition_close.specs.Close.{closed_report, close_refusal, close_settled, close_after, close_surface}
use Rattle.composition_close.specs.Detach.{had_ime, had_capture, had_focus, own_view, close_report}
use Rattle.composition_close.proofs.ShutdownLaws.{few_places}
use Rattle.composition_close.specs.Shutdown.{shutdown_report, layer_closed, layers_closed, whole_view_closed, view_closed_at, views_closed, shutdown_refusal, shut_down, shutdown_after, shutdown_of}
use Rattle.answer_numbers.specs.Groups.{handle_numbers, optional_numbers}
use Rattle.answer_numbers.specs.Lists.{handles_numbers}
use Rattle.answer_numbers.specs.Numbers.{plain, list_numbers}
use Rattle.answer_more.specs.Closing.{released_numbers, close_numbers, report_numbers, reports_numbers, shutdown_numbers}
use Rattle.answer_words.specs.Lengths.{All}
use Rattle.answer_words.proofs.EntryLaws.{all_take, all_set, all_same, all_more, list_few, list_fixed, packed_few, given_few, few_if, below_few}
use Rattle.answer_words.proofs.SizeLaws.{optional_size}

-- ---- a report
abbrev FewReleases : SurfaceCloseReport → Type 0
FewReleases x = length (entries_of releases x.releases) ≤ 3

blank_few : FewReleases no_report
blank_few = packed_few releases [] 3 (omega arith)

list_short : (ime capture focus : Bool) → length (release_list ime capture focus) ≤ 3
list_short true true true = omega arith
list_short true true false = omega arith
list_short true false true = omega arith
list_short true false false = omega arith
list_short false true true = omega arith
list_short false true false = omega arith
list_short false false true = omega arith
list_short false false false = omega arith

report_few : (surfaces : SurfaceTable) (views : ViewTable) (h : GenerationalHandle) (n : ℕ)
    → FewReleases (close_report surfaces views h n)
unfolding close_report
report_few surfaces views h n =
    let v = view_at views (own_view surfaces h) in
    packed_few releases _ 3 (list_short (had_ime v h) (had_capture v h) (had_focus v h))

close_size : (x : SurfaceCloseReport) → FewReleases x → length (close_numbers x) ≤ 7
close_size x h =
    let l = entries_of releases x.releases in
    let o = x.restored_focus in
    rw (length-append (list_numbers released_numbers l) (optional_numbers o), optional_size o)
    (omega (arith, list_fixed released_numbers 1 3 l h (λ e. omega arith)))

report_size : (x : SurfaceCloseReport) → FewReleases x → length (report_numbers x) ≤ 10
report_size x h = rw (length-append (close_numbers x) (plain x.revision ∷ [])) (omega (arith, close_size x h))

closed_few : (o : Outcome) (r : CompositionRegistry) (h : GenerationalHandle) → FewReleases (closed_report (close_after o r h))
closed_few (Ok _) r h =
    given_few FewReleases (close_settled r h).outcome _ no_report (report_few r.surfaces r.views h _) blank_few
closed_few (Err e) r h = blank_few

pub closed_size : (r : CompositionRegistry) (h : GenerationalHandle)
    → length (close_numbers (closed_report (close_surface r h))) ≤ 7
unfolding close_surface
closed_size r h = close_size (closed_report (close_surface r h)) (closed_few (close_refusal r h) r h)

-- ---- the reports of a shutdown
record Reported (t : CloseReports) : Type 0 where
  long : length t.items ≡ 256
  few : All FewReleases t.items

none_reported : Reported (packed close_reports [])
unfolding packed
none_reported = record { long = length-replicate 256 no_report; few = all_same FewReleases 256 no_report blank_few }

layer_reported : (h : GenerationalHandle) (w : Closing) → Reported w.reports → Reported (layer_closed h w).reports
unfolding layer_closed pushed
layer_reported h w x = record {
  long = length-set w.reports.items w.reports.len _ ∙ x.long;
  few =
      all_set FewReleases w.reports.items w.reports.len _ x.few
      (report_few w.registry.surfaces w.registry.views h _);
}

layers_reported : (l : List GenerationalHandle) (w : Closing)
    → Reported w.reports → Reported (layers_closed l w).reports
unfolding layers_closed
layers_reported [] w x = x
layers_reported (h ∷ l) w x = layers_reported l (layer_closed h w) (layer_reported h w x)

if_reported : (b : Bool) (x y : Closing)
    → Reported x.reports → Reported y.reports → Reported (cond b x y).reports
if_reported true x y h k = h
if_reported false x y h k = k

view_reported : (i : ℕ) (w : Closing) → Reported w.reports → Reported (view_closed_at i w).reports
unfolding whole_view_closed
view_reported i w x =
    let views = w.registry.views in
    let view = view_handle views i in
    if_reported (slot_at views.arena i).filled (whole_view_closed view w) w
    (layers_reported (reverse (entries_of layers (view_at views view).surfaces)) w x) x

views_reported : (n : ℕ) (w : Closing) → Reported w.reports → Reported (iter_below view_closed_at n w).reports
unfolding iter_below
views_reported zero w x = x
views_reported (suc n) w x = view_reported n (iter_below view_closed_at n w) (views_reported n w x)

reports_size : (t : CloseReports) → Reported t → length (reports_numbers t) ≤ 2561
unfolding entries_of
reports_size t x =
    let l = entries_of close_reports t in
    list_few report_numbers 10 256 l (table.few close_reports t x.long)
    (all_more FewReleases _ report_size l (all_take FewReleases t.len t.items x.few))

-- ---- the handles of a shutdown
handles_size : (l : List GenerationalHandle) → length l ≤ 64 → length (handles_numbers (packed handles_table l)) ≤ 129
handles_size l h =
    list_fixed handle_numbers 2 64 (entries_of handles_table (packed handles_table l))
    (packed_few handles_table l 64 h) (λ e. omega arith)

live_few : (a : Arena) → length (live_handles a) ≤ 64
unfolding handles_below
live_few a =
    let one : (i : ℕ) → length (handles_at a.slots i) ≤ 1 = λ i. few_if (slot_at a i).filled _ 1 (omega arith) in
    omega (arith, below_few (handles_at a.slots) 1 one (used_places a), few_places a)

-- ---- a shutdown
parts_size : (x : CompositionShutdownReport) → length (reports_numbers x.closed_surfaces) ≤ 2561
    → length (handles_numbers x.closed_views) ≤ 129 → length (handles_numbers x.closed_windows) ≤ 129
    → length (shutdown_numbers x) ≤ 2819
parts_size x a b c =
    let surfaces = reports_numbers x.closed_surfaces in
    let views = handles_numbers x.closed_views in
    let windows = handles_numbers x.closed_windows in
    rw (length-append surfaces (views ++ windows), length-append views windows) (omega arith)

down_size : (o : Outcome) (r : CompositionRegistry) → length (shutdown_numbers (shutdown_report (shutdown_after o r))) ≤ 2819
unfolding shut_down views_closed
down_size (Ok _) r =
    let start : Closing = record { registry = r; reports = packed close_reports [] } in
    parts_size (shutdown_report (shut_down r))
    (reports_size (views_closed r).reports (views_reported (view_slots r.views) start none_reported))
    (handles_size (live_handles r.views.arena) (live_few r.views.arena))
    (handles_size (live_handles r.windows) (live_few r.windows))
down_size (Err e) r =
    let none = handles_size [] (omega arith) in
    parts_size no_shutdown (reports_size (packed close_reports []) none_reported) none none

pub shutdown_size : (r : CompositionRegistry) → length (shutdown_numbers (shutdown_report (shutdown_of r))) ≤ 2819
unfolding shutdown_of
shutdown_size r = down_size (shutdown_refusal r) r
