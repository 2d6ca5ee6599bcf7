-- A view's panels go one by one: the list that is left is always the view's layers, so each is live and of the view at its turn. By induction on the list.
use Rattle.std.specs.Prelude.{Ok}
use Rattle.records.specs.Errors.{Outcome}
use Prim.Native.Nat.{◌+◌, ◌≤◌}
use mathlib.Core.Path.{◌≡◌, refl, sym, ap, ◌∙◌, subst}
use mathlib.Core.Bool.{Bool, true, not}
use mathlib.Core.List.{List, [], ◌∷◌, ◌++◌, reverse, reverse-cons}
use native.Mathlib.Omega.{arith}
use lib.ListN.{length, length-append}
use Rattle.lists.specs.Lists.{keep, all}
use Rattle.lists.specs.Maps.{rising}
use Rattle.lists.specs.Orders.{Ordered}
use Rattle.lists.specs.Tables.{entries_of, packed, pushed}
use Rattle.lists.proofs.ListLaws.{by_test, clash, and_left, and_right, all_append}
use Rattle.lists.proofs.RisingLaws.{Over, Sorted, rising_sorted}
use Rattle.lists.proofs.TableLaws.{entries_packed, push_packed}
use Rattle.handles.specs.Handles.{same_handle}
use Rattle.handles.specs.Slots.{lookup_of}
use Rattle.handles.specs.declared.arena.Arena.{Arena}
use Rattle.handles.specs.declared.arena.SlotStatus.TheVariants.{Live}
use Rattle.handles.specs.declared.GenerationalHandle.{GenerationalHandle}
use Rattle.handles.proofs.HandleLaws.{handles}
use Rattle.records.specs.Layers.{layers, itself, layer_lt, is_layer_of}
use Rattle.records.specs.Views.{view_at}
use Rattle.records.proofs.LayerLaws as layer
use Rattle.composition_state.specs.declared.registry.CompositionRegistry.{CompositionRegistry}
use Rattle.composition_close.specs.Reports.{CloseReports, close_reports}
use Rattle.composition_close.specs.Close.{SurfaceClosed}
use Rattle.composition_close.specs.declared.answer.SurfaceCloseReport.{SurfaceCloseReport}
use Rattle.composition_close.specs.declared.shutdown.Closing.{Closing}
use Rattle.composition_close.specs.Close.{close_surface}
use Rattle.composition_close.specs.Detach.{close_report}
use Rattle.composition_close.specs.Shutdown.{layer_closed, layers_closed}
use Rattle.composition_soundness.proofs.ChangeLaws.{view_of_lem}
use Rattle.shutdown_steps.specs.Steps.{Way, unless_refused, panel_taken, panel_step, panel_steps}
use Rattle.shutdown_steps.proofs.ReadyLaws.{Ready, panel_next, panel_closes, panel_raised, panel_windows, panel_slots, panel_fewer, panel_ready, panel_out_lem}

-- ---- the last of a rising list is taken out, and all else stays
module _ (lt same : GenerationalHandle → GenerationalHandle → Bool) (o : Ordered lt same) (h : GenerationalHandle) where
  over_last : (k : GenerationalHandle) (a : List GenerationalHandle) → Over itself lt k (a ++ (h ∷ [])) → lt k h ≡ true
  over_last k [] v = v.0
  over_last k (x ∷ a) v = over_last k a v.1

  keep_last : (a : List GenerationalHandle) → Sorted itself lt (a ++ (h ∷ [])) → keep (λ at. not (same_handle h at)) (a ++ (h ∷ [])) ≡ a
  keep_last [] s = rw (handles.same_refl h)
  keep_last (x ∷ a) s = by_test (same_handle h x)
      (λ t. clash (ap (λ (y : GenerationalHandle). lt y h) (handles.same_eq h x t) ∙ over_last x a s.0) (o.irrefl h))
      (λ t. simp (t, keep_last a s.1))

-- ---- the steps, beside the definition in use
abbrev pub closing : Way → Closing
closing w = record { registry = w.registry; reports = packed close_reports w.reports }

pub record Going (w : Way) : Type 0 where
  pub accepted : w.outcome ≡ Ok tt
  pub ready : Ready w.registry
  -- the reports and the panels that are left
  pub few : length w.reports + w.registry.surfaces.arena.live ≤ 64

-- ---- one panel
module _ (w : Way) (g : Going w) (view h : GenerationalHandle) (stands : lookup_of w.registry.views.arena view ≡ Live) (top : is_layer_of w.registry.surfaces view h ≡ true) where
  abbrev report : SurfaceCloseReport
  report = close_report w.registry.surfaces w.registry.views h (panel_next h w.registry).revision

  abbrev next : Way
  next = record {
    outcome = Ok tt;
    registry = panel_next h w.registry;
    reports = w.reports ++ (report ∷ []);
    views = w.views;
    windows = w.windows;
  }

  panel_on : panel_step h w ≡ next
  unfolding panel_step
  panel_on =
      ap (λ (x : Outcome). unless_refused x w (panel_taken (close_surface w.registry h) w)) g.accepted
      ∙ ap (λ (x : SurfaceClosed). panel_taken x w) (panel_closes w.registry g.ready view h stands top)

  fewer : (panel_next h w.registry).surfaces.arena.live + 1 ≡ w.registry.surfaces.arena.live
  fewer = panel_fewer w.registry g.ready view h stands top

  panel_going : Going next
  panel_going = record {
    accepted = refl;
    ready = panel_ready w.registry g.ready view h stands top;
    few = rw (length-append w.reports (report ∷ [])) (omega (arith, g.few, fewer));
  }

  panel_same : closing next ≡ layer_closed h (closing w)
  unfolding layer_closed
  panel_same =
      sym (ap (λ (x : CompositionRegistry). record { registry = x; reports = pushed close_reports (packed close_reports w.reports) (close_report w.registry.surfaces w.registry.views h x.revision) })
      (panel_raised w.registry g.ready view h stands top)
      ∙ ap (λ (t : CloseReports). record { registry = panel_next h w.registry; reports = t })
      (push_packed close_reports w.reports report (omega (arith, g.few, fewer))))

-- ---- all of them
pub record Done (view : GenerationalHandle) (w v : Way) (c : Closing) : Type 0 where
  pub going : Going v
  pub same : closing v ≡ c
  pub slots : v.registry.views.arena ≡ w.registry.views.arena
  pub windows : v.registry.windows ≡ w.registry.windows
  pub empty : entries_of layers (view_at v.registry.views view).surfaces ≡ []
  pub views_listed : v.views ≡ w.views
  pub windows_listed : v.windows ≡ w.windows

module _ (view : GenerationalHandle) where
  pub panels_done : (l : List GenerationalHandle) (w : Way) → Going w → lookup_of w.registry.views.arena view ≡ Live
      → entries_of layers (view_at w.registry.views view).surfaces ≡ reverse l → Done view w (panel_steps l w) (layers_closed l (closing w))
  unfolding panel_steps layers_closed
  panels_done [] w g stands e = record { going = g; same = refl; slots = refl; windows = refl; empty = e; views_listed = refl; windows_listed = refl }
  panels_done (h ∷ l) w g stands e =
      let c = w.registry in
      let now : entries_of layers (view_at c.views view).surfaces ≡ reverse l ++ (h ∷ []) = e ∙ reverse-cons h l in
      let x = (view_of_lem c g.ready.parts view stands).layered in
      let own : (all (is_layer_of c.surfaces view) (reverse l ++ (h ∷ []))) ≡ true = subst (λ (t : List GenerationalHandle). all (is_layer_of c.surfaces view) t ≡ true) now x.own in
      let top = and_left (is_layer_of c.surfaces view h) true
      (and_right (all (is_layer_of c.surfaces view) (reverse l)) _ (sym (all_append (is_layer_of c.surfaces view) (reverse l) (h ∷ [])) ∙ own)) in
      let sorted = rising_sorted itself (layer.ordered c.surfaces.records) (reverse l ++ (h ∷ []))
      (subst (λ (t : List GenerationalHandle). rising itself (layer_lt c.surfaces.records) t ≡ true) now x.rise) in
      let left : entries_of layers (view_at (panel_next h c).views view).surfaces ≡ reverse l =
      ap (entries_of layers) (panel_out_lem c g.ready view h stands top)
      ∙ entries_packed layers (keep (λ at. not (same_handle h at)) (entries_of layers (view_at c.views view).surfaces))
      ∙ ap (keep (λ at. not (same_handle h at))) now
      ∙ keep_last _ _ (layer.ordered c.surfaces.records) h (reverse l) sorted in
      let slots = panel_slots c g.ready view h stands top in
      let rest = panels_done l (next w g view h stands top) (panel_going w g view h stands top) (ap (λ (a : Arena). lookup_of a view) slots ∙ stands) left in
      subst (λ (y : Way). Done view w (panel_steps l y) (layers_closed l (layer_closed h (closing w)))) (sym (panel_on w g view h stands top)) (record {
        going = rest.going;
        same = rest.same ∙ ap (layers_closed l) (panel_same w g view h stands top);
        slots = rest.slots ∙ slots;
        windows = rest.windows ∙ panel_windows c g.ready view h stands top;
        empty = rest.empty;
        views_listed = rest.views_listed;
        windows_listed = rest.windows_listed;
      })
