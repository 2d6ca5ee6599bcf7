-- RULES.md, Shutdown, as the Rust does it: after 42, 21 and 22 a fold of the public calls `close_surface`,
-- `close_view` and `close_window` that ends at the first refusal.
use Rattle.records.specs.Errors.{Outcome}
use Rattle.std.specs.Prelude.{cond, List, [], ◌∷◌, ◌++◌, reverse, is_ok, Ok, Err}
use Rattle.lists.specs.Tables.{entries_of, packed}
use Rattle.handles.specs.Slots.{handles_table, live_handles}
use Rattle.handles.specs.declared.GenerationalHandle.{GenerationalHandle}
use Rattle.records.specs.Layers.{layers}
use Rattle.records.specs.Views.{view_at, view_refusal}
use Rattle.composition_state.specs.Registry.{Changed, outcome_of}
use Rattle.composition_state.specs.declared.registry.CompositionRegistry.{CompositionRegistry}
use Rattle.composition_panels.specs.Windows.{close_view, close_window}
use Rattle.composition_close.specs.Shutdown.{Shutdown}
use Rattle.composition_close.specs.declared.answer.SurfaceCloseReport.{SurfaceCloseReport}
use Rattle.composition_close.specs.Reports.{close_reports}
use Rattle.composition_close.specs.Close.{SurfaceClosed, closed_report, close_surface}
use Rattle.composition_close.specs.Shutdown.{shutdown_refusal}

-- a shutdown under way: the answer of its last step, the registry, and what was closed, in the order of the closes
pub record Way : Type 0 where
  pub outcome : Outcome
  pub registry : CompositionRegistry
  pub reports : List SurfaceCloseReport
  pub views : List GenerationalHandle
  pub windows : List GenerationalHandle

-- the Rust's `?`: after a refusal nothing more is done
abbrev pub unless_refused : Outcome → Way → Way → Way
unless_refused (Ok _) w next = next
unless_refused (Err e) w next = w

-- an accepted step puts what it closed at the end of its list; a refused one puts nothing
abbrev pub listed : {E : Type 0} → Outcome → List E → E → List E
listed o l e = cond (is_ok o) (l ++ (e ∷ [])) l

-- what a close of a panel leaves
abbrev pub panel_taken : SurfaceClosed → Way → Way
panel_taken c w = record {
  outcome = outcome_of c;
  registry = c.registry;
  reports = listed (outcome_of c) w.reports (closed_report c);
  views = w.views;
  windows = w.windows;
}

-- `closed_surfaces.push(self.close_surface(surface)?)`
unfoldable pub panel_step : GenerationalHandle → Way → Way
panel_step h w = unless_refused w.outcome w (panel_taken (close_surface w.registry h) w)

-- panels, one after the other
unfoldable pub panel_steps : List GenerationalHandle → Way → Way
panel_steps [] w = w
panel_steps (h ∷ l) w = panel_steps l (panel_step h w)

-- `self.view(view)?`: 8/9, before its layers are read
unfoldable pub view_found : GenerationalHandle → Way → Way
view_found view w = unless_refused w.outcome w (record {
  outcome = view_refusal w.registry.views view;
  registry = w.registry;
  reports = w.reports;
  views = w.views;
  windows = w.windows;
})

-- what a close of a view leaves
abbrev pub view_taken : GenerationalHandle → Changed → Way → Way
view_taken view c w = record {
  outcome = c.outcome;
  registry = c.registry;
  reports = w.reports;
  views = listed c.outcome w.views view;
  windows = w.windows;
}

-- `self.close_view(view)?; closed_views.push(view)`
unfoldable pub view_left : GenerationalHandle → Way → Way
view_left view w = unless_refused w.outcome w (view_taken view (close_view w.registry view) w)

-- a view's layers from the top, as they stand when its turn comes
abbrev pub layers_down : CompositionRegistry → GenerationalHandle → List GenerationalHandle
layers_down r view = reverse (entries_of layers (view_at r.views view).surfaces)

-- a view with its panels
unfoldable pub view_step : GenerationalHandle → Way → Way
view_step view w = let found = view_found view w in view_left view (panel_steps (layers_down found.registry view) found)

-- views, one after the other
unfoldable pub view_steps : List GenerationalHandle → Way → Way
view_steps [] w = w
view_steps (h ∷ l) w = view_steps l (view_step h w)

-- what a close of a window leaves
abbrev pub window_taken : GenerationalHandle → Changed → Way → Way
window_taken window c w = record {
  outcome = c.outcome;
  registry = c.registry;
  reports = w.reports;
  views = w.views;
  windows = listed c.outcome w.windows window;
}

-- `self.close_window(window)?; closed_windows.push(window)`
unfoldable pub window_step : GenerationalHandle → Way → Way
window_step window w = unless_refused w.outcome w (window_taken window (close_window w.registry window) w)

-- windows, one after the other
unfoldable pub window_steps : List GenerationalHandle → Way → Way
window_steps [] w = w
window_steps (h ∷ l) w = window_steps l (window_step h w)

-- before the first step
abbrev pub begun : CompositionRegistry → Way
begun r = record { outcome = Ok tt; registry = r; reports = []; views = []; windows = [] }

-- the views that are live at the start, in slot order
unfoldable pub views_done : CompositionRegistry → Way
views_done r = view_steps (live_handles r.views.arena) (begun r)

-- then the windows that are live after them, in slot order
unfoldable pub shutdown_steps : CompositionRegistry → Way
shutdown_steps r = window_steps (live_handles (views_done r).registry.windows) (views_done r)

-- the answer: lists and the last revision if no step was refused, else the refusal, with what the steps before it left
abbrev pub ended : Outcome → Way → Shutdown
ended (Ok _) w = record {
  outcome = Ok (record {
    closed_surfaces = packed close_reports w.reports;
    closed_views = packed handles_table w.views;
    closed_windows = packed handles_table w.windows;
    final_revision = w.registry.revision;
  });
  registry = w.registry;
}
ended (Err e) w = record { outcome = Err e; registry = w.registry }

-- 42, 21 and 22 are before any step
abbrev pub steps_after : Outcome → CompositionRegistry → Shutdown
steps_after (Ok _) r = ended (shutdown_steps r).outcome (shutdown_steps r)
steps_after (Err e) r = record { outcome = Err e; registry = r }

-- the Rust's shutdown, whatever its steps answer
unfoldable pub shutdown_by_steps : CompositionRegistry → Shutdown
shutdown_by_steps r = steps_after (shutdown_refusal r) r
