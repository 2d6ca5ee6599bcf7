-- What holds of these calls beyond their equations.
use Rattle.std.specs.Prelude.{◌+◌, ◌≡◌, true, false, not, Some, None, Ok, Err}
use Rattle.lists.specs.Lists.{all}
use Rattle.lists.specs.Tables.{entries_of, pushed}
use Rattle.handles.specs.Handles.{same_handle}
use Rattle.handles.specs.declared.GenerationalHandle.{GenerationalHandle}
use Rattle.maps.specs.Captures.{captures, capture_key}
use Rattle.maps.specs.Keys.{pointer_key}
use Rattle.maps.specs.MapTables.{found, keys_rise}
use Rattle.maps.specs.declared.keys.CompositionPointerId.{CompositionPointerId}
use Rattle.records.specs.declared.error.CompositionError.{CompositionError}
use Rattle.records.specs.declared.error.CompositionError.TheVariants.{RevisionExhausted, GenerationExhausted}
use Rattle.composition_state.specs.declared.registry.CompositionRegistry.{CompositionRegistry}
use Rattle.records.specs.Surfaces.{SurfaceTable}
use Rattle.records.specs.declared.view.ViewRecord.{ViewRecord}
use Rattle.records.specs.Layers.{layers}
use Rattle.composition_state.specs.Registry.{with_views, outcome_of}
use Rattle.composition_panels.specs.Windows.{close_view, close_window}
use Rattle.composition_close.specs.declared.shutdown.Closing.{Closing}
use Rattle.composition_close.specs.declared.answer.SurfaceCloseReport.{SurfaceCloseReport}
use Rattle.composition_close.specs.Reports.{close_reports}
use Rattle.composition_close.specs.Detach.{detached_view}
use Rattle.composition_close.specs.Close.{detached, closed_panel, close_surface}
use Rattle.composition_close.specs.Shutdown.{layer_closed, view_closed, window_closed, shutdown_of}

-- how a close leaves the registry, by its answer
pub record CloseSettles (r : CompositionRegistry) (h : GenerationalHandle) : Type 0 where
  -- 42, 11/12, 8/9: as it came
  pub refused : (e : CompositionError) → outcome_of (close_surface r h) ≡ Err e → (e ≡ RevisionExhausted → ⊥)
      → (e ≡ GenerationExhausted → ⊥) → (close_surface r h).registry ≡ r
  -- 22: the panel is out of its view, with focus, captures and IME moved, and all else stays
  pub last_generation_lem : outcome_of (close_surface r h) ≡ Err GenerationExhausted → (close_surface r h).registry
      ≡ detached h r
  -- 21: after the whole change
  pub last_revision : outcome_of (close_surface r h) ≡ Err RevisionExhausted → (close_surface r h).registry
      ≡ closed_panel h r
  pub accepted : outcome_of (close_surface r h) ≡ Ok tt → (close_surface r h).registry.revision ≡ r.revision + 1

-- an entry of a view's map of captures
abbrev pub Holds : ViewRecord → CompositionPointerId → GenerationalHandle → Type 0
Holds v p h =
    found captures capture_key (pointer_key p) v.pointer_captures ≡ Some (record { pointer = p; surface = h })

pub record CloseClaims : Type 0 where
  pub close : (r : CompositionRegistry) (h : GenerationalHandle) → CloseSettles r h
  -- what 22 leaves differs from what came in the views alone, and there the panel is no layer of its own view
  pub detached_alone : (r : CompositionRegistry) (h : GenerationalHandle) → detached h r
      ≡ with_views (detached h r).views r
  pub detached_out : (surfaces : SurfaceTable) (v : ViewRecord) (h : GenerationalHandle)
      → all (λ at. not (same_handle h at)) (entries_of layers (detached_view surfaces v h).surfaces) ≡ true
  -- every refusal of a shutdown leaves the registry as it came
  pub shutdown_refused : (r : CompositionRegistry) (e : CompositionError) → outcome_of (shutdown_of r) ≡ Err e
      → (shutdown_of r).registry ≡ r
  -- each step of a shutdown is what the accepted call leaves and reports
  pub panel_step_lem : (w : Closing) (h : GenerationalHandle) (report : SurfaceCloseReport)
      → (close_surface w.registry h).outcome ≡ Ok report
      → layer_closed h w ≡ record {
        registry = (close_surface w.registry h).registry;
        reports = pushed close_reports w.reports report;
      }
  pub view_step_lem : (r : CompositionRegistry) (view : GenerationalHandle) → (close_view r view).outcome ≡ Ok tt
      → view_closed view r ≡ (close_view r view).registry
  pub window_step_lem : (r : CompositionRegistry) (window : GenerationalHandle) → (close_window r window).outcome
      ≡ Ok tt
      → window_closed window r ≡ (close_window r window).registry
  -- RULES.md, Counter table: A closes while it holds a pointer (contact 9), B another (PRIMARY): the view's single
  -- field empties, B's map entry remains
  pub captures_apart : (surfaces : SurfaceTable) (v : ViewRecord) (a b : GenerationalHandle)
      (p q : CompositionPointerId)
      → keys_rise captures capture_key v.pointer_captures ≡ true → same_handle a b ≡ false → Holds v p a → Holds v q b
      → ((detached_view surfaces v a).pointer_capture ≡ None) × Holds (detached_view surfaces v a) q b
