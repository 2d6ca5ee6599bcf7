-- A panel leaves its view: RULES.md, Panel close; Layers; and Counter table, its last row.
use Rattle.std.specs.Prelude.{ℕ, Bool, false, cond, not, ◌||◌, reverse, eqb, length, Option, None, Some}
use Rattle.lists.specs.Lists.{keep, first}
use Rattle.lists.specs.Tables.{entries_of, packed}
use Rattle.handles.specs.Handles.{same_handle, holds_handle}
use Rattle.handles.specs.declared.GenerationalHandle.{GenerationalHandle}
use Rattle.maps.specs.Captures.{captures}
use Rattle.maps.specs.MapTables.{retained}
use Rattle.maps.specs.declared.captures.Capture.{Capture}
use Rattle.records.specs.Layers.{Layers, layers, layers_without, is_live}
use Rattle.records.specs.Surfaces.{SurfaceTable, is_interactive, surface_status, descriptor_of}
use Rattle.records.specs.declared.view.ViewRecord.{ViewRecord}
use Rattle.records.specs.Views.{ViewTable, view_at}
use Rattle.composition_close.specs.declared.answer.SurfaceCloseReport.{SurfaceCloseReport}
use Rattle.composition_close.specs.Reports.{releases, release_list}

-- ---- what the panel had in its view
abbrev pub had_focus : ViewRecord → GenerationalHandle → Bool
had_focus v h = holds_handle v.focus h

abbrev pub had_ime : ViewRecord → GenerationalHandle → Bool
had_ime v h = holds_handle v.ime h

abbrev pub is_on_surface : GenerationalHandle → Capture → Bool
is_on_surface h e = same_handle h e.surface

-- the view's single field, or a pointer of its map
unfoldable pub had_capture : ViewRecord → GenerationalHandle → Bool
had_capture v h =
    holds_handle v.pointer_capture h
    || not (eqb (length (keep (is_on_surface h) (entries_of captures v.pointer_captures))) 0)

-- ---- where the focus goes
-- a live panel whose policy is Interactive or Exclusive
abbrev pub takes_focus : SurfaceTable → GenerationalHandle → Bool
takes_focus surfaces at =
    cond (is_live (surface_status surfaces at)) (is_interactive (descriptor_of surfaces at).input) false

-- RULES.md, Layers: they go from lowest to highest, so the search is through the list turned round
unfoldable pub topmost : SurfaceTable → Layers → Option GenerationalHandle
topmost surfaces t = first (takes_focus surfaces) (reverse (entries_of layers t))

-- the topmost layer left that can have the focus, if the panel had it
abbrev pub restored_focus : SurfaceTable → ViewRecord → GenerationalHandle → Option GenerationalHandle
restored_focus surfaces v h = cond (had_focus v h) (topmost surfaces (layers_without h v.surfaces)) None

-- ---- the view without the panel
-- the single field empties if the panel had any capture, also where another panel has that field; of the map only the
-- panel's own entries go
unfoldable pub detached_view : SurfaceTable → ViewRecord → GenerationalHandle → ViewRecord
detached_view surfaces v h = record {
  window = v.window;
  metrics = v.metrics;
  surfaces = layers_without h v.surfaces;
  focus = cond (had_focus v h) (restored_focus surfaces v h) v.focus;
  pointer_capture = cond (had_capture v h) None v.pointer_capture;
  pointer_captures = retained captures (λ e. not (is_on_surface h e)) v.pointer_captures;
  ime = cond (had_ime v h) None v.ime;
}

-- ---- the report
-- the view that a panel names as its own
abbrev pub own_view : SurfaceTable → GenerationalHandle → GenerationalHandle
own_view surfaces h = (descriptor_of surfaces h).view

-- what the panel had in its view, where the focus went, and the revision after the close
unfoldable pub close_report : SurfaceTable → ViewTable → GenerationalHandle → ℕ → SurfaceCloseReport
close_report surfaces views h revision =
    let v = view_at views (own_view surfaces h) in
    record {
      surface = h;
      releases = packed releases (release_list (had_ime v h) (had_capture v h) (had_focus v h));
      restored_focus = restored_focus surfaces v h;
      revision = revision;
    }
