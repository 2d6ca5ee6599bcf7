-- The reports of a close and of a shutdown, and the blank ones that a refused call answers.
use Rattle.std.specs.Prelude.{Bool, cond, List, [], ◌∷◌, ◌++◌, None}
use Rattle.lists.specs.Tables.{Shape, table, packed}
use Rattle.lists.specs.declared.table.Table.{Table}
use Rattle.handles.specs.Handles.{handle_of}
use Rattle.handles.specs.Slots.{handles_table}
use Rattle.composition_close.specs.declared.answer.SurfaceRelease.{SurfaceRelease}
use Rattle.composition_close.specs.declared.answer.SurfaceRelease.TheVariants.{Focus, PointerCapture, ImeComposition}
use Rattle.composition_close.specs.declared.answer.SurfaceCloseReport.{SurfaceCloseReport}
use Rattle.composition_close.specs.declared.answer.CompositionShutdownReport.{CompositionShutdownReport}

-- what a panel lets go, at most each of the three
abbrev pub SurfaceReleases : Type 0
SurfaceReleases = Table SurfaceRelease 3

abbrev pub releases : Shape SurfaceRelease SurfaceReleases
releases = table 3 Focus

abbrev pub listed_if : Bool → SurfaceRelease → List SurfaceRelease
listed_if had x = cond had (x ∷ []) []

-- the composition, the capture, the focus: each that the panel had, in this order
abbrev pub release_list : Bool → Bool → Bool → List SurfaceRelease
release_list ime capture focus = listed_if ime ImeComposition ++ (listed_if capture PointerCapture
    ++ listed_if focus Focus)

abbrev pub no_report : SurfaceCloseReport
no_report = record { surface = handle_of 0 0; releases = packed releases []; restored_focus = None; revision = 0 }

-- RULES.md, Port limits: 16 panels a view, 16 views
abbrev pub CloseReports : Type 0
CloseReports = Table SurfaceCloseReport 256

abbrev pub close_reports : Shape SurfaceCloseReport CloseReports
close_reports = table 256 no_report

abbrev pub no_shutdown : CompositionShutdownReport
no_shutdown = record {
  closed_surfaces = packed close_reports [];
  closed_views = packed handles_table [];
  closed_windows = packed handles_table [];
  final_revision = 0;
}
