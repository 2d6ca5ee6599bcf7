-- What a panel's close and a shutdown show.
use Rattle.std.specs.Prelude.{ℕ, List, [], ◌∷◌, ◌++◌}
use Rattle.lists.specs.Tables.{entries_of}
use Rattle.calls.specs.declared.call.CloseCall.{CloseCall}
use Rattle.calls.specs.declared.call.CloseCall.TheVariants as close
use Rattle.composition_close.specs.Reports.{releases, close_reports, CloseReports, SurfaceReleases}
use Rattle.composition_close.specs.declared.answer.CompositionShutdownReport.{CompositionShutdownReport}
use Rattle.composition_close.specs.declared.answer.SurfaceCloseReport.{SurfaceCloseReport}
use Rattle.composition_close.specs.declared.answer.SurfaceRelease.{SurfaceRelease}
use Rattle.composition_close.specs.declared.answer.SurfaceRelease.TheVariants.{Focus, PointerCapture, ImeComposition}
use Rattle.answer_numbers.specs.Groups.{handle_numbers, optional_numbers}
use Rattle.answer_numbers.specs.Lists.{handles_numbers}
use Rattle.answer_numbers.specs.Numbers.{Number, plain, list_numbers}

-- enums are numbers from 0 in the declared order
abbrev pub release_number : SurfaceRelease → ℕ
release_number Focus = 0
release_number PointerCapture = 1
release_number ImeComposition = 2

abbrev pub released_numbers : SurfaceRelease → List Number
released_numbers e = plain (release_number e) ∷ []

-- what a panel let go: n, n × release
abbrev pub releases_numbers : SurfaceReleases → List Number
releases_numbers t = list_numbers released_numbers (entries_of releases t)

-- C: the releases, restored focus O
abbrev pub close_numbers : SurfaceCloseReport → List Number
close_numbers r = releases_numbers r.releases ++ optional_numbers r.restored_focus

-- a closed panel of a shutdown: H, C, revision
abbrev pub report_numbers : SurfaceCloseReport → List Number
report_numbers r = handle_numbers r.surface ++ (close_numbers r ++ (plain r.revision ∷ []))

-- the closed panels: n, n × (H, C, revision)
abbrev pub reports_numbers : CloseReports → List Number
reports_numbers t = list_numbers report_numbers (entries_of close_reports t)

-- a shutdown: the closed panels; n, n × V; n, n × W
abbrev pub shutdown_numbers : CompositionShutdownReport → List Number
shutdown_numbers r =
    reports_numbers r.closed_surfaces
    ++ (handles_numbers r.closed_views ++ handles_numbers r.closed_windows)

-- a close shows C, a shutdown its whole report
abbrev pub closing_numbers : CloseCall → SurfaceCloseReport → CompositionShutdownReport → List Number
closing_numbers (close.CloseSurface s) closed down = close_numbers closed
closing_numbers close.Shutdown closed down = shutdown_numbers down
