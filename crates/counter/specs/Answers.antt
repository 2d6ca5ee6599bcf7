-- What a call answers, in parts; what a call does not answer is blank.
use Rattle.records.specs.Errors.{Outcome}
use Rattle.handles.specs.declared.GenerationalHandle.{GenerationalHandle}
use Rattle.std.specs.Prelude.{[], Option, None, Some}
use Rattle.lists.specs.Tables.{packed}
use Rattle.release_lists.specs.Captures.{CaptureList, capture_list}
use Rattle.composition_arbitration.specs.declared.arbitrate.ArbitrationResult.{ArbitrationResult}
use Rattle.composition_close.specs.declared.answer.CompositionShutdownReport.{CompositionShutdownReport}
use Rattle.composition_close.specs.declared.answer.SurfaceCloseReport.{SurfaceCloseReport}
use Rattle.composition_close.specs.Reports.{no_report as not_closed, no_shutdown}
use Rattle.release_lists.specs.Releases.{Releases, releases}
use Rattle.input_releases.specs.declared.answer.PlatformInputRoutingReport.{PlatformInputRoutingReport}
use Rattle.input_releases.specs.declared.answer.RouteKind.TheVariants as kind
use Rattle.input_releases.specs.Answers.{no_result, no_report}
use Rattle.calls.specs.declared.shown.Shown.{Shown}
use Rattle.calls.specs.declared.shown.Shown.TheVariants as shown
use Rattle.input_events.specs.RouterErrors.{from_composition, RouterOutcome}
use Rattle.counter.specs.declared.answer.Answer.{Answer}
use Rattle.counter.specs.declared.answer.Listed.{Listed}

unfoldable pub nothing_listed : Listed
nothing_listed = record { captures = packed capture_list []; closed = not_closed; shutdown = no_shutdown }

-- the captures of a device, the report of a panel's close, and that of a shutdown
unfoldable pub captures_listed : CaptureList → Listed
captures_listed l = record { captures = l; closed = not_closed; shutdown = no_shutdown }

unfoldable pub close_listed : SurfaceCloseReport → Listed
close_listed x = record { captures = packed capture_list []; closed = x; shutdown = no_shutdown }

unfoldable pub shutdown_listed : CompositionShutdownReport → Listed
shutdown_listed x = record { captures = packed capture_list []; closed = not_closed; shutdown = x }

-- of a report, the part that an arbitration answers, and the part that a router release answers
unfoldable pub arbitration_alone : ArbitrationResult → PlatformInputRoutingReport
arbitration_alone x =
    record {
      kind = kind.Nothing;
      arbitration = x;
      synthesized_releases = packed releases [];
      view_release = None;
      composition_revision = 0;
    }

unfoldable pub releases_alone : Releases → PlatformInputRoutingReport
releases_alone l =
    record {
      kind = kind.Nothing;
      arbitration = no_result;
      synthesized_releases = l;
      view_release = None;
      composition_revision = 0;
    }

-- the answer of a call that lists nothing and has no report: one on the registry, or one that alters nothing
abbrev pub shown_answer : Outcome → Option GenerationalHandle → Shown → Answer
shown_answer o h s =
    record { outcome = from_composition o; handle = h; shown = s; report = no_report; listed = nothing_listed }

-- of a release of a device's captures, a panel's close, a shutdown
abbrev pub listing_answer : Outcome → Listed → Answer
listing_answer o l =
    record {
      outcome = from_composition o;
      handle = None;
      shown = shown.Nothing;
      report = no_report;
      listed = l;
    }

-- of an arbitration, a routed event, a router release
abbrev pub report_answer : RouterOutcome → PlatformInputRoutingReport → Answer
report_answer o x =
    record { outcome = o; handle = None; shown = shown.Nothing; report = x; listed = nothing_listed }
