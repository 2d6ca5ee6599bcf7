-- What `route` answers; a refused event has a blank report.
use Rattle.std.specs.Result.{result_and, result_unwrap_or}
use Rattle.std.specs.Prelude.{[], None, Some, Ok, Err}
use Rattle.input_events.specs.RouterErrors.{RouterOutcome}
use Rattle.lists.specs.Tables.{packed}
use Rattle.composition_state.specs.declared.registry.CompositionRegistry.{CompositionRegistry}
use Rattle.records.specs.Traces.{deliveries}
use Rattle.composition_arbitration.specs.declared.arbitrate.ArbitrationResult.{ArbitrationResult}
use Rattle.input_events.specs.declared.error.PlatformInputError.{PlatformInputError}
use Rattle.input_router.specs.declared.router.PlatformInputRouter.{PlatformInputRouter}
use Rattle.release_lists.specs.Releases.{releases}
use Rattle.input_releases.specs.declared.answer.PlatformInputRoutingReport.{PlatformInputRoutingReport}
use Rattle.input_releases.specs.declared.answer.RouteKind.TheVariants.{Nothing}
use Rattle.input_releases.specs.declared.answer.Routed.{Routed}

-- an event that was not arbitrated has no delivery and no consumer
abbrev pub no_result : ArbitrationResult
no_result = record { revision = 0; deliveries = packed deliveries []; consumed_by = None }

-- a refused event lists no release
abbrev pub no_report : PlatformInputRoutingReport
no_report =
    record {
      kind = Nothing;
      arbitration = no_result;
      synthesized_releases = packed releases [];
      view_release = None;
      composition_revision = 0;
    }

-- a refusal, with what it has written
abbrev pub refused_with : PlatformInputError → CompositionRegistry → PlatformInputRouter → Routed
refused_with e r t = record { outcome = Err e; registry = r; router = t }

-- whether an event is accepted, or why it is refused, without its report
abbrev pub routed_outcome : Routed → RouterOutcome
routed_outcome x = result_and x.outcome (Ok tt)

-- what an event reports: nothing where it is refused
abbrev pub report_of : Routed → PlatformInputRoutingReport
report_of x = result_unwrap_or x.outcome no_report
