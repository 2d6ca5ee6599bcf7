-- RULES.md, Metrics: 14, 8/9, 20, 21, after 42. The 20 and the first 21 are the view's own metrics counter; that 21
-- comes before any change.
use Rattle.std.specs.Result.{result_and}
use Rattle.std.specs.Prelude.{ℕ, ◌+◌, cond, not, eqb}
use Rattle.lists.specs.Numbers.{max_u64}
use Rattle.geometry.specs.Metrics.{is_valid_metrics, at_revision}
use Rattle.geometry.specs.declared.metrics.ViewMetrics.{ViewMetrics}
use Rattle.geometry.specs.declared.metrics.ViewMetricsUpdate.{ViewMetricsUpdate}
use Rattle.handles.specs.declared.GenerationalHandle.{GenerationalHandle}
use Rattle.records.specs.declared.error.CompositionError.TheVariants.{InvalidMetrics, RevisionExhausted}
use Rattle.composition_state.specs.declared.registry.CompositionRegistry.{CompositionRegistry}
use Rattle.records.specs.Errors.{refusal_if, Outcome}
use Rattle.composition_state.specs.Damage.{damage_refusal}
use Rattle.composition_state.specs.Registry.{with_views, conflict_refusal, settled}
use Rattle.records.specs.Views.{view_at, view_refusal, with_view, with_metrics}
use Rattle.composition_state.specs.declared.registry.Answered.{Answered}
use Rattle.composition_state.specs.Registry.{answered_with}

-- an update answers the new metrics
abbrev pub MetricsUpdated : Type 0
MetricsUpdated = Answered ViewMetrics

abbrev pub current_revision : CompositionRegistry → GenerationalHandle → ℕ
current_revision r view = (view_at r.views view).metrics.revision

abbrev pub metrics_refusal : CompositionRegistry → GenerationalHandle → ViewMetricsUpdate → ℕ → Outcome
metrics_refusal r view update expected =
    result_and (damage_refusal r)
    (result_and (refusal_if (not (is_valid_metrics update)) InvalidMetrics)
    (result_and (view_refusal r.views view)
    (result_and (conflict_refusal (current_revision r view) expected)
    (refusal_if (eqb (current_revision r view) max_u64) RevisionExhausted))))

-- the metrics' revision rises by 1 too; at the last one the update is refused 21, so that case is never met
abbrev pub next_metrics : ViewMetrics → ViewMetricsUpdate → ViewMetrics
next_metrics m update = at_revision update (cond (eqb m.revision max_u64) 0 (m.revision + 1))

abbrev pub new_metrics : CompositionRegistry → GenerationalHandle → ViewMetricsUpdate → ViewMetrics
new_metrics r view update = next_metrics (view_at r.views view).metrics update

unfoldable pub update_view_metrics : CompositionRegistry → GenerationalHandle → ViewMetricsUpdate → ℕ → MetricsUpdated
update_view_metrics r view update expected =
    answered_with (new_metrics r view update)
    (settled (metrics_refusal r view update expected) r
    (with_views (with_view view (with_metrics (new_metrics r view update) (view_at r.views view)) r.views) r))
