-- What is shown other than metrics has no revision: by cases, with the one kind that is left out by a premise.
use mathlib.Core.Path.{◌≡◌, refl}
use Rattle.geometry.specs.declared.metrics.ViewMetrics.{ViewMetrics}
use Rattle.calls.specs.declared.shown.Shown.{Shown}
use Rattle.calls.specs.declared.shown.Shown.TheVariants as shown
use Rattle.desk.specs.Opening.{revision_shown}

pub no_metrics : (s : Shown) → ((m : ViewMetrics) → s ≡ shown.Metrics m → ⊥) → 0 ≡ revision_shown s
unfolding revision_shown
no_metrics (shown.Metrics m) h = absurd (h m refl)
no_metrics shown.Nothing h = refl
no_metrics (shown.Window w) h = refl
no_metrics (shown.InputState s) h = refl
no_metrics (shown.Captures v) h = refl
no_metrics (shown.Descriptor d) h = refl
no_metrics (shown.Layers v) h = refl
no_metrics shown.Traces h = refl
no_metrics (shown.Counts n) h = refl
no_metrics (shown.BindingCount n) h = refl
no_metrics (shown.Hits a) h = refl
no_metrics (shown.Local p) h = refl
