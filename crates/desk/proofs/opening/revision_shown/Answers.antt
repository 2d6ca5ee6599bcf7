-- `revision_shown` meets its contract: metrics have their revision, and what else is shown has none.
use Rattle.desk.specs.Opening.{revision_shown}
use Rattle.desk.proofs.ShownLaws.{no_metrics}
use Rattle.desk.proofs.opening.revision_shown.Goals as goal

pub returns-in-Metrics : goal.returns-in-Metrics
unfolding revision_shown
returns-in-Metrics c = rw c.in-Metrics.is

pub returns : goal.returns
returns c = no_metrics c.args.answer.shown c.in_default.not-Metrics
