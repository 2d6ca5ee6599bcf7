-- `metrics_revision` meets its contract: the read is taken as `step` defines it.
use Rattle.desk.specs.Opening.{metrics_revision}
use Rattle.desk.proofs.opening.metrics_revision.Goals as goal

pub returns : goal.returns
unfolding metrics_revision
returns c = rw (c.revision_shown.ensures, c.step-done.ensures, c.no_lists.ensures)
