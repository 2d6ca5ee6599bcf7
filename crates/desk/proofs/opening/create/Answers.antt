-- `create` meets its contract: the call is taken as `step` defines it.
use Rattle.desk.specs.Opening.{created_by}
use Rattle.desk.proofs.opening.create.Goals as goal

pub returns : goal.returns
unfolding created_by
returns c = rw (c.handle_from.ensures, c.step-done.ensures, c.no_lists.ensures)
