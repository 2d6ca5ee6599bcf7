-- `open_view` meets its contract: each call is taken on the counter that the one before has left.
use Rattle.desk.specs.Opening.{view_opened}
use Rattle.desk.proofs.opening.open_view.Goals as goal

pub returns : goal.returns
unfolding view_opened
returns c = rw (c.create-view.ensures, c.create-window.ensures)
