-- `open_desk` meets its contract: start, view and panels follow one another.
use Rattle.desk.specs.Opening.{opened}
use Rattle.desk.proofs.opening.open_desk.Goals as goal

pub returns : goal.returns
unfolding opened
returns c = rw (c.open_panels.ensures, c.open_view.ensures, c.start.ensures)
