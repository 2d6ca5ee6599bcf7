-- `start` meets its contract: registry and router are those of their starts.
use Rattle.desk.specs.Opening.{start_counter}
use Rattle.desk.proofs.opening.start.Goals as goal

pub returns : goal.returns
unfolding start_counter
returns c = rw (c.new.ensures, c.new-2.ensures)
