-- `open_panels` meets its contract: each call is taken on the counter that the one before has left.
use Rattle.desk.specs.Opening.{panels_opened}
use Rattle.desk.proofs.opening.open_panels.Goals as goal

pub returns : goal.returns
unfolding panels_opened
returns c = rw (c.metrics_revision.ensures, c.attach-pay_sheet.ensures, c.attach-hold_bar.ensures, c.attach-seat_map.ensures)
