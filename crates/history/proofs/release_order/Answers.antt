-- The release order holds: it is proved in `OrderLaws.antt`.
use Rattle.history.proofs.OrderLaws.{release_order}
use Rattle.history.proofs.release_order.Goals as goal

pub returns : goal.returns
returns c = release_order
