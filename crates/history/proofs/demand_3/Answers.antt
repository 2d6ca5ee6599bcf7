-- Demand 3 holds: it is proved in `HistoryLaws.antt`.
use Rattle.history.proofs.HistoryLaws.{demand_3}
use Rattle.history.proofs.demand_3.Goals as goal

pub returns : goal.returns
returns c = demand_3
