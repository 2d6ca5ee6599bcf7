-- `demand_3_in_place` holds: it is proved in `SameStepLaws.antt`.
use Rattle.in_place_history.proofs.SameStepLaws.{demand_3_in_place}
use Rattle.in_place_history.proofs.demand_3_in_place.Goals as goal

pub returns : goal.returns
returns c = demand_3_in_place
