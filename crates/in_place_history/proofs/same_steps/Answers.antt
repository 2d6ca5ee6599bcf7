-- `same_steps` holds: it is proved in `SameStepLaws.antt`.
use Rattle.in_place_history.proofs.SameStepLaws.{same_steps}
use Rattle.in_place_history.proofs.same_steps.Goals as goal

pub returns : goal.returns
returns c = same_steps
