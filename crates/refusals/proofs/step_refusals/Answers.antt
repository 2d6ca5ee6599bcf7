-- The statement holds: it is proved in `RefusalLaws.antt`.
use Rattle.refusals.proofs.RefusalLaws.{claims}
use Rattle.refusals.proofs.step_refusals.Goals as goal

pub returns : goal.returns
returns c = claims
