-- The claims hold: they are proved in `ClaimLaws.antt`.
use Rattle.shutdown_steps.proofs.ClaimLaws.{claims}
use Rattle.shutdown_steps.proofs.shutdown_claims.Goals as goal

pub returns : goal.returns
returns c = claims
