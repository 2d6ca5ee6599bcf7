-- The claims about `arbitrate` hold: they are proved in `CallClaimLaws.antt`.
use Rattle.composition_arbitration.proofs.CallClaimLaws.{claims}
use Rattle.composition_arbitration.proofs.arbitration_claims.Goals as goal

pub returns : goal.returns
returns c = claims
