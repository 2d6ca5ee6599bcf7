-- The claims about the walk hold: they are proved in `ClaimLaws.antt`.
use Rattle.composition_arbitration.proofs.ClaimLaws.{claims}
use Rattle.composition_arbitration.proofs.walk_claims.Goals as goal

pub returns : goal.returns
returns c = claims
