-- The claims about these calls hold: they are proved in `ClaimLaws.antt`.
use Rattle.composition_close.proofs.ClaimLaws.{claims}
use Rattle.composition_close.proofs.close_claims.Goals as goal

pub returns : goal.returns
returns c = claims
