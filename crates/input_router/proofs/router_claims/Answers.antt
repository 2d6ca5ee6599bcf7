-- The claims about the router hold: they are proved in `ClaimLaws.antt`.
use Rattle.input_router.proofs.ClaimLaws.{claims}
use Rattle.input_router.proofs.router_claims.Goals as goal

pub returns : goal.returns
returns c = claims
