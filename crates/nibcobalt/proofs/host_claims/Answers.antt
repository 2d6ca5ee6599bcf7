-- The claims about the library's functions hold: they are proved in `ClaimLaws.antt`.
use Rattle.nibcobalt.proofs.ClaimLaws.{claims}
use Rattle.nibcobalt.proofs.host_claims.Goals as goal

pub returns : goal.returns
returns c = claims
