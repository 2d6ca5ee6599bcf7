-- The claims about the hit test hold: they are proved in `ClaimLaws.antt`.
use Rattle.composition_hits.proofs.ClaimLaws.{claims}
use Rattle.composition_hits.proofs.hit_claims.Goals as goal

pub returns : goal.returns
returns c = claims
