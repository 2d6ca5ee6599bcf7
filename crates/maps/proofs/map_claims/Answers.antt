-- The claims about the maps hold: they are proved in `ClaimLaws.antt`.
use Rattle.maps.proofs.ClaimLaws.{claims}
use Rattle.maps.proofs.map_claims.Goals as goal

pub returns : goal.returns
returns c = claims
