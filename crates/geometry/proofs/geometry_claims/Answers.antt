-- `geometry_claims` meets its contract: the claims are proved as laws of the definitions.
use Rattle.geometry.proofs.Claims.{claims}
use Rattle.geometry.proofs.geometry_claims.Goals as goal

pub returns : goal.returns
returns c = claims
