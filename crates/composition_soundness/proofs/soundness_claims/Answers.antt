-- The claims hold: they are proved in `ClaimLaws.antt`.
use Rattle.composition_soundness.proofs.ClaimLaws.{claims}
use Rattle.composition_soundness.proofs.soundness_claims.Goals as goal

pub returns : goal.returns
returns c = claims
