-- The claims about events hold: they are proved in `ClaimLaws.antt`.
use Rattle.input_events.proofs.ClaimLaws.{claims}
use Rattle.input_events.proofs.event_claims.Goals as goal

pub returns : goal.returns
returns c = claims
