-- `round_trip_claims` meets its contract: the claims are proved as laws.
use Rattle.line_input.proofs.RoundTrip.{claims}
use Rattle.line_input.proofs.round_trip_claims.Goals as goal

pub returns : goal.returns
returns c = claims
