-- The claims hold: their laws are put together in one record.
use Rattle.handles.proofs.ClaimLaws.{claims}
use Rattle.handles.proofs.arena_claims.Goals as goal

pub returns : goal.returns
returns c = claims
