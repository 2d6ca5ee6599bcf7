-- The claims about a counter as memory hold: they are proved in `ClaimLaws.antt`.
use Rattle.counter_memory.proofs.ClaimLaws.{claims}
use Rattle.counter_memory.proofs.memory_claims.Goals as goal

pub returns : goal.returns
returns c = claims
