-- `replay_claims` meets its contract: the claims are proved as laws.
use Rattle.replay.proofs.FoldLaws.{claims}
use Rattle.replay.proofs.lines.replay_claims.Goals as goal

pub returns : goal.returns
returns c = claims
