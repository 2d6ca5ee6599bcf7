-- `line_length_claims` meets its contract: the claims are proved as laws.
use Rattle.line_lengths.proofs.LineLaws.{claims}
use Rattle.line_lengths.proofs.line_length_claims.Goals as goal

pub returns : goal.returns
returns c = claims
