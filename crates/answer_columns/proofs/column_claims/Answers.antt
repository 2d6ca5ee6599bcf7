-- `column_claims` meets its contract: the claims are proved as laws.
use Rattle.answer_columns.proofs.ClaimLaws.{claims}
use Rattle.answer_columns.proofs.column_claims.Goals as goal

pub returns : goal.returns
returns c = claims
