-- `text_claims` meets its contract: the claims are proved as laws.
use Rattle.answer_text.proofs.ClaimLaws.{claims}
use Rattle.answer_text.proofs.put.text_claims.Goals as goal

pub returns : goal.returns
returns c = claims
