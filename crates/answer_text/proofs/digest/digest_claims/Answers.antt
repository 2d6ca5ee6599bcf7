-- `digest_claims` meets its contract: the claims are proved as laws.
use Rattle.answer_text.proofs.DigestLaws.{claims}
use Rattle.answer_text.proofs.digest.digest_claims.Goals as goal

pub returns : goal.returns
returns c = claims
