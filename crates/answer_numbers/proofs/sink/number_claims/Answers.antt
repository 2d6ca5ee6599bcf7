-- `number_claims` meets its contract: the claims are proved as laws.
use Rattle.answer_numbers.proofs.DigestSinkLaws.{claims}
use Rattle.answer_numbers.proofs.sink.number_claims.Goals as goal

pub returns : goal.returns
returns c = claims
