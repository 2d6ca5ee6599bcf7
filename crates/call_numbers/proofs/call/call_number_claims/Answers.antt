-- `call_number_claims` holds: it is proved in `CallLaws.antt`.
use Rattle.call_numbers.proofs.CallLaws.{call_number_claims}
use Rattle.call_numbers.proofs.call.call_number_claims.Goals as goal

pub returns : goal.returns
returns c = call_number_claims
