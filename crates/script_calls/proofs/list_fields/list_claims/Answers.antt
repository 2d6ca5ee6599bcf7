-- `list_claims` meets its contract: the claims are proved as laws.
use Rattle.script_calls.proofs.ListLaws.{claims}
use Rattle.script_calls.proofs.list_fields.list_claims.Goals as goal

pub returns : goal.returns
returns c = claims
