-- `call_form_claims` holds: it is proved in `FormLaws.antt`.
use Rattle.call_forms.proofs.FormLaws.{call_form_claims}
use Rattle.call_forms.proofs.call.call_form_claims.Goals as goal

pub returns : goal.returns
returns c = call_form_claims
