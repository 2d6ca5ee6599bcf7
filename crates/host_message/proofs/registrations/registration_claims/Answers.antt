-- `registration_claims` holds: it is proved in `RegistrationLaws.antt`.
use Rattle.host_message.proofs.RegistrationLaws.{registration_claims}
use Rattle.host_message.proofs.registrations.registration_claims.Goals as goal

pub returns : goal.returns
returns c = registration_claims
