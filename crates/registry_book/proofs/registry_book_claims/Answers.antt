-- The claims hold: they are proved in `ClaimLaws.antt`.
use Rattle.registry_book.proofs.ClaimLaws.{claims}
use Rattle.registry_book.proofs.registry_book_claims.Goals as goal

pub returns : goal.returns
returns c = claims
