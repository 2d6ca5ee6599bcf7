-- `router_claims` meets its contract: both claims compute.
use mathlib.Core.Path.{refl}
use Rattle.lists.specs.Tables.{entries_of, packed}
use Rattle.answer_text.specs.Digests.{mix, digest_of}
use Rattle.answer_numbers.specs.Numbers.{each}
use Rattle.router_dump.proofs.router.router_claims.Goals as goal

pub returns : goal.returns
unfolding entries_of packed mix digest_of each
returns c = record { first_dump = refl; first_digest = refl }
