-- `registry_claims` meets its contract: both claims compute.
use mathlib.Core.Path.{refl}
use Rattle.lists.specs.Tables.{entries_of, packed}
use Rattle.handles.specs.Slots.{empty_arena}
use Rattle.composition_state.specs.Start.{fresh_registry}
use Rattle.answer_text.specs.Digests.{mix, digest_of}
use Rattle.answer_numbers.specs.Numbers.{each, indices}
use Rattle.registry_dump.proofs.registry.registry_claims.Goals as goal

pub returns : goal.returns
unfolding entries_of packed empty_arena fresh_registry mix digest_of each indices
returns c = record { first_dump = refl; first_digest = refl }
