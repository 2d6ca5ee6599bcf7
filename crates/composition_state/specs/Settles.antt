-- How a call leaves the registry, for every call that settles a refusal or a change.
use Rattle.records.specs.Errors.{Outcome}
use Rattle.std.specs.Prelude.{◌+◌, ◌≡◌, Ok, Err}
use Rattle.records.specs.declared.error.CompositionError.{CompositionError}
use Rattle.records.specs.declared.error.CompositionError.TheVariants.{RevisionExhausted}
use Rattle.composition_state.specs.declared.registry.CompositionRegistry.{CompositionRegistry}

-- a refusal other than 21 changes nothing, and an accepted change raises the revision by exactly 1
pub record Settles (before : CompositionRegistry) (outcome : Outcome) (after : CompositionRegistry) : Type 0 where
  pub refused : (e : CompositionError) → outcome ≡ Err e → (e ≡ RevisionExhausted → ⊥) → after ≡ before
  pub accepted : outcome ≡ Ok tt → after.revision ≡ before.revision + 1
