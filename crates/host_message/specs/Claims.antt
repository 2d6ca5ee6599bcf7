-- No list of registrations has two forms, and every list has one.
use Rattle.std.specs.Prelude.{ℕ, ◌<◌, ◌≡◌, true, length, get_or}
use Rattle.std.specs.Int.{w16}
use Rattle.std.proofs.Common.{SFits}
use Rattle.lists.specs.Below.{all_below}
use Rattle.composition_shortcuts.specs.Registrations.{Registrations}
use Rattle.composition_shortcuts.specs.Register.{registration_of as of_mask}
use Rattle.host_message.specs.declared.registrations.RegistrationsNumbers.{RegistrationsNumbers}
use Rattle.host_message.specs.Registrations.{registrations_of, registrations_numbers, entry_form}

pub record RegistrationClaims : Type 0 where
  -- registrations are read back from their numbers
  pub back : (r : Registrations)
      → ((i : ℕ) → i < length r.items → SFits w16 (get_or r.items i (of_mask 0)).priority)
      → registrations_of (registrations_numbers r) ≡ r
  -- what is accepted is exactly what the registrations read from it are written as
  pub forth : (w : RegistrationsNumbers) → length w.items ≡ 64 → all_below (entry_form w) 64 ≡ true
      → registrations_numbers (registrations_of w) ≡ w
  -- so two forms of one list are the same numbers
  pub one_form : (v w : RegistrationsNumbers) → length v.items ≡ 64 → length w.items ≡ 64
      → all_below (entry_form v) 64 ≡ true → all_below (entry_form w) 64 ≡ true → registrations_of v
      ≡ registrations_of w → v
      ≡ w
