-- Registrations as numbers: class mask, scope by its place in the declared order, priority as its two's complement.
use Rattle.std.specs.Prelude.{ℕ, Bool, cond, ◌&&◌, map, eqb, ltb, get_or}
use Rattle.composition_shortcuts.specs.Registrations.{Registrations}
use Rattle.call_fields.specs.declared.groups.RegistrationNumbers.{RegistrationNumbers}
use Rattle.call_fields.specs.Groups.{registration_of, registration_numbers}
use Rattle.host_message.specs.declared.registrations.RegistrationsNumbers.{RegistrationsNumbers}

-- what is read
abbrev pub registrations_of : RegistrationsNumbers → Registrations
registrations_of w = record { items = map registration_of w.items; len = w.len }

-- what is written
abbrev pub registrations_numbers : Registrations → RegistrationsNumbers
registrations_numbers r = record { len = r.len; items = map registration_numbers r.items }

-- an entry within the count has a scope and 16 bits of priority; behind the count stand zeros. A count over 64 stands
-- as it is given
abbrev pub is_entry_form : ℕ → ℕ → RegistrationNumbers → Bool
is_entry_form n i w =
    cond (ltb i n) (ltb w.scope 3 && ltb w.priority 65536)
    (eqb w.class_mask 0 && (eqb w.scope 0 && eqb w.priority 0))

-- the place i of the list
abbrev pub entry_form : RegistrationsNumbers → ℕ → Bool
entry_form w i = is_entry_form w.len i (get_or w.items i (record { class_mask = 0; scope = 0; priority = 0 }))
