-- The two lists of a line, hits and registrations: a count, then as many groups of fields.
use Rattle.std.specs.Prelude.{ℕ, zero, suc, ◌+◌, ◌*◌, List, [], ◌∷◌, ◌++◌, pos, take, ℤ, Option, None, Some}
use Rattle.std.specs.Option.{option_map, option_and_then}
use Rattle.lists.specs.Lists.{pad}
use Rattle.lists.specs.declared.table.Table.{Table}
use Rattle.handles.specs.Handles.{handle_of}
use Rattle.handles.specs.declared.GenerationalHandle.{GenerationalHandle}
use Rattle.records.specs.declared.shortcut.ShortcutScope.TheVariants.{View}
use Rattle.records.specs.declared.shortcut.SurfaceShortcutRegistration.{SurfaceShortcutRegistration}
use Rattle.records.specs.Traces.{Hits}
use Rattle.call_fields.specs.PanelChoices.{scope_of}
use Rattle.composition_shortcuts.specs.Registrations.{Registrations}
use Rattle.script.specs.Ranges.{unsigned_of, signed_of}
use Rattle.script.specs.Lines.{Fields}
use Rattle.script_calls.specs.Groups.{number_at, u64_at, handle_at}

-- the number at an index as a signed one of 16 bits
abbrev pub i16_at : Fields → ℕ → Option ℤ
i16_at fs i = signed_of 32767 (number_at fs i)

abbrev pub registration_of : ℕ → ℕ → ℤ → SurfaceShortcutRegistration
registration_of mask scope priority = record { class_mask = mask; scope = scope_of scope; priority = priority }

-- a registration: mask, scope, priority
unfoldable pub registration_at : Fields → ℕ → Option SurfaceShortcutRegistration
registration_at fs i =
    option_and_then
    (λ mask. option_and_then (λ scope. option_map (registration_of mask scope) (i16_at fs (i + 2))) (unsigned_of 2 (number_at fs (i + 1))))
    (u64_at fs i)

abbrev pub no_registration : SurfaceShortcutRegistration
no_registration = record { class_mask = 0; scope = View; priority = pos 0 }

-- a list in an array of n: what goes past the array is left out, and z is in the places that the list leaves
unfoldable pub placed : {E : Type 0} → ℕ → E → List E → List E
placed n z l = pad n z (take n l)

-- the list with one entry more, if both are there
abbrev pub with_entry : {E : Type 0} → Option (List E) → Option E → Option (List E)
with_entry None e = None
with_entry (Some l) None = None
with_entry (Some l) (Some e) = Some (l ++ (e ∷ []))

-- the entries at the places below n, in their order: none where one of them is none
unfoldable pub all_read : {E : Type 0} → (ℕ → Option E) → ℕ → Option (List E)
all_read f zero = Some []
all_read f (suc n) = with_entry (all_read f n) (f n)

-- n entries in a table of so many places, if each of them is there: all are counted, and those that fit stand there
abbrev pub listed : {E : Type 0} (size : ℕ) → E → (ℕ → Option E) → ℕ → Option (Table E size)
listed size z f n = option_map (λ l. record { items = placed size z l; len = n }) (all_read f n)

-- n handles from an index on, each of two fields
abbrev pub handles_from : Fields → ℕ → ℕ → Option (List GenerationalHandle)
handles_from fs i n = all_read (λ k. handle_at fs (i + 2 * k)) n

abbrev pub hits_of : ℕ → List GenerationalHandle → Hits
hits_of n l = record { items = placed 16 (handle_of 0 0) l; len = n }

unfoldable pub hits_from : Fields → ℕ → ℕ → Option Hits
hits_from fs i n = option_map (hits_of n) (handles_from fs i n)

-- hits: a count from 0 to 20, then as many handles; the count stands also where it is over the 16 places
unfoldable pub hits_at : Fields → ℕ → Option Hits
hits_at fs i = option_and_then (λ n. hits_from fs (i + 1) n) (unsigned_of 20 (number_at fs i))

-- n registrations from an index on, each of three fields
abbrev pub list_from : Fields → ℕ → ℕ → Option (List SurfaceShortcutRegistration)
list_from fs i n = all_read (λ k. registration_at fs (i + 3 * k)) n

abbrev pub registrations_of : ℕ → List SurfaceShortcutRegistration → Registrations
registrations_of n l = record { items = placed 64 no_registration l; len = n }

unfoldable pub registrations_from : Fields → ℕ → ℕ → Option Registrations
registrations_from fs i n = option_map (registrations_of n) (list_from fs i n)

-- registrations: a count from 0 to 70, then as many; the count stands also where it is over the 64 places
unfoldable pub registrations_at : Fields → ℕ → Option Registrations
registrations_at fs i = option_and_then (λ n. registrations_from fs (i + 1) n) (unsigned_of 70 (number_at fs i))
