-- The panels as numbers, each with its registrations.
use Rattle.std.specs.Prelude.{ℕ, Bool, List, [], ◌∷◌, ◌++◌, eqb, get_or}
use Rattle.lists.specs.Lists.{keep}
use Rattle.lists.specs.Tables.{entries_of}
use Rattle.records.specs.Shortcuts.{shortcuts, Shortcuts}
use Rattle.records.specs.Surfaces.{no_surface, SurfaceTable}
use Rattle.records.specs.declared.shortcut.ShortcutScope.{ShortcutScope}
use Rattle.records.specs.declared.shortcut.ShortcutScope.TheVariants.{View, Window, Session}
use Rattle.records.specs.declared.shortcut.SlotShortcut.{SlotShortcut}
use Rattle.records.specs.declared.surface.SurfaceRecord.{SurfaceRecord}
use Rattle.answer_numbers.specs.Groups.{descriptor_numbers}
use Rattle.answer_numbers.specs.Numbers.{Number, plain, signed, list_numbers}
use Rattle.answer_numbers.specs.Arenas.{arena_numbers}

-- ShortcutScope: View 0, Window 1, Session 2
abbrev pub scope_number : ShortcutScope → ℕ
scope_number View = 0
scope_number Window = 1
scope_number Session = 2

-- a registration: mask, scope, priority
abbrev pub registration_numbers : SlotShortcut → List Number
registration_numbers e =
    plain e.registration.class_mask ∷ plain (scope_number e.registration.scope)
    ∷ signed e.registration.priority ∷ []

-- whether a registration is of the panel in a slot
abbrev pub is_of_slot : ℕ → SlotShortcut → Bool
is_of_slot slot e = eqb e.slot slot

-- the registrations of the panel in a slot, in the order given
abbrev pub registrations_numbers : ℕ → Shortcuts → List Number
registrations_numbers slot t = list_numbers registration_numbers (keep (is_of_slot slot) (entries_of shortcuts t))

-- a panel: D, its registrations
abbrev pub panel_numbers : ℕ → SurfaceRecord → Shortcuts → List Number
panel_numbers slot r t = descriptor_numbers r.descriptor ++ registrations_numbers slot t

-- the arena of the panels
abbrev pub panels_numbers : SurfaceTable → Shortcuts → List Number
panels_numbers s t = arena_numbers (λ i. panel_numbers i (get_or s.records i no_surface) t) s.arena
