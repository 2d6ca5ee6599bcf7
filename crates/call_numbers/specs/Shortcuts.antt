-- The calls that register system shortcuts, as numbers 17 to 19 with their fields.
use Rattle.records.specs.declared.shortcut.SurfaceShortcutRegistration.{SurfaceShortcutRegistration}
use Rattle.std.specs.Prelude.{ℕ, cond, List, [], ◌∷◌, ◌++◌, eqb, get_or, Option}
use Rattle.calls.specs.declared.call.ShortcutCall.{ShortcutCall}
use Rattle.calls.specs.declared.call.ShortcutCall.TheVariants.{RegisterSet, RegisterOne, SetMask}
use Rattle.call_fields.specs.Groups.{maybe_of, maybe_numbers as maybe_fields}
use Rattle.call_numbers.specs.Words.{handle_numbers, handle_at}

-- flag, class mask, scope, priority
abbrev pub maybe_numbers : Option SurfaceShortcutRegistration → List ℕ
maybe_numbers o =
    (maybe_fields o).present ∷ (maybe_fields o).registration.class_mask ∷ (maybe_fields o).registration.scope
    ∷ (maybe_fields o).registration.priority ∷ []

abbrev pub maybe_at : List ℕ → Option SurfaceShortcutRegistration
maybe_at l =
    maybe_of (record {
      present = get_or l 3 0;
      registration = record { class_mask = get_or l 4 0; scope = get_or l 5 0; priority = get_or l 6 0 };
    })

unfoldable pub shortcut_numbers : ShortcutCall → List ℕ
shortcut_numbers (RegisterSet a) = 17 ∷ handle_numbers a.handle ++ a.revision ∷ []
shortcut_numbers (RegisterOne a) = 18 ∷ handle_numbers a.surface ++ maybe_numbers a.registration ++ a.revision ∷ []
shortcut_numbers (SetMask a) = 19 ∷ handle_numbers a.surface ++ a.class_mask ∷ a.revision ∷ []

-- the call of a number; any past the last is read as the last
unfoldable pub shortcut_at : List ℕ → ShortcutCall
shortcut_at l =
    cond (eqb (get_or l 0 0) 17) (RegisterSet (record { handle = handle_at l 1; revision = get_or l 3 0 }))
    (cond (eqb (get_or l 0 0) 18)
    (RegisterOne (record { surface = handle_at l 1; registration = maybe_at l; revision = get_or l 7 0 }))
    (SetMask (record { surface = handle_at l 1; class_mask = get_or l 3 0; revision = get_or l 4 0 })))
