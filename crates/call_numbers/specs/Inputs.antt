-- The calls on focus, captures, compositions and suspends, as numbers 8 to 15 with their fields, and the release of a
-- device's captures, 16.
use Rattle.std.specs.Prelude.{ℕ, cond, List, [], ◌∷◌, ◌++◌, eqb, get_or}
use Rattle.calls.specs.declared.arguments.DeviceArguments.{DeviceArguments}
use Rattle.calls.specs.declared.arguments.HandleArguments.{HandleArguments}
use Rattle.calls.specs.declared.arguments.PointerArguments.{PointerArguments}
use Rattle.calls.specs.declared.call.InputCall.{InputCall}
use Rattle.calls.specs.declared.call.InputCall.TheVariants.{SetFocus, CapturePointer, CapturePointerFor, ReleasePointer, ReleasePointerFor, BeginIme, EndIme, SuspendViewInput}
use Rattle.call_fields.specs.Narrow.{within}
use Rattle.call_numbers.specs.Words.{handle_numbers, handle_at, optional_numbers, optional_at, pointer_numbers, pointer_at}

-- a handle and the expected revision
abbrev pub revision_numbers : HandleArguments → List ℕ
revision_numbers a = handle_numbers a.handle ++ a.revision ∷ []

abbrev pub revision_at : List ℕ → HandleArguments
revision_at l = record { handle = handle_at l 1; revision = get_or l 3 0 }

-- a pointer, its panel and the expected revision
abbrev pub named_numbers : PointerArguments → List ℕ
named_numbers a = pointer_numbers a.pointer ++ handle_numbers a.surface ++ a.revision ∷ []

abbrev pub named_at : List ℕ → PointerArguments
named_at l = record { pointer = pointer_at l 1; surface = handle_at l 4; revision = get_or l 6 0 }

unfoldable pub input_numbers : InputCall → List ℕ
input_numbers (SetFocus a) = 8 ∷ handle_numbers a.view ++ optional_numbers a.surface ++ a.revision ∷ []
input_numbers (CapturePointer a) = 9 ∷ revision_numbers a
input_numbers (CapturePointerFor a) = 10 ∷ named_numbers a
input_numbers (ReleasePointer a) = 11 ∷ revision_numbers a
input_numbers (ReleasePointerFor a) = 12 ∷ named_numbers a
input_numbers (BeginIme a) = 13 ∷ revision_numbers a
input_numbers (EndIme a) = 14 ∷ revision_numbers a
input_numbers (SuspendViewInput a) = 15 ∷ revision_numbers a

-- the call of a number; any past the last is read as the last
unfoldable pub input_at : List ℕ → InputCall
input_at l =
    cond (eqb (get_or l 0 0) 8)
    (SetFocus (record { view = handle_at l 1; surface = optional_at l 3; revision = get_or l 6 0 }))
    (cond (eqb (get_or l 0 0) 9) (CapturePointer (revision_at l))
    (cond (eqb (get_or l 0 0) 10) (CapturePointerFor (named_at l))
    (cond (eqb (get_or l 0 0) 11) (ReleasePointer (revision_at l))
    (cond (eqb (get_or l 0 0) 12) (ReleasePointerFor (named_at l))
    (cond (eqb (get_or l 0 0) 13) (BeginIme (revision_at l))
    (cond (eqb (get_or l 0 0) 14) (EndIme (revision_at l))
    (SuspendViewInput (revision_at l))))))))

abbrev pub device_numbers : DeviceArguments → List ℕ
device_numbers a = 16 ∷ a.device ∷ a.device_generation ∷ []

abbrev pub device_at : List ℕ → DeviceArguments
device_at l = record { device = get_or l 1 0; device_generation = within 4294967296 (get_or l 2 0) }
