-- The two lists of a line with a number out of its range read as 0: with these the claims speak of every line.
use Rattle.std.specs.Prelude.{ℕ, zero, suc, ◌+◌, ◌*◌, List, [], ◌∷◌, ◌++◌, map, pos}
use Rattle.std.specs.Option.{unwrap_or}
use Rattle.handles.specs.Handles.{handle_of}
use Rattle.handles.specs.declared.GenerationalHandle.{GenerationalHandle}
use Rattle.records.specs.declared.shortcut.SurfaceShortcutRegistration.{SurfaceShortcutRegistration}
use Rattle.script.specs.Ranges.{unsigned_of}
use Rattle.script.specs.Lines.{Fields}
use Rattle.script_calls.specs.Groups.{number_at, u32_at, u64_at}
use Rattle.script_calls.specs.ListFields.{i16_at, registration_of}

-- the numbers below n, in their order
unfoldable pub below : ℕ → List ℕ
below zero = []
below (suc n) = below n ++ (n ∷ [])

-- H: index, generation
abbrev pub handle_value : Fields → ℕ → GenerationalHandle
handle_value fs i = handle_of (unwrap_or (u32_at fs i) 0) (unwrap_or (u32_at fs (i + 1)) 0)

-- a registration: mask, scope, priority
abbrev pub registration_value : Fields → ℕ → SurfaceShortcutRegistration
registration_value fs i =
    registration_of (unwrap_or (u64_at fs i) 0) (unwrap_or (unsigned_of 2 (number_at fs (i + 1))) 0)
    (unwrap_or (i16_at fs (i + 2)) (pos 0))

-- n handles from an index on, each of two fields
abbrev pub handle_values : Fields → ℕ → ℕ → List GenerationalHandle
handle_values fs i n = map (λ k. handle_value fs (i + 2 * k)) (below n)

-- n registrations from an index on, each of three fields
abbrev pub registration_values : Fields → ℕ → ℕ → List SurfaceShortcutRegistration
registration_values fs i n = map (λ k. registration_value fs (i + 3 * k)) (below n)
