-- A slot table as numbers. What its slots hold stands elsewhere, by slot index.
use Rattle.std.specs.Prelude.{ℕ, cond, List, [], ◌∷◌, ◌++◌}
use Rattle.handles.specs.Slots.{slot_at, used_places}
use Rattle.handles.specs.WellFormed.{free_list}
use Rattle.handles.specs.declared.arena.Arena.{Arena}
use Rattle.handles.specs.declared.arena.Slot.{Slot}
use Rattle.answer_numbers.specs.Numbers.{Number, plain, flag, list_numbers, indices}

-- a slot without its value: its generation, its filled flag
abbrev pub slot_head : Slot → List Number
slot_head s = plain s.generation ∷ flag s.filled ∷ []

-- a slot and, if it is filled, its value
abbrev pub slot_numbers : List Number → Slot → List Number
slot_numbers value s = slot_head s ++ cond s.filled value []

-- the used slots, the value of each by its index
abbrev pub used_slots : (ℕ → List Number) → Arena → List Number
used_slots value a = list_numbers (λ i. slot_numbers (value i) (slot_at a i)) (indices (used_places a))

-- one index
abbrev pub index_numbers : ℕ → List Number
index_numbers i = plain i ∷ []

-- the indices of the free slots, the one used next last
abbrev pub free_numbers : Arena → List Number
free_numbers a = list_numbers index_numbers (free_list a)

-- what stands behind the slots: the free list and the live count
abbrev pub arena_end : Arena → List Number
arena_end a = free_numbers a ++ (plain a.live ∷ [])

-- an arena: the used slots with their values, the free list, the live count
abbrev pub arena_numbers : (ℕ → List Number) → Arena → List Number
arena_numbers value a = used_slots value a ++ arena_end a

-- the arena of the windows: a window has no value
abbrev pub windows_numbers : Arena → List Number
windows_numbers a = arena_numbers (λ i. []) a
