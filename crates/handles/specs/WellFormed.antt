-- RULES.md, Damage: what makes a slot table sound. Each part of the rule is a definition of its own.
use Rattle.std.specs.Prelude.{ℕ, Bool, cond, not, ◌&&◌, List, length, take, get_or, ltb, leb, eqb}
use Rattle.lists.specs.Lists.{keep, all}
use Rattle.lists.specs.Below.{all_below, count_below}
use Rattle.handles.specs.declared.arena.Slot.{Slot}
use Rattle.handles.specs.declared.arena.Arena.{Arena}
use Rattle.handles.specs.Slots.{no_slot}

-- a stored count exceeds neither its table nor the configured limit
abbrev pub is_within : ℕ → ℕ → Bool
is_within limit n = leb n 64 && leb n limit

-- no count exceeds its table or the limit
unfoldable pub counts_within : Arena → ℕ → Bool
counts_within a limit = is_within limit a.used && (is_within limit a.freed && is_within limit a.live)

-- a slot's generation is not 0
abbrev pub has_generation : List Slot → ℕ → Bool
has_generation l i = not (eqb (get_or l i no_slot).generation 0)

-- no used slot's generation is 0
abbrev pub generations_set : Arena → Bool
generations_set a = all_below (has_generation a.slots) a.used

-- a slot is filled
abbrev pub is_filled : List Slot → ℕ → Bool
is_filled l i = (get_or l i no_slot).filled

-- the live count is the number of filled slots
abbrev pub live_is_filled : Arena → Bool
live_is_filled a = eqb a.live (count_below (is_filled a.slots) a.used)

-- the indices of the slots that were freed, in their order
abbrev pub free_list : Arena → List ℕ
free_list a = take a.freed a.free

-- an index is of a used slot
abbrev pub is_below : ℕ → ℕ → Bool
is_below used i = ltb i used

-- how often an index stands in a list
unfoldable pub occurrences_of : ℕ → List ℕ → ℕ
occurrences_of i l = length (keep (eqb i) l)

-- how often a slot stands in the free list: never where it is filled, once where it is empty
abbrev pub entries_due : Slot → ℕ
entries_due s = cond s.filled 0 1

-- a slot stands in the free list as often as is due
abbrev pub stands_as_due : List Slot → List ℕ → ℕ → Bool
stands_as_due l free i = eqb (occurrences_of i free) (entries_due (get_or l i no_slot))

-- the free list is the empty slots, each once
abbrev pub free_is_empty : Arena → Bool
free_is_empty a = all (is_below a.used) (free_list a) && all_below (stands_as_due a.slots (free_list a)) a.used

-- the table is sound for a limit
unfoldable pub well_formed : Arena → ℕ → Bool
well_formed a limit = counts_within a limit && (generations_set a && (live_is_filled a && free_is_empty a))
