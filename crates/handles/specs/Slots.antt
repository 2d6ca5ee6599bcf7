-- The slot table: what each of its calls answers.
use Rattle.std.specs.Prelude.{Result, Ok, Err, ℕ, ◌+◌, ◌-◌, ltb, leb, eqb, Bool, true, false, cond, not, ◌&&◌, ◌||◌}
use Rattle.std.specs.Prelude.{List, [], ◌∷◌, ◌++◌, get_or, set, replicate}
use Rattle.lists.specs.Below.{all_below, iter_below}
use Rattle.lists.specs.declared.table.Table.{Table}
use Rattle.lists.specs.Tables.{Shape, table}
use Rattle.handles.specs.Handles.{handle_of, invalid_handle, is_valid}
use Rattle.handles.specs.declared.GenerationalHandle.{GenerationalHandle}
use Rattle.handles.specs.declared.arena.Slot.{Slot}
use Rattle.handles.specs.declared.arena.Arena.{Arena}
use Rattle.handles.specs.declared.arena.Allocation.{Allocation}
use Rattle.handles.specs.declared.arena.ReleaseAnswer.{ReleaseAnswer}
use Rattle.handles.specs.declared.arena.SlotStatus.{SlotStatus}
use Rattle.handles.specs.declared.arena.SlotStatus.TheVariants.{Live, Invalid, Stale}
use Rattle.handles.specs.declared.arena.ReleaseError.{ReleaseError}
use Rattle.handles.specs.declared.arena.ReleaseError.TheVariants as error

-- the slot of a generation, filled or empty
abbrev pub slot_of : ℕ → Bool → Slot
slot_of g f = record { generation = g; filled = f }

-- a slot that was never used
abbrev pub no_slot : Slot
no_slot = slot_of 0 false

-- the table of its five parts: slots, used, free, freed, live
abbrev pub arena_of : List Slot → ℕ → List ℕ → ℕ → ℕ → Arena
arena_of s u f n l = record { slots = s; used = u; free = f; freed = n; live = l }

-- nothing was ever issued
unfoldable pub empty_arena : Arena
empty_arena = arena_of (replicate 64 no_slot) 0 (replicate 64 0) 0 0

-- the slot with an index
abbrev pub slot_at : Arena → ℕ → Slot
slot_at a i = get_or a.slots i no_slot

-- a used slot is live to the generation that it is filled with, and stale to any other
abbrev pub status_of : Slot → ℕ → SlotStatus
status_of s g = cond (s.filled && eqb s.generation g) Live Stale

-- a handle that no slot could have issued, or of a slot never used, is invalid; else its slot decides
unfoldable pub lookup_of : Arena → GenerationalHandle → SlotStatus
lookup_of a h = cond (is_valid h && ltb h.index a.used) (status_of (slot_at a h.index) h.generation) Invalid

-- a slot is free or was never used, and the counts are within the table; a registry within its limits has passed the
-- damage test and has room, so the refused case is never met by its calls
unfoldable pub has_room : ℕ → ℕ → ℕ → Bool
has_room used freed live = leb used 64 && (leb freed 64 && (ltb live 64 && (ltb 0 freed || ltb used 64)))

-- the index that was freed last
abbrev pub last_freed : Arena → ℕ
last_freed a = get_or a.free (a.freed - 1) 0

-- the slot freed last is issued, with its own generation
abbrev pub from_free : Arena → Allocation
from_free a =
    let i = last_freed a in
    let g = (slot_at a i).generation in
    record {
      handle = handle_of i g;
      arena = arena_of (set a.slots i (slot_of g true)) a.used a.free (a.freed - 1) (a.live + 1);
    }

-- the next slot never used is issued, with the first generation
abbrev pub from_unused : Arena → ℕ → Allocation
from_unused a first =
    record {
      handle = handle_of a.used first;
      arena = arena_of (set a.slots a.used (slot_of first true)) (a.used + 1) a.free a.freed (a.live + 1);
    }

-- the slot freed last, else the next never used; without room no handle, and nothing changes
unfoldable pub allocated : Arena → ℕ → Allocation
allocated a first =
    cond (has_room a.used a.freed a.live) (cond (ltb 0 a.freed) (from_free a) (from_unused a first))
    (record { handle = invalid_handle; arena = a })

-- whether a release is accepted, or why it is refused
abbrev pub ReleaseOutcome : Type 0
ReleaseOutcome = Result (Unit {0}) ReleaseError

-- a release that changes nothing
abbrev pub refused : ReleaseError → Arena → ReleaseAnswer
refused e a = record { outcome = Err e; arena = a }

-- the slot is empty, one generation on, and last in the free list
abbrev pub emptied : Arena → GenerationalHandle → Arena
emptied a h =
    arena_of (set a.slots h.index (slot_of (h.generation + 1) false)) a.used
    (set a.free a.freed h.index) (a.freed + 1) (a.live - 1)

-- a live handle is released, unless its generation is the last; a free list that is full or a live count of 0 is
-- refused too, which is never met: the damage test has counted the live slots and the free list before
abbrev pub released_live : Arena → GenerationalHandle → ReleaseAnswer
released_live a h =
    cond (eqb h.generation 4294967295) (refused error.GenerationExhausted a)
    (cond (leb 64 a.freed || eqb a.live 0) (refused error.Invalid a)
    (record { outcome = Ok tt; arena = emptied a h }))

-- what a release does by the status of the handle
abbrev pub released_as : SlotStatus → Arena → GenerationalHandle → ReleaseAnswer
released_as Live a h = released_live a h
released_as Invalid a h = refused error.Invalid a
released_as Stale a h = refused error.Stale a

-- a handle that is not live is refused as its lookup answers
unfoldable pub released : Arena → GenerationalHandle → ReleaseAnswer
released a h = released_as (lookup_of a h) a h

-- the used slots that the table has
abbrev pub used_places : Arena → ℕ
used_places a = cond (ltb a.used 64) a.used 64

-- a filled slot at the last generation
abbrev pub is_exhausted : Slot → Bool
is_exhausted s = s.filled && eqb s.generation 4294967295

-- every filled slot can be released
unfoldable pub none_exhausted : Arena → Bool
none_exhausted a = all_below (λ i. not (is_exhausted (slot_at a i))) (used_places a)

-- the handle of a slot, if it is filled
abbrev pub handles_at : List Slot → ℕ → List GenerationalHandle
handles_at l i = cond (get_or l i no_slot).filled (handle_of i (get_or l i no_slot).generation ∷ []) []

-- the handles of the filled ones of the first n slots, in slot order
unfoldable pub handles_below : List Slot → ℕ → List GenerationalHandle
handles_below l n = iter_below (λ i found. found ++ handles_at l i) n []

-- the handles of the filled used slots, in slot order
abbrev pub live_handles : Arena → List GenerationalHandle
live_handles a = handles_below a.slots (used_places a)

-- a list of handles as a table of 64
abbrev pub handles_table : Shape GenerationalHandle (Table GenerationalHandle 64)
handles_table = table 64 (handle_of 0 0)
