-- What holds of every slot table beyond the answers of its calls: what RULES.md, Slots, says of handles.
use Rattle.std.specs.Prelude.{Ok, ℕ, ◌≤◌, ◌<◌, ◌≡◌, Bool, true, false, length}
use mathlib.Core.List.{List, [], ◌∷◌, Memᴰ}
use Rattle.handles.specs.declared.GenerationalHandle.{GenerationalHandle}
use Rattle.handles.specs.declared.arena.Arena.{Arena}
use Rattle.handles.specs.declared.arena.Allocation.{Allocation}
use Rattle.handles.specs.declared.arena.SlotStatus.{SlotStatus}
use Rattle.handles.specs.declared.arena.SlotStatus.TheVariants.{Live, Invalid, Stale}
use Rattle.handles.specs.Slots.{empty_arena, lookup_of, allocated, released, none_exhausted, live_handles}
use Rattle.handles.specs.WellFormed.{well_formed}

-- the arrays have the length of their type, and the table is well-formed for a limit
pub record Proper (a : Arena) (limit : ℕ) : Type 0 where
  pub slots : length a.slots ≡ 64
  pub free : length a.free ≡ 64
  pub formed : well_formed a limit ≡ true

-- a slot can be issued within the limit, with a generation that names it
pub record MayIssue (a : Arena) (limit first : ℕ) : Type 0 where
  pub below : a.live < limit
  pub fits : limit ≤ 64
  pub named : first ≡ 0 → ⊥

-- the answer is Live
abbrev pub is_live : SlotStatus → Bool
is_live Live = true
is_live Invalid = false
is_live Stale = false

-- what an allocation does to handles: one handle becomes live, and no other one
pub record Issues (a : Arena) (n : Allocation) : Type 0 where
  -- the handle was not live, and is
  pub was_not : lookup_of a n.handle ≡ Live → ⊥
  pub is : lookup_of n.arena n.handle ≡ Live
  -- every other handle is live exactly if it was
  pub others : (h : GenerationalHandle) → (h ≡ n.handle → ⊥) → is_live (lookup_of n.arena h) ≡ is_live (lookup_of a h)
  -- of a slot that was used before it keeps its whole answer
  pub used_others : (h : GenerationalHandle) → (h ≡ n.handle → ⊥) → h.index < a.used → lookup_of n.arena h
      ≡ lookup_of a h

-- a later call that changes the table
pub data Operation : Type 0 where
  allocate : ℕ → Operation
  release : GenerationalHandle → Operation

-- the table after a call, accepted or refused
abbrev pub after : Operation → Arena → Arena
after (allocate first) a = (allocated a first).arena
after (release h) a = (released a h).arena

-- the table after a list of calls
abbrev pub after_all : List Operation → Arena → Arena
after_all [] a = a
after_all (o ∷ l) a = after_all l (after o a)

pub record ArenaClaims : Type 0 where
  -- a new table is well-formed, and allocations within the limit and releases keep it so
  pub new_proper : (limit : ℕ) → Proper empty_arena limit
  pub allocate_proper : (a : Arena) (limit first : ℕ) → Proper a limit → MayIssue a limit first
      → Proper (allocated a first).arena limit
  pub release_proper : (a : Arena) (limit : ℕ) (h : GenerationalHandle) → Proper a limit
      → Proper (released a h).arena limit
  -- an allocation within the limit issues a handle
  pub allocate_issues : (a : Arena) (limit first : ℕ) → Proper a limit → MayIssue a limit first
      → Issues a (allocated a first)
  -- a live handle is released, unless its generation is the last
  pub live_released : (a : Arena) (limit : ℕ) (h : GenerationalHandle) → Proper a limit → lookup_of a h ≡ Live
      → (h.generation ≡ 4294967295 → ⊥) → (released a h).outcome ≡ Ok tt
  -- after the shutdown's test every live handle is released
  pub preflight_releases : (a : Arena) (limit : ℕ) (h : GenerationalHandle) → Proper a limit → none_exhausted a ≡ true
      → lookup_of a h ≡ Live → (released a h).outcome ≡ Ok tt
  -- a released handle is stale, and every handle of another slot keeps its answer
  pub released_stale : (a : Arena) (h : GenerationalHandle) → (released a h).outcome ≡ Ok tt
      → lookup_of (released a h).arena h ≡ Stale
  pub release_others : (a : Arena) (h g : GenerationalHandle) → (g.index ≡ h.index → ⊥)
      → lookup_of (released a h).arena g ≡ lookup_of a g
  -- a released handle stays stale whatever follows
  pub stays_stale : (a : Arena) (h : GenerationalHandle) (l : List Operation) → (released a h).outcome ≡ Ok tt
      → lookup_of (after_all l (released a h).arena) h ≡ Stale
  -- the listed handles are the live ones, as many as the live count
  pub live_listed : (a : Arena) (limit : ℕ) (h : GenerationalHandle) → Proper a limit → lookup_of a h ≡ Live
      → Memᴰ h (live_handles a)
  pub listed_live : (a : Arena) (limit : ℕ) (h : GenerationalHandle) → Proper a limit → Memᴰ h (live_handles a)
      → lookup_of a h ≡ Live
  pub listed_count : (a : Arena) (limit : ℕ) → Proper a limit → length (live_handles a) ≡ a.live
