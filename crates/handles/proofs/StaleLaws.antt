-- A released handle stays stale: its slot is past its generation, which no allocation lowers and no release but raises.
use Prim.Native.Nat.{ℕ, ◌+◌, ◌<◌}
use mathlib.Core.Path.{◌≡◌}
use mathlib.Core.Bool.{true, false}
use mathlib.Core.List.{List, [], ◌∷◌}
use native.Mathlib.Omega.{arith}
use lib.Dec.{ltb}
use Rattle.lists.proofs.ListLaws.{by_test}
use Rattle.handles.specs.declared.GenerationalHandle.{GenerationalHandle}
use Rattle.handles.specs.declared.arena.Arena.{Arena}
use Rattle.handles.specs.declared.arena.SlotStatus.TheVariants.{Stale}
use Rattle.handles.specs.Handles.{is_valid}
use Rattle.handles.specs.Slots.{slot_of, slot_at, lookup_of, has_room, allocated, from_free, from_unused, last_freed, released}
use Rattle.handles.specs.Claims.{Operation, allocate, release, after_all}
use Rattle.handles.proofs.SlotLaws.{by_same, slot_other, generation_kept}
use Rattle.handles.proofs.LookupLaws.{stale_when, stale_other}
use Rattle.handles.proofs.ReleaseLaws.{Accepted, by_release, vacant_there}

-- the handle's slot is past its generation
pub record Past (h : GenerationalHandle) (a : Arena) : Type 0 where
  pub valid : is_valid h ≡ true
  pub used : h.index < a.used
  pub older : h.generation < (slot_at a h.index).generation

module _ (h : GenerationalHandle) where
  pub past_stale : (a : Arena) → Past h a → lookup_of a h ≡ Stale
  past_stale a p = stale_when a h p.valid p.used (stale_other (slot_at a h.index) h.generation (differ p.older))
    where
      differ : {m n : ℕ} → m < n → n ≡ m → ⊥
      differ {m} {n} l e = omega arith

  past_free : (a : Arena) → Past h a → Past h (from_free a).arena
  past_free a p = record {
    valid = p.valid;
    used = p.used;
    older = rw (generation_kept a.slots (last_freed a) h.index true) p.older;
  }

  past_unused : (a : Arena) (first : ℕ) → Past h a → Past h (from_unused a first).arena
  past_unused a first p = record {
    valid = p.valid;
    used = omega (arith, p.used);
    older = rw (slot_other a.slots a.used (slot_of first true) h.index (apart p.used)) p.older;
  }
    where
      apart : {m n : ℕ} → m < n → m ≡ n → ⊥
      apart {m} {n} l e = omega arith

  past_allocate : (a : Arena) (first : ℕ) → Past h a → Past h (allocated a first).arena
  unfolding allocated
  past_allocate a first p = by_test (has_room a.used a.freed a.live)
      (λ t. by_test (ltb 0 a.freed) (λ u. rw (t, u) (past_free a p)) (λ u. rw (t, u) (past_unused a first p)))
      (λ t. rw t p)

  past_release : (a : Arena) (g : GenerationalHandle) → Past h a → Past h (released a g).arena
  past_release a g p = by_release a g
      (λ k n. rw k p)
      (λ c. rw c.next (record {
        valid = p.valid;
        used = p.used;
        older = by_same h.index g.index
            (λ e. rw (e, vacant_there a g c) (raise (rw e at p.older) c.live.same))
            (λ n. rw (slot_other a.slots g.index (slot_of (g.generation + 1) false) h.index n) p.older);
      }))
    where
      raise : {k m n : ℕ} → k < m → m ≡ n → k < n + 1
      raise {k} {m} {n} l e = omega arith

  past_all : (l : List Operation) (a : Arena) → Past h a → Past h (after_all l a)
  past_all [] a p = p
  past_all (allocate first ∷ l) a p = past_all l (allocated a first).arena (past_allocate a first p)
  past_all (release g ∷ l) a p = past_all l (released a g).arena (past_release a g p)

  -- the release itself puts the slot past its generation
  pub past_released : (a : Arena) → Accepted a h → Past h (released a h).arena
  past_released a c = rw c.next (record {
    valid = c.live.valid;
    used = c.live.used;
    older = rw (vacant_there a h c) (more h.generation);
  })
    where
      more : (n : ℕ) → n < n + 1
      more n = omega arith

  pub stays : (a : Arena) (l : List Operation) → Accepted a h → lookup_of (after_all l (released a h).arena) h ≡ Stale
  stays a l c = past_stale (after_all l (released a h).arena) (past_all l (released a h).arena (past_released a c))
