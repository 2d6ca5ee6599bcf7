-- An allocation of a slot that was never used: where the free list is empty every used slot is filled, and the next one joins them.
use Prim.Native.Nat.{ℕ, ◌+◌, ◌<◌, ◌≤◌}
use mathlib.Core.Path.{◌≡◌, refl, sym, ap, ◌∙◌}
use mathlib.Core.Bool.{true}
use mathlib.Core.List.{[]}
use native.Mathlib.Omega.{arith}
use lib.ListN.{length, take}
use lib.Dec.{ltb}
use borrow.Author.Tests.{ltb-true, ltb-false, lt-ltb, le-ltb, ne_eqb}
use Rattle.lists.specs.Lists.{all}
use Rattle.lists.proofs.ListLaws.{by_test}
use Rattle.lists.proofs.BelowLaws.{count_same, count_more}
use Rattle.handles.specs.declared.GenerationalHandle.{GenerationalHandle}
use Rattle.handles.specs.declared.arena.Slot.{Slot}
use Rattle.handles.specs.declared.arena.Arena.{Arena}
use Rattle.handles.specs.Handles.{handle_of}
use Rattle.handles.specs.Slots.{slot_of, slot_at, lookup_of, from_unused}
use Rattle.handles.specs.WellFormed.{is_filled, is_below, free_list, occurrences_of, entries_due}
use Rattle.handles.specs.Claims.{Issues, is_live}
use Rattle.handles.proofs.OccurrenceLaws.{occurs_none}
use Rattle.handles.proofs.SoundLaws.{Sound}
use Rattle.handles.proofs.SlotLaws.{by_same, slot_other, slot_changed}
use Rattle.handles.proofs.LookupLaws.{LiveAt, issued_valid, live_when, live_facts, dead_when, same_lookup}

-- the next index is the only one that comes below the bound
pub below_next : (i n : ℕ) → (i ≡ n → ⊥) → ltb i (n + 1) ≡ ltb i n
below_next i n d = by_test (ltb i n)
    (λ t. lt-ltb i (n + 1) (up (ltb-true i n t)) ∙ sym t)
    (λ t. le-ltb i (n + 1) (over (ltb-false i n t)) ∙ sym t)
  where
    up : i < n → i < n + 1
    up h = omega arith

    over : n ≤ i → n + 1 ≤ i
    over h = omega arith

module _ (a : Arena) (limit : ℕ) (s : Sound a limit) (first : ℕ) (named : first ≡ 0 → ⊥) (within : a.used < length a.slots) (room : a.used < 64) where
  -- the issued slot
  abbrev issued : Slot
  issued = slot_of first true

  abbrev next : Arena
  next = (from_unused a first).arena

  issued_there : slot_at next a.used ≡ issued
  issued_there = slot_changed a.slots a.used issued within

  other : (j : ℕ) → (j ≡ a.used → ⊥) → slot_at next j ≡ slot_at a j
  other j n = slot_other a.slots a.used issued j n

  apart : {j : ℕ} → j < a.used → j ≡ a.used → ⊥
  apart {j} l e = omega arith

  lower : {j : ℕ} → j < a.used + 1 → (j ≡ a.used → ⊥) → j < a.used
  lower {j} l n = omega arith

  pub unused_sound : a.freed ≡ 0 → a.used ≡ a.live → a.live < limit → Sound next limit
  unused_sound empty full below =
      let none : free_list a ≡ [] = ap (λ (n : ℕ). take n a.free) empty in
      record {
        within_limit = record {
          used = record { table = omega arith; configured = omega arith };
          freed = s.within_limit.freed;
          live = record { table = omega arith; configured = omega arith };
        };
        aged = λ j l. by_same j a.used (λ e. rw (e, issued_there, ne_eqb first 0 named)) (λ n. rw (other j n) (s.aged j (lower l n)));
        counted = ap (λ (n : ℕ). n + 1) (s.counted ∙ count_same (is_filled a.slots) (is_filled next.slots) a.used (λ j l. ap (λ (x : Slot). x.filled) (sym (other j (apart l)))))
            ∙ sym (count_more (is_filled next.slots) a.used ∙ rw (ap (λ (x : Slot). x.filled) issued_there));
        below = ap (all (is_below (a.used + 1))) none;
        once = λ j l. by_same j a.used
            (λ e. rw (e, issued_there) (ap (occurrences_of a.used) none ∙ occurs_none a.used))
            (λ n. s.once j (lower l n) ∙ ap entries_due (sym (other j n)));
      }

  pub unused_issues : Issues a (from_unused a first)
  unused_issues = record {
    was_not = λ e. apart (live_facts a (from_unused a first).handle e).used refl;
    is = live_when next (from_unused a first).handle (record {
      valid = issued_valid a.used first room named;
      used = omega arith;
      filled = ap (λ (x : Slot). x.filled) issued_there;
      same = ap (λ (x : Slot). x.generation) issued_there;
    });
    others = λ h n. by_same h.index a.used
        (λ e. dead_when next h (λ f. n (λ k. handle_of (e k) (generation h e f k))) ∙ sym (dead_when a h (λ f. apart f.used e)))
        (λ m. ap is_live (same h m));
    used_others = λ h n u. same h (apart u);
  }
    where
      generation : (h : GenerationalHandle) → h.index ≡ a.used → LiveAt next h → h.generation ≡ first
      generation h e f = sym f.same ∙ ap (λ (j : ℕ). (slot_at next j).generation) e ∙ ap (λ (x : Slot). x.generation) issued_there

      same : (h : GenerationalHandle) → (h.index ≡ a.used → ⊥) → lookup_of next h ≡ lookup_of a h
      same h m = same_lookup a next h (below_next h.index a.used m) (other h.index m)
