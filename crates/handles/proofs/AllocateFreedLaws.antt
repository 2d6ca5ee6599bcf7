-- An allocation from the free list: the last entry is an empty used slot, and the list without it is that of the other empty slots.
use Prim.Native.Nat.{ℕ, ◌+◌, ◌-◌, ◌<◌}
use mathlib.Core.Path.{◌≡◌, refl, sym, ap, ◌∙◌}
use mathlib.Core.Bool.{true, false, ◌&&◌}
use mathlib.Core.List.{List}
use native.Mathlib.Omega.{arith}
use lib.ListN.{length, take}
use borrow.Author.Tests.{ltb-true, eqb-false, eq-eqb, ne_eqb, not-true}
use Rattle.lists.specs.Lists.{all}
use Rattle.lists.proofs.ListLaws.{by_test, clash, and_left, and_right, all_take}
use Rattle.lists.proofs.BelowLaws.{count_flip}
use Rattle.handles.specs.declared.GenerationalHandle.{GenerationalHandle}
use Rattle.handles.specs.declared.arena.Slot.{Slot}
use Rattle.handles.specs.declared.arena.Arena.{Arena}
use Rattle.handles.specs.Handles.{handle_of}
use Rattle.handles.specs.Slots.{slot_of, slot_at, status_of, lookup_of, last_freed, from_free}
use Rattle.handles.specs.WellFormed.{is_filled, is_below, free_list, occurrences_of, entries_due}
use Rattle.handles.specs.Claims.{Issues, is_live}
use Rattle.handles.proofs.OccurrenceLaws.{occurs_yes, occurs_no}
use Rattle.handles.proofs.SoundLaws.{Sound}
use Rattle.handles.proofs.SlotLaws.{by_same, slot_other, slot_changed, generation_kept}
use Rattle.handles.proofs.LookupLaws.{issued_valid, live_when, live_facts, stale_empty, stale_other, same_status, same_lookup}

module _ (a : Arena) (limit : ℕ) (slots-whole : length a.slots ≡ 64) (free-whole : length a.free ≡ 64) (s : Sound a limit) (some : 0 < a.freed) where
  -- the free list without its last entry
  abbrev shorter : List ℕ
  shorter = take (a.freed - 1) a.free

  within : a.freed - 1 < length a.free
  within = omega (arith, s.within_limit.freed.table)

  split : free_list a ≡ take ((a.freed - 1) + 1) a.free
  split = let e : a.freed ≡ (a.freed - 1) + 1 = omega arith in ap (λ (n : ℕ). take n a.free) e

  all_split : (all (is_below a.used) shorter && is_below a.used (last_freed a)) ≡ true
  all_split = sym (all_take (is_below a.used) a.free (a.freed - 1) 0 within) ∙ ap (all (is_below a.used)) (sym split) ∙ s.below

  last_used : last_freed a < a.used
  last_used = ltb-true _ _ (and_right (all (is_below a.used) shorter) _ all_split)

  last_once : occurrences_of (last_freed a) (free_list a) ≡ occurrences_of (last_freed a) shorter + 1
  last_once = ap (occurrences_of (last_freed a)) split ∙ occurs_yes (last_freed a) a.free (a.freed - 1) within (eq-eqb (last_freed a) (last_freed a) refl)

  rest_once : (j : ℕ) → (j ≡ last_freed a → ⊥) → occurrences_of j (free_list a) ≡ occurrences_of j shorter
  rest_once j n = ap (occurrences_of j) split ∙ occurs_no j a.free (a.freed - 1) within (ne_eqb _ _ n)

  last_empty : (slot_at a (last_freed a)).filled ≡ false
  last_empty = by_test (slot_at a (last_freed a)).filled
      (λ t. let none : occurrences_of (last_freed a) (free_list a) ≡ 0 = s.once (last_freed a) last_used ∙ simp t in absurd (omega (arith, last_once)))
      (λ t. t)

  last_generation_lem : (slot_at a (last_freed a)).generation ≡ 0 → ⊥
  last_generation_lem = eqb-false _ _ (not-true _ (s.aged (last_freed a) last_used))

  last_within : last_freed a < length a.slots
  last_within = omega (arith, last_used, s.within_limit.used.table)

  -- the issued slot
  abbrev issued : Slot
  issued = slot_of (slot_at a (last_freed a)).generation true

  issued_there : slot_at (from_free a).arena (last_freed a) ≡ issued
  issued_there = slot_changed a.slots (last_freed a) issued last_within

  pub freed_sound : a.live < 64 → a.live < limit → Sound (from_free a).arena limit
  freed_sound room below = record {
    within_limit = record {
      used = s.within_limit.used;
      freed = record { table = omega (arith, s.within_limit.freed.table); configured = omega (arith, s.within_limit.freed.configured) };
      live = record { table = omega arith; configured = omega arith };
    };
    aged = λ j l. rw (generation_kept a.slots (last_freed a) j true) (s.aged j l);
    counted = ap (λ (n : ℕ). n + 1) s.counted ∙ sym (count_flip (is_filled a.slots) (is_filled (from_free a).arena.slots) a.used (last_freed a) last_used
        last_empty (ap (λ (x : Slot). x.filled) issued_there) (λ j n. sym (ap (λ (x : Slot). x.filled) (slot_other a.slots (last_freed a) issued j n))));
    below = and_left (all (is_below a.used) shorter) _ all_split;
    once = λ j l. by_same j (last_freed a)
        (λ e. rw (e, issued_there) (none last_once (s.once (last_freed a) last_used ∙ simp last_empty)))
        (λ n. sym (rest_once j n) ∙ s.once j l ∙ ap entries_due (sym (slot_other a.slots (last_freed a) issued j n)));
  }
    where
      none : {k m : ℕ} → k ≡ m + 1 → k ≡ 1 → m ≡ 0
      none {k} {m} p q = omega arith

  same_others : (h : GenerationalHandle) → (h ≡ (from_free a).handle → ⊥) → lookup_of (from_free a).arena h ≡ lookup_of a h
  same_others h n = by_same h.index (last_freed a)
      (λ e. same_status a (from_free a).arena h refl (rw e (ap (λ (x : Slot). status_of x h.generation) issued_there
      ∙ stale_other issued h.generation (λ g. n (λ k. handle_of (e k) (sym g k))) ∙ sym (stale_empty (slot_at a (last_freed a)) h.generation last_empty))))
      (λ m. same_lookup a (from_free a).arena h refl (slot_other a.slots (last_freed a) issued h.index m))

  pub freed_issues : Issues a (from_free a)
  freed_issues = record {
    was_not = λ e. clash (live_facts a (from_free a).handle e).filled last_empty;
    is = live_when (from_free a).arena (from_free a).handle (record {
      valid = issued_valid (last_freed a) (slot_at a (last_freed a)).generation (omega (arith, last_used, s.within_limit.used.table)) last_generation_lem;
      used = last_used;
      filled = ap (λ (x : Slot). x.filled) issued_there;
      same = ap (λ (x : Slot). x.generation) issued_there;
    });
    others = λ h n. ap is_live (same_others h n);
    used_others = λ h n u. same_others h n;
  }
