-- One slot of an array is changed: what stands there after, and what stays, also where the index is past the end.
use Prim.Native.Nat.{ℕ, ◌<◌}
use mathlib.Core.Path.{◌≡◌, ap}
use mathlib.Core.Bool.{Bool, true}
use mathlib.Core.List.{List}
use lib.ListN.{length, get_or, set, get_or-eq_default}
use lib.Seq.{get_or-set_same, get_or-set_other, set_out}
use lib.Dec.{ltb, eqb}
use borrow.Author.Tests.{ltb-true, ltb-false, eqb-true, eqb-false}
use Rattle.lists.proofs.ListLaws.{by_test, clash}
use Rattle.handles.specs.declared.arena.Slot.{Slot}
use Rattle.handles.specs.Slots.{slot_of, no_slot}

-- by whether two numbers are the same
pub by_same {ℓ} : {P : Type ℓ} (i j : ℕ) → (i ≡ j → P) → ((i ≡ j → ⊥) → P) → P
by_same i j f g = by_test (eqb i j) (λ t. f (eqb-true i j t)) (λ t. g (eqb-false i j t))

module _ (l : List Slot) (i : ℕ) (s : Slot) where
  pub slot_other : (j : ℕ) → (j ≡ i → ⊥) → get_or (set l i s) j no_slot ≡ get_or l j no_slot
  slot_other j n = get_or-set_other l i j s no_slot n

  pub slot_changed : i < length l → get_or (set l i s) i no_slot ≡ s
  slot_changed h = get_or-set_same l i s no_slot h

-- a slot that is filled or emptied with its own generation
pub generation_kept : (l : List Slot) (i j : ℕ) (f : Bool) → (get_or (set l i (slot_of (get_or l i no_slot).generation f)) j no_slot).generation ≡ (get_or l j no_slot).generation
generation_kept l i j f = by_same j i
    (λ e. rw e (by_test (ltb i (length l))
    (λ t. rw (get_or-set_same l i (slot_of (get_or l i no_slot).generation f) no_slot (ltb-true i (length l) t)))
    (λ t. rw (set_out l i (slot_of (get_or l i no_slot).generation f) (ltb-false i (length l) t)))))
    (λ n. ap (λ (x : Slot). x.generation) (slot_other l i _ j n))

-- a filled slot is within the array
pub filled_within : (l : List Slot) (i : ℕ) → (get_or l i no_slot).filled ≡ true → i < length l
filled_within l i h = by_test (ltb i (length l)) (λ t. ltb-true i (length l) t)
    (λ t. clash h (ap (λ (x : Slot). x.filled) (get_or-eq_default l no_slot (ltb-false i (length l) t))))
