-- The handles of the filled slots, one slot after the other: what a turn of the loop adds, and that each slot adds at most one.
use Prim.Native.Nat.{ℕ, zero, suc, ◌+◌, ◌≤◌, ◌<◌}
use mathlib.Core.Path.{◌≡◌, sym}
use mathlib.Core.Bool.{true, false, not}
use mathlib.Core.List.{List, [], ◌∷◌, ◌++◌, append-nil}
use native.Mathlib.Numerals.{add-one}
use native.Mathlib.Omega.{arith}
use lib.ListN.{length, take, get_or, length-append}
use lib.Dec.{ltb}
use borrow.Author.Tests.{ltb-true}
use Rattle.lists.specs.Lists.{all}
use Rattle.lists.specs.Tables.{packed, pushed_within}
use Rattle.lists.proofs.ListLaws.{by_test}
use Rattle.lists.proofs.PlaceLaws.{all_places}
use Rattle.lists.proofs.BelowLaws.{iter_none, iter_more}
use Rattle.lists.proofs.TableLaws.{within_packed}
use Rattle.handles.specs.Handles.{handle_of}
use Rattle.handles.specs.declared.arena.Slot.{Slot}
use Rattle.handles.specs.declared.arena.Arena.{Arena}
use Rattle.handles.specs.Slots.{no_slot, used_places, is_exhausted, none_exhausted, handles_at, handles_below, handles_table}

pub places_within : (a : Arena) → used_places a ≤ 64
places_within a = by_test (ltb a.used 64) (λ t. let h = ltb-true a.used 64 t in simp t (omega arith)) (λ t. simp t (omega arith))

-- the test of the used slots is that of the indices below their number
pub front_exhausted : (a : Arena) → length a.slots ≡ 64 → all (λ s. not (is_exhausted s)) (take (used_places a) a.slots) ≡ none_exhausted a
unfolding none_exhausted
front_exhausted a h = all_places (λ s. not (is_exhausted s)) a.slots no_slot (used_places a) (omega (arith, places_within a))

module _ (l : List Slot) where
  pub below_none : handles_below l 0 ≡ []
  unfolding handles_below
  below_none = iter_none _ []

  pub below_more : (i : ℕ) → handles_below l (i + 1) ≡ handles_below l i ++ handles_at l i
  unfolding handles_below
  below_more i = iter_more _ i []

  pub below_filled : (i : ℕ) → (get_or l i no_slot).filled ≡ true → handles_below l (i + 1) ≡ handles_below l i ++ (handle_of i (get_or l i no_slot).generation ∷ [])
  below_filled i t = rw (below_more, t)

  pub below_empty : (i : ℕ) → (get_or l i no_slot).filled ≡ false → handles_below l (i + 1) ≡ handles_below l i
  below_empty i t = rw (below_more, t, append-nil)

  pub below_few : (n : ℕ) → length (handles_below l n) ≤ n
  below_few zero = rw below_none (omega arith)
  below_few (suc n) = rw (sym (add-one n)) (by_test (get_or l n no_slot).filled
      (λ t. rw (below_filled n t, length-append) (omega (arith, below_few n)))
      (λ t. rw (below_empty n t) (omega (arith, below_few n))))

  -- ---- a turn of the loop
  module _ (i : ℕ) where
    pub turn_filled : i < 64 → (get_or l i no_slot).filled ≡ true
        → pushed_within handles_table (packed handles_table (handles_below l i)) (handle_of i (get_or l i no_slot).generation) ≡ packed handles_table (handles_below l (i + 1))
    turn_filled h t = rw (below_filled i t) (within_packed handles_table (handles_below l i) _ (omega (arith, below_few i)))

    pub turn_empty : (get_or l i no_slot).filled ≡ false → packed handles_table (handles_below l i) ≡ packed handles_table (handles_below l (i + 1))
    turn_empty t = rw (below_empty i t)

pub ruleset turns = (places_within, below_none, turn_filled, turn_empty)
