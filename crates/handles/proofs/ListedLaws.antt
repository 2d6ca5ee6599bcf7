-- The listed handles are those of the filled slots, each slot once: by induction on the number of slots.
use Prim.Native.Nat.{ℕ, zero, suc, ◌<◌, ◌≤◌}
use mathlib.Core.Path.{◌≡◌, refl, sym, ap, ◌∙◌}
use mathlib.Core.Logic.{⊎_elim}
use mathlib.Core.Bool.{true}
use mathlib.Core.List.{List, ◌++◌, Memᴰ}
use native.Mathlib.Nat.{eq-or-lt_of_le}
use native.Mathlib.Numerals.{add-one}
use native.Mathlib.Omega.{arith}
use lib.ListN.{length, get_or, length-append}
use lib.Dec.{ltb}
use borrow.Author.Tests.{ltb-false}
use Rattle.lists.specs.Below.{count_below}
use Rattle.lists.proofs.ListLaws.{by_test}
use Rattle.lists.proofs.BelowLaws.{count_none, count_more}
use Rattle.handles.specs.declared.GenerationalHandle.{GenerationalHandle}
use Rattle.handles.specs.declared.arena.Slot.{Slot}
use Rattle.handles.specs.declared.arena.Arena.{Arena}
use Rattle.handles.specs.Handles.{handle_of}
use Rattle.handles.specs.Slots.{no_slot, used_places, handles_at, handles_below}
use Rattle.handles.specs.WellFormed.{is_filled}
use Rattle.handles.proofs.LiveLaws.{below_none, below_more, below_filled, below_empty}

pub places : (a : Arena) → a.used ≤ 64 → used_places a ≡ a.used
places a w = by_test (ltb a.used 64) (λ t. simp t) (λ t. let h = ltb-false a.used 64 t in simp t (omega arith))

-- a handle is that of a filled one of the first n slots
pub record Of (l : List Slot) (n : ℕ) (h : GenerationalHandle) : Type 0 where
  pub below : h.index < n
  pub filled : is_filled l h.index ≡ true
  pub same : (get_or l h.index no_slot).generation ≡ h.generation

module _ (l : List Slot) where
  below_suc : (n : ℕ) → handles_below l (suc n) ≡ handles_below l n ++ handles_at l n
  below_suc n = ap (handles_below l) (sym (add-one n)) ∙ below_more l n

  -- the handle that a slot adds
  here : (n : ℕ) (h : GenerationalHandle) → Memᴰ h (handles_at l n) → Of l (suc n) h
  here n h m = by_test (is_filled l n)
      (λ t. let e : h ≡ handle_of n (get_or l n no_slot).generation = mathlib.Core.List.Memᴰ.eq_of_singleton (simp t at m) in
      rw e (record { below = omega arith; filled = t; same = refl }))
      (λ t. absurd (mathlib.Core.List.Memᴰ.not-nil (simp t at m)))

  pub listed_of : (n : ℕ) (h : GenerationalHandle) → Memᴰ h (handles_below l n) → Of l n h
  listed_of zero h m = absurd (mathlib.Core.List.Memᴰ.not-nil (rw (below_none l) at m))
  listed_of (suc n) h m = ⊎_elim
      (λ (b : Memᴰ h (handles_below l n)). let o = listed_of n h b in record { below = up o.below; filled = o.filled; same = o.same })
      (λ (b : Memᴰ h (handles_at l n)). here n h b)
      (mathlib.Core.List.Memᴰ.append_cases (handles_below l n) (rw (below_suc n) at m))
    where
      up : {i n : ℕ} → i < n → i < suc n
      up {i} {n} h = omega arith

  pub of_listed : (n : ℕ) (h : GenerationalHandle) → Of l n h → Memᴰ h (handles_below l n)
  of_listed zero h o = absurd (none o.below)
    where
      none : {i : ℕ} → i < 0 → ⊥
      none {i} h = omega arith
  of_listed (suc n) h o = rw (below_suc n) (⊎_elim
      (λ (e : h.index ≡ n).
      let t : is_filled l n ≡ true = rw (sym e) o.filled in
      mathlib.Core.List.Memᴰ.append_right (handles_below l n) (rw t (mathlib.Core.List.Memᴰ.head (λ k. handle_of (e k) (same e k)))))
      (λ (g : h.index < n). mathlib.Core.List.Memᴰ.append_left (handles_at l n) (of_listed n h (record { below = g; filled = o.filled; same = o.same })))
      (eq-or-lt_of_le (lower o.below)))
    where
      lower : {i n : ℕ} → i < suc n → i ≤ n
      lower {i} {n} h = omega arith

      same : h.index ≡ n → h.generation ≡ (get_or l n no_slot).generation
      same e = sym o.same ∙ ap (λ (i : ℕ). (get_or l i no_slot).generation) e

  pub listed_length : (n : ℕ) → length (handles_below l n) ≡ count_below (is_filled l) n
  listed_length zero = ap length (below_none l) ∙ sym (count_none (is_filled l))
  listed_length (suc n) = rw (sym (add-one n)) (rw (count_more (is_filled l) n) (by_test (is_filled l n)
      (λ t. rw (below_filled l n t, length-append, t, listed_length n))
      (λ t. rw (below_empty l n t, t, listed_length n))))
