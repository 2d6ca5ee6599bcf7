-- A well-formed table as facts: each part of the test is a fact, and the facts together make the test.
use Prim.Native.Nat.{ℕ, ◌+◌, ◌≤◌, ◌<◌}
use mathlib.Core.Path.{◌≡◌}
use mathlib.Core.Bool.{true, not}
use native.Mathlib.Omega.{arith}
use lib.ListN.{length, take}
use lib.Seq.{length-take-le}
use lib.Dec.{leb, eqb}
use borrow.Author.Tests.{leb-true, le-leb, eqb-true, eq-eqb}
use Rattle.lists.specs.Lists.{all, keep}
use Rattle.lists.specs.Below.{count_below}
use Rattle.lists.proofs.ListLaws.{and_left, and_right, and_both}
use Rattle.lists.proofs.PlaceLaws.{all_places, count_places}
use Rattle.lists.proofs.BelowLaws.{all_at, all_of}
use Rattle.handles.proofs.OccurrenceLaws.{each_once}
use Rattle.handles.specs.declared.arena.Arena.{Arena}
use Rattle.handles.specs.Slots.{no_slot, slot_at}
use Rattle.handles.specs.WellFormed.{is_within, counts_within, has_generation, generations_set, is_filled, live_is_filled, free_list, is_below, occurrences_of, entries_due, stands_as_due, well_formed}

-- a count within its table and the limit
pub record Within (limit n : ℕ) : Type 0 where
  pub table : n ≤ 64
  pub configured : n ≤ limit

pub within : (limit n : ℕ) → is_within limit n ≡ true → Within limit n
within limit n h = record { table = leb-true n 64 (and_left (leb n 64) _ h); configured = leb-true n limit (and_right (leb n 64) _ h) }

within_back : {limit n : ℕ} → Within limit n → is_within limit n ≡ true
within_back {limit} {n} w = and_both (le-leb n 64 w.table) (le-leb n limit w.configured)

pub record Counts (a : Arena) (limit : ℕ) : Type 0 where
  pub used : Within limit a.used
  pub freed : Within limit a.freed
  pub live : Within limit a.live

pub counts : (a : Arena) (limit : ℕ) → counts_within a limit ≡ true → Counts a limit
unfolding counts_within
counts a limit h =
    let rest = and_right (is_within limit a.used) _ h in
    record {
      used = within limit a.used (and_left (is_within limit a.used) _ h);
      freed = within limit a.freed (and_left (is_within limit a.freed) _ rest);
      live = within limit a.live (and_right (is_within limit a.freed) _ rest);
    }

pub used_within : (a : Arena) (limit : ℕ) → counts_within a limit ≡ true → a.used ≤ 64
used_within a limit h = (counts a limit h).used.table

pub freed_within : (a : Arena) (limit : ℕ) → counts_within a limit ≡ true → a.freed ≤ 64
freed_within a limit h = (counts a limit h).freed.table

-- the tests of the used slots are those of the indices below their number
pub front_aged : (a : Arena) → a.used ≤ length a.slots → all (λ s. not (eqb s.generation 0)) (take a.used a.slots) ≡ generations_set a
front_aged a h = all_places (λ s. not (eqb s.generation 0)) a.slots no_slot a.used h

pub front_filled : (a : Arena) → a.used ≤ length a.slots → length (keep (λ s. s.filled) (take a.used a.slots)) ≡ count_below (is_filled a.slots) a.used
front_filled a h = count_places (λ s. s.filled) a.slots no_slot a.used h

pub ruleset fronts = (used_within, freed_within, front_aged, front_filled)

pub record Sound (a : Arena) (limit : ℕ) : Type 0 where
  pub within_limit : Counts a limit
  pub aged : (i : ℕ) → i < a.used → has_generation a.slots i ≡ true
  pub counted : a.live ≡ count_below (is_filled a.slots) a.used
  pub below : all (is_below a.used) (free_list a) ≡ true
  pub once : (i : ℕ) → i < a.used → occurrences_of i (free_list a) ≡ entries_due (slot_at a i)

module _ (a : Arena) (limit : ℕ) where
  pub sound : well_formed a limit ≡ true → Sound a limit
  unfolding well_formed
  sound h =
      let h₁ = and_right (counts_within a limit) _ h in
      let h₂ = and_right (generations_set a) _ h₁ in
      let h₃ = and_right (live_is_filled a) _ h₂ in
      record {
        within_limit = counts a limit (and_left (counts_within a limit) _ h);
        aged = λ i l. all_at (has_generation a.slots) a.used i (and_left (generations_set a) _ h₁) l;
        counted = eqb-true a.live _ (and_left (live_is_filled a) _ h₂);
        below = and_left (all (is_below a.used) (free_list a)) _ h₃;
        once = λ i l. eqb-true (occurrences_of i (free_list a)) _
            (all_at (stands_as_due a.slots (free_list a)) a.used i (and_right (all (is_below a.used) (free_list a)) _ h₃) l);
      }

  pub well_formed_lem : Sound a limit → well_formed a limit ≡ true
  unfolding well_formed counts_within
  well_formed_lem s =
      let c = s.within_limit in
      and_both (and_both (within_back c.used) (and_both (within_back c.freed) (within_back c.live)))
      (and_both (all_of (has_generation a.slots) a.used s.aged)
      (and_both (eq-eqb a.live _ s.counted)
      (and_both s.below (all_of (stands_as_due a.slots (free_list a)) a.used (λ i l. eq-eqb _ _ (s.once i l))))))

-- every used slot is filled or in the free list
pub balance : (a : Arena) (limit : ℕ) → length a.free ≡ 64 → Sound a limit → a.freed + a.live ≡ a.used
balance a limit whole s =
    let enough : a.freed ≤ length a.free = omega (arith, s.within_limit.freed.table) in
    omega (arith, each_once (is_filled a.slots) a.used (free_list a) s.below s.once, length-take-le a.freed a.free enough, s.counted)
