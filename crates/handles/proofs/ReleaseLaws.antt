-- A release: what an accepted one says of the handle, and that the table after it is sound, stale to the handle and the same to every other slot.
use Prim.Native.Nat.{ℕ, ◌+◌, ◌-◌, ◌<◌}
use mathlib.Core.Path.{◌≡◌, refl, sym, ap, ◌∙◌}
use mathlib.Core.Bool.{Bool, true, false}
use mathlib.Core.List.{[], ◌∷◌, ◌++◌}
use native.Mathlib.Numerals.{add-one}
use native.Mathlib.Omega.{arith}
use lib.ListN.{length}
use lib.Seq.{take-suc-set}
use lib.Dec.{leb, eqb}
use borrow.Author.Tests.{leb-false, lt-ltb, lt-leb, eqb-false, ne_eqb}
use Rattle.lists.specs.Below.{count_below}
use Rattle.lists.proofs.ListLaws.{by_test, clash, and_both, all_append}
use Rattle.lists.proofs.BelowLaws.{count_flip}
use Rattle.handles.specs.declared.GenerationalHandle.{GenerationalHandle}
use Rattle.handles.specs.declared.arena.Slot.{Slot}
use Rattle.handles.specs.declared.arena.Arena.{Arena}
use Rattle.handles.specs.declared.arena.ReleaseAnswer.{ReleaseAnswer}
use Rattle.handles.specs.declared.arena.ReleaseError.{ReleaseError}
use Rattle.handles.specs.declared.arena.ReleaseError.TheVariants as error
use Rattle.handles.specs.declared.arena.SlotStatus.{SlotStatus}
use Rattle.handles.specs.declared.arena.SlotStatus.TheVariants.{Live, Invalid, Stale}
use Rattle.handles.specs.Slots.{slot_of, slot_at, lookup_of, refused, emptied, released, released_as}
use Rattle.handles.specs.WellFormed.{is_filled, free_list}
use Rattle.handles.proofs.OccurrenceLaws.{occurs_append, occurs_here, occurs_apart}
use Rattle.handles.proofs.SoundLaws.{Sound}
use Rattle.handles.proofs.SlotLaws.{by_same, slot_other, slot_changed, filled_within}
use Rattle.handles.proofs.LookupLaws.{LiveAt, live_facts, same_lookup}
use Rattle.std.specs.Prelude.{Ok, Err, is_ok}

-- a release that is accepted
pub record Accepted (a : Arena) (h : GenerationalHandle) : Type 0 where
  pub live : LiveAt a h
  pub room : a.freed < 64
  pub some : a.live ≡ 0 → ⊥
  pub next : (released a h).arena ≡ emptied a h

module _ (a : Arena) (h : GenerationalHandle) where
  by_status : {s : SlotStatus} → lookup_of a h ≡ s → released a h ≡ released_as s a h
  unfolding released
  by_status e = ap (λ (s : SlotStatus). released_as s a h) e

  taken : lookup_of a h ≡ Live → eqb h.generation 4294967295 ≡ false → leb 64 a.freed ≡ false → eqb a.live 0 ≡ false
      → released a h ≡ record { outcome = Ok tt; arena = emptied a h }
  taken e t u v = by_status e ∙ simp (t, u, v)

  -- a release changes nothing, or is accepted
  pub by_release : {P : Type 0} → ((released a h).arena ≡ a → ((released a h).outcome ≡ Ok tt → ⊥) → P) → (Accepted a h → P) → P
  by_release {P} f g = pick (lookup_of a h) refl
    where
      kept : (x : ReleaseError) → released a h ≡ refused x a → P
      kept x e = f (ap (λ (r : ReleaseAnswer). r.arena) e) (λ d. clash (ap is_ok (sym (ap (λ (r : ReleaseAnswer). r.outcome) e) ∙ d)) refl)

      pick : (s : SlotStatus) → lookup_of a h ≡ s → P
      pick Live e = by_test (eqb h.generation 4294967295)
          (λ t. kept error.GenerationExhausted (by_status e ∙ simp t))
          (λ t. by_test (leb 64 a.freed)
          (λ u. kept error.Invalid (by_status e ∙ simp (t, u)))
          (λ u. by_test (eqb a.live 0)
          (λ v. kept error.Invalid (by_status e ∙ simp (t, u, v)))
          (λ v. g (record {
            live = live_facts a h e;
            room = leb-false 64 a.freed u;
            some = eqb-false a.live 0 v;
            next = ap (λ (r : ReleaseAnswer). r.arena) (taken e t u v);
          }))))
      pick Invalid e = kept error.Invalid (by_status e)
      pick Stale e = kept error.Stale (by_status e)

  pub accepted : (released a h).outcome ≡ Ok tt → Accepted a h
  accepted d = by_release (λ k n. absurd (n d)) (λ c. c)

  -- with room in the free list and a live count, only the last generation is refused
  pub accepts : lookup_of a h ≡ Live → (h.generation ≡ 4294967295 → ⊥) → a.freed < 64 → (a.live ≡ 0 → ⊥) → (released a h).outcome ≡ Ok tt
  accepts e n r l = ap (λ (r : ReleaseAnswer). r.outcome) (taken e (ne_eqb _ _ n) (lt-leb 64 a.freed r) (ne_eqb a.live 0 l))

  module _ (c : Accepted a h) where
    -- the slot after the release
    abbrev vacant : Slot
    vacant = slot_of (h.generation + 1) false

    pub vacant_there : slot_at (emptied a h) h.index ≡ vacant
    vacant_there = slot_changed a.slots h.index vacant (filled_within a.slots h.index c.live.filled)

    other : (j : ℕ) → (j ≡ h.index → ⊥) → slot_at (emptied a h) j ≡ slot_at a j
    other j n = slot_other a.slots h.index vacant j n

    pub emptied_others : (g : GenerationalHandle) → (g.index ≡ h.index → ⊥) → lookup_of (emptied a h) g ≡ lookup_of a g
    emptied_others g n = same_lookup a (emptied a h) g refl (other g.index n)

    module _ (limit : ℕ) (whole : length a.free ≡ 64) (s : Sound a limit) (balanced : a.freed + a.live ≡ a.used) where
      longer : free_list (emptied a h) ≡ free_list a ++ (h.index ∷ [])
      longer =
          let l : a.freed < length a.free = omega (arith, c.room) in
          rw (add-one a.freed) (take-suc-set a.free a.freed h.index l)

      pub emptied_sound : Sound (emptied a h) limit
      emptied_sound = record {
        within_limit = record {
          used = s.within_limit.used;
          freed = record { table = omega (arith, c.room); configured = omega (arith, positive c.some, s.within_limit.used.configured) };
          live = record { table = omega (arith, s.within_limit.live.table); configured = omega (arith, s.within_limit.live.configured) };
        };
        aged = λ j l. by_same j h.index (λ e. rw (e, vacant_there, ne_eqb (h.generation + 1) 0 (raised h.generation))) (λ n. rw (other j n) (s.aged j l));
        counted = fewer (s.counted ∙ flipped);
        below = rw (longer, all_append) (and_both s.below (and_both (lt-ltb h.index a.used c.live.used) refl));
        once = λ j l. rw (longer, occurs_append) (by_same j h.index
            (λ e. rw (e, vacant_there, s.once h.index c.live.used, c.live.filled, occurs_here))
            (λ n. rw (other j n, s.once j l, occurs_apart j h.index n) (plain _)));
      }
        where
          positive : {n : ℕ} → (n ≡ 0 → ⊥) → 0 < n
          positive {n} d = omega arith

          raised : (g : ℕ) → g + 1 ≡ 0 → ⊥
          raised g e = omega arith

          fewer : {n m : ℕ} → n ≡ m + 1 → n - 1 ≡ m
          fewer {n} {m} e = omega arith

          plain : (n : ℕ) → n + 0 ≡ n
          plain n = omega arith

          flipped : count_below (is_filled a.slots) a.used ≡ count_below (is_filled (emptied a h).slots) a.used + 1
          flipped = count_flip (is_filled (emptied a h).slots) (is_filled a.slots) a.used h.index c.live.used
              (ap (λ (x : Slot). x.filled) vacant_there) c.live.filled (λ j n. ap (λ (x : Slot). x.filled) (other j n))
