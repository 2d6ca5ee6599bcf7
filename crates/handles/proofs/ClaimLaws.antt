-- The claims, each from the laws of its call: the test as facts, then the facts of the table after it.
use Prim.Native.Nat.{ℕ, ◌+◌, ◌<◌, ◌≤◌}
use mathlib.Core.Path.{◌≡◌, refl, sym, ◌∙◌}
use mathlib.Core.Bool.{true, not, ◌||◌}
use mathlib.Core.List.{Memᴰ}
use native.Mathlib.Omega.{arith}
use lib.ListN.{length, length-set}
use lib.Dec.{ltb}
use borrow.Author.Tests.{ltb-true, ltb-false, lt-ltb, le-leb, eq-eqb, eqb-false, not-true}
use Rattle.lists.proofs.ListLaws.{by_test, clash, and_both}
use Rattle.lists.proofs.BelowLaws.{all_at, count_none, count_some}
use Rattle.handles.specs.declared.GenerationalHandle.{GenerationalHandle}
use Rattle.handles.specs.declared.arena.Arena.{Arena}
use Rattle.handles.specs.declared.arena.Allocation.{Allocation}
use Rattle.handles.specs.declared.arena.SlotStatus.TheVariants.{Live, Stale}
use Rattle.handles.specs.Slots.{empty_arena, slot_at, lookup_of, has_room, allocated, from_free, from_unused, released, emptied, is_exhausted, none_exhausted, live_handles, used_places}
use Rattle.handles.specs.WellFormed.{is_filled}
use Rattle.handles.specs.Claims.{Proper, MayIssue, Issues, ArenaClaims}
use Rattle.handles.proofs.SoundLaws.{Sound, Within, sound, well_formed_lem, balance}
use Rattle.handles.proofs.LookupLaws.{issued_valid, live_facts, live_when}
use Rattle.handles.proofs.AllocateFreedLaws.{freed_sound, freed_issues}
use Rattle.handles.proofs.AllocateUnusedLaws.{unused_sound, unused_issues}
use Rattle.handles.proofs.ReleaseLaws.{by_release, accepted, accepts, emptied_others, emptied_sound}
use Rattle.handles.proofs.StaleLaws.{past_stale, past_released, stays}
use Rattle.handles.proofs.ListedLaws.{places, listed_of, of_listed, listed_length}
use Rattle.std.specs.Prelude.{Ok}

new_sound : (limit : ℕ) → Sound empty_arena limit
unfolding empty_arena
new_sound limit = record {
  within_limit = record { used = nothing; freed = nothing; live = nothing };
  aged = λ i l. absurd (none l);
  counted = sym (count_none _);
  below = refl;
  once = λ i l. absurd (none l);
}
  where
    nothing : Within limit 0
    nothing = record { table = omega arith; configured = omega arith }

    none : {i : ℕ} → i < 0 → ⊥
    none {i} l = omega arith

module _ (a : Arena) (limit : ℕ) (p : Proper a limit) where
  s : Sound a limit
  s = sound a limit p.formed

  balanced : a.freed + a.live ≡ a.used
  balanced = balance a limit p.free s

  -- ---- allocation
  module _ (first : ℕ) (m : MayIssue a limit first) where
    live_fits : a.live < 64
    live_fits = omega (arith, m.below, m.fits)

    room : has_room a.used a.freed a.live ≡ true
    unfolding has_room
    room = and_both (le-leb _ _ s.within_limit.used.table) (and_both (le-leb _ _ s.within_limit.freed.table)
        (and_both (lt-ltb _ _ live_fits) (place a.used a.freed a.live balanced live_fits)))
      where
        place : (used freed live : ℕ) → freed + live ≡ used → live < 64 → (ltb 0 freed || ltb used 64) ≡ true
        place used freed live e l = by_test (ltb 0 freed) (λ t. simp t) (λ t. let h = ltb-false 0 freed t in simp t (lt-ltb used 64 (omega arith)))

    by_place : (P : Allocation → Type 0) → (0 < a.freed → P (from_free a)) → (a.freed ≡ 0 → P (from_unused a first)) → P (allocated a first)
    unfolding allocated
    by_place P f g = by_test (ltb 0 a.freed)
        (λ t. rw (room, t) (f (ltb-true _ _ t)))
        (λ t. rw (room, t) (g (nothing (ltb-false _ _ t))))
      where
        nothing : {n : ℕ} → n ≤ 0 → n ≡ 0
        nothing {n} l = omega arith

    used_fits : a.freed ≡ 0 → a.used < 64
    used_fits e = omega (arith, balanced, live_fits)

    within : a.freed ≡ 0 → a.used < length a.slots
    within e = rw p.slots (used_fits e)

    allocate_proper : Proper (allocated a first).arena limit
    allocate_proper = by_place (λ n. Proper n.arena limit)
        (λ some. record {
          slots = simp length-set p.slots;
          free = p.free;
          formed = well_formed_lem _ limit (freed_sound a limit p.slots p.free s some live_fits m.below);
        })
        (λ none. record {
          slots = simp length-set p.slots;
          free = p.free;
          formed = well_formed_lem _ limit (unused_sound a limit s first m.named (within none) (used_fits none) none (omega (arith, balanced)) m.below);
        })

    allocate_issues : Issues a (allocated a first)
    allocate_issues = by_place (Issues a)
        (λ some. freed_issues a limit p.slots p.free s some)
        (λ none. unused_issues a limit s first m.named (within none) (used_fits none))

  -- ---- release
  release_proper : (h : GenerationalHandle) → Proper (released a h).arena limit
  release_proper h = by_release a h
      (λ k n. rw k p)
      (λ c. rw c.next (record {
        slots = simp length-set p.slots;
        free = simp length-set p.free;
        formed = well_formed_lem (emptied a h) limit (emptied_sound a h c limit p.free s balanced);
      }))

  live_released : (h : GenerationalHandle) → lookup_of a h ≡ Live → (h.generation ≡ 4294967295 → ⊥) → (released a h).outcome ≡ Ok tt
  live_released h e n =
      let f = live_facts a h e in
      let some : 0 < a.live = rw s.counted (count_some (is_filled a.slots) a.used h.index f.used f.filled) in
      accepts a h e n (omega (arith, balanced, some, s.within_limit.used.table)) (positive some)
    where
      positive : {n : ℕ} → 0 < n → n ≡ 0 → ⊥
      positive {n} l e = omega arith

  all_places : used_places a ≡ a.used
  all_places = places a s.within_limit.used.table

  preflight_releases : (h : GenerationalHandle) → none_exhausted a ≡ true → lookup_of a h ≡ Live → (released a h).outcome ≡ Ok tt
  unfolding none_exhausted
  preflight_releases h t e =
      let f = live_facts a h e in
      let fresh = all_at (λ i. not (is_exhausted (slot_at a i))) (used_places a) h.index t (rw all_places f.used) in
      live_released h e (λ z. clash (and_both f.filled (eq-eqb _ _ (f.same ∙ z))) (not-true (is_exhausted (slot_at a h.index)) fresh))

  -- ---- the listed handles
  live_listed : (h : GenerationalHandle) → lookup_of a h ≡ Live → Memᴰ h (live_handles a)
  live_listed h e =
      let f = live_facts a h e in
      rw all_places (of_listed a.slots a.used h (record { below = f.used; filled = f.filled; same = f.same }))

  listed_live : (h : GenerationalHandle) → Memᴰ h (live_handles a) → lookup_of a h ≡ Live
  listed_live h m =
      let o = listed_of a.slots a.used h (rw all_places at m) in
      live_when a h (record {
        valid = issued_valid h.index h.generation (omega (arith, o.below, s.within_limit.used.table))
            (λ z. eqb-false _ _ (not-true _ (s.aged h.index o.below)) (o.same ∙ z));
        used = o.below;
        filled = o.filled;
        same = o.same;
      })

  listed_count : length (live_handles a) ≡ a.live
  listed_count = rw all_places (listed_length a.slots a.used ∙ sym s.counted)

released_stale : (a : Arena) (h : GenerationalHandle) → (released a h).outcome ≡ Ok tt → lookup_of (released a h).arena h ≡ Stale
released_stale a h d = past_stale h (released a h).arena (past_released h a (accepted a h d))

release_others : (a : Arena) (h g : GenerationalHandle) → (g.index ≡ h.index → ⊥) → lookup_of (released a h).arena g ≡ lookup_of a g
release_others a h g n = by_release a h (λ k r. rw k) (λ c. rw c.next (emptied_others a h c g n))

pub claims : ArenaClaims
unfolding empty_arena
claims = record {
  new_proper = λ limit. record { slots = refl; free = refl; formed = well_formed_lem empty_arena limit (new_sound limit) };
  allocate_proper = λ a limit first p m. allocate_proper a limit p first m;
  release_proper = λ a limit h p. release_proper a limit p h;
  allocate_issues = λ a limit first p m. allocate_issues a limit p first m;
  live_released = λ a limit h p. live_released a limit p h;
  preflight_releases = λ a limit h p. preflight_releases a limit p h;
  released_stale = released_stale;
  release_others = release_others;
  stays_stale = λ a h l d. stays h a l (accepted a h d);
  live_listed = λ a limit h p. live_listed a limit p h;
  listed_live = λ a limit h p. listed_live a limit p h;
  listed_count = listed_count;
}
