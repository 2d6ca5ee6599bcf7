-- Live handles of a slot table: one to a slot, and which of them an allocation and a release leave.
use Prim.Native.Nat.{ℕ, ◌≤◌, ◌<◌}
use mathlib.Core.Path.{◌≡◌, refl, sym, ap, ◌∙◌}
use mathlib.Core.Bool.{true, false}
use native.Mathlib.Omega.{arith}
use borrow.Author.Tests.{eqb-false, not-true}
use lib.Dec.{eqb}
use Rattle.lists.proofs.ListLaws.{clash}
use Rattle.handles.specs.Handles.{handle_of}
use Rattle.handles.specs.Slots.{slot_at, lookup_of, emptied, released}
use Rattle.handles.specs.Claims.{Proper, MayIssue, Issues, is_live}
use Rattle.handles.specs.declared.arena.Allocation.{Allocation}
use Rattle.handles.specs.declared.arena.Arena.{Arena}
use Rattle.handles.specs.declared.arena.Slot.{Slot}
use Rattle.handles.specs.declared.arena.SlotStatus.{SlotStatus}
use Rattle.handles.specs.declared.arena.SlotStatus.TheVariants.{Live, Invalid, Stale}
use Rattle.handles.specs.declared.GenerationalHandle.{GenerationalHandle}
use Rattle.handles.proofs.ClaimLaws.{claims}
use Rattle.handles.proofs.LookupLaws.{issued_valid, live_facts, live_when}
use Rattle.handles.proofs.ReleaseLaws.{by_release, vacant_there, emptied_others}
use Rattle.handles.proofs.SlotLaws.{by_same}
use Rattle.handles.proofs.SoundLaws.{sound}

is_live_lem : (s : SlotStatus) → is_live s ≡ true → s ≡ Live
is_live_lem Live t = refl
is_live_lem Invalid t = clash t refl
is_live_lem Stale t = clash t refl

module _ (a : Arena) where
  -- one live handle to a slot
  pub one_live : (g h : GenerationalHandle) → lookup_of a g ≡ Live → lookup_of a h ≡ Live → g.index ≡ h.index → g ≡ h
  one_live g h d e i =
      let same : g.generation ≡ h.generation = sym (live_facts a g d).same ∙ ap (λ (j : ℕ). (slot_at a j).generation) i ∙ (live_facts a h e).same in
      λ k. handle_of (i k) (same k)

  -- a handle that is live after a release was live, and one of another handle's slot stays
  pub was_live : (h g : GenerationalHandle) → lookup_of (released a h).arena g ≡ Live → lookup_of a g ≡ Live
  was_live h g e = by_release a h
      (λ k n. ap (λ (b : Arena). lookup_of b g) (sym k) ∙ e)
      (λ c. let e' = ap (λ (b : Arena). lookup_of b g) (sym c.next) ∙ e in by_same g.index h.index
      (λ i. clash (live_facts (emptied a h) g e').filled (ap (λ (j : ℕ). (slot_at (emptied a h) j).filled) i ∙ ap (λ (x : Slot). x.filled) (vacant_there a h c)))
      (λ n. sym (emptied_others a h c g n) ∙ e'))

  pub stays_live : (h g : GenerationalHandle) → (g ≡ h → ⊥) → lookup_of a g ≡ Live → lookup_of (released a h).arena g ≡ Live
  stays_live h g n e = by_release a h
      (λ k m. ap (λ (b : Arena). lookup_of b g) k ∙ e)
      (λ c. claims.release_others a h g (λ i. n (one_live g h e (live_when a h c.live) i)) ∙ e)

  module _ (limit : ℕ) (p : Proper a limit) where
    pub used_few : a.used ≤ limit
    used_few = (sound a limit p.formed).within_limit.used.configured

    -- a filled slot has a live handle
    pub filled_live : (i : ℕ) → i < a.used → (slot_at a i).filled ≡ true → lookup_of a (handle_of i (slot_at a i).generation) ≡ Live
    filled_live i l t =
        let s = sound a limit p.formed in
        live_when a (handle_of i (slot_at a i).generation) (record {
          valid = issued_valid i (slot_at a i).generation (omega (arith, l, s.within_limit.used.table)) (eqb-false _ _ (not-true _ (s.aged i l)));
          used = l;
          filled = t;
          same = refl;
        })

    pub may_issue : (first : ℕ) → limit ≤ 64 → eqb a.live limit ≡ false → (first ≡ 0 → ⊥) → MayIssue a limit first
    may_issue first fits n named = record {
      below = less (eqb-false a.live limit n) (sound a limit p.formed).within_limit.live.configured;
      fits = fits;
      named = named;
    }
      where
        less : {m n : ℕ} → (m ≡ n → ⊥) → m ≤ n → m < n
        less {m} {n} d l = omega arith

-- an allocation makes one handle live, and no other
module _ (a : Arena) (n : Allocation) (s : Issues a n) where
  pub not_issued : (g : GenerationalHandle) → lookup_of a g ≡ Live → g ≡ n.handle → ⊥
  not_issued g e q = s.was_not (ap (lookup_of a) (sym q) ∙ e)

  pub keeps_live : (g : GenerationalHandle) → lookup_of a g ≡ Live → lookup_of n.arena g ≡ Live
  keeps_live g e = is_live_lem (lookup_of n.arena g) (s.others g (not_issued g e) ∙ ap is_live e)

  pub others_live : (g : GenerationalHandle) → (g ≡ n.handle → ⊥) → lookup_of n.arena g ≡ Live → lookup_of a g ≡ Live
  others_live g d e = is_live_lem (lookup_of a g) (sym (s.others g d) ∙ ap is_live e)
