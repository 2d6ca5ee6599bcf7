-- A release of a live handle that is not at its last generation, as facts of the table after it: one live slot fewer, and every other slot as it was.
use Prim.Native.Nat.{ℕ, ◌+◌, ◌-◌}
use mathlib.Core.Path.{◌≡◌, ap, ◌∙◌}
use mathlib.Core.Bool.{true, not}
use native.Mathlib.Omega.{arith}
use borrow.Author.Tests.{eq-eqb, not-true}
use Rattle.lists.proofs.BelowLaws.{all_at}
use Rattle.lists.proofs.ListLaws.{clash, and_both}
use Rattle.handles.specs.Claims.{Proper}
use Rattle.handles.specs.Slots.{slot_of, slot_at, lookup_of, released, used_places, is_exhausted, none_exhausted}
use Rattle.handles.specs.declared.arena.Arena.{Arena}
use Rattle.handles.specs.declared.arena.SlotStatus.TheVariants.{Live}
use Rattle.handles.specs.declared.GenerationalHandle.{GenerationalHandle}
use Rattle.handles.proofs.ClaimLaws as arena
use Rattle.handles.proofs.ListedLaws.{places}
use Rattle.handles.proofs.LookupLaws.{live_facts}
use Rattle.handles.proofs.ReleaseLaws.{Accepted, accepted}
use Rattle.handles.proofs.SlotLaws.{slot_other}
use Rattle.handles.proofs.SoundLaws.{sound}
use Rattle.records.specs.Layers.{is_live}
use Rattle.composition_soundness.proofs.LiveLaws.{was_live}
use Rattle.std.specs.Prelude.{Ok}

-- no live slot is at its last generation
abbrev pub Fresh : Arena → Type 0
Fresh a = (g : GenerationalHandle) → lookup_of a g ≡ Live → g.generation ≡ 4294967295 → ⊥

-- the test before a shutdown says so
pub fresh_when : (a : Arena) (limit : ℕ) → Proper a limit → none_exhausted a ≡ true → Fresh a
unfolding none_exhausted
fresh_when a limit p t g e z =
    let f = live_facts a g e in
    let fresh = all_at (λ i. not (is_exhausted (slot_at a i))) (used_places a) g.index t (rw (places a (sound a limit p.formed).within_limit.used.table) f.used) in
    clash (and_both f.filled (eq-eqb _ _ (f.same ∙ z))) (not-true (is_exhausted (slot_at a g.index)) fresh)

pub record Released-at (a : Arena) (h : GenerationalHandle) : Type 0 where
  pub outcome : (released a h).outcome ≡ Ok tt
  pub live : (released a h).arena.live + 1 ≡ a.live
  pub used : (released a h).arena.used ≡ a.used
  pub others : (j : ℕ) → (j ≡ h.index → ⊥) → slot_at (released a h).arena j ≡ slot_at a j
  pub gone : lookup_of (released a h).arena h ≡ Live → ⊥
  pub fresh : Fresh (released a h).arena

module _ (a : Arena) (limit : ℕ) (p : Proper a limit) (fresh : Fresh a) (h : GenerationalHandle) (e : lookup_of a h ≡ Live) where
  done : (released a h).outcome ≡ Ok tt
  done = (arena.claims).live_released a limit h p e (fresh h e)

  taken : Accepted a h
  taken = accepted a h done

  pub release : Released-at a h
  release = record {
    outcome = done;
    live = ap (λ (b : Arena). b.live + 1) taken.next ∙ back taken.some;
    used = ap (λ (b : Arena). b.used) taken.next;
    others = λ j n. ap (λ (b : Arena). slot_at b j) taken.next ∙ slot_other a.slots h.index (slot_of (h.generation + 1) _) j n;
    gone = λ l. clash (ap is_live l) (ap is_live ((arena.claims).released_stale a h done));
    fresh = λ g l z. fresh g (was_live a h g l) z;
  }
    where
      back : {n : ℕ} → (n ≡ 0 → ⊥) → (n - 1) + 1 ≡ n
      back {n} d = omega arith
