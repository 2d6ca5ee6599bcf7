-- What each answer of a lookup says of the slot, and what a change of one slot leaves: by the tests of the definition.
use Prim.Native.Nat.{ℕ, ◌<◌}
use mathlib.Core.Path.{◌≡◌, refl, ap}
use mathlib.Core.Bool.{Bool, true, false, ◌&&◌}
use native.Mathlib.Omega.{arith}
use lib.Dec.{ltb, eqb}
use borrow.Author.Tests.{ltb-true, lt-ltb, eqb-true, eq-eqb, ne_eqb}
use Rattle.lists.proofs.ListLaws.{by_test, clash, and_left, and_right, and_both}
use Rattle.handles.specs.declared.GenerationalHandle.{GenerationalHandle}
use Rattle.handles.specs.declared.arena.Slot.{Slot}
use Rattle.handles.specs.declared.arena.Arena.{Arena}
use Rattle.handles.specs.declared.arena.SlotStatus.{SlotStatus}
use Rattle.handles.specs.declared.arena.SlotStatus.TheVariants.{Live, Invalid, Stale}
use Rattle.handles.specs.Handles.{handle_of, is_valid}
use Rattle.handles.specs.Slots.{slot_at, status_of, lookup_of}
use Rattle.handles.specs.Claims.{is_live}

pub record LiveAt (a : Arena) (h : GenerationalHandle) : Type 0 where
  pub valid : is_valid h ≡ true
  pub used : h.index < a.used
  pub filled : (slot_at a h.index).filled ≡ true
  pub same : (slot_at a h.index).generation ≡ h.generation

-- an issued handle is valid
pub issued_valid : (i g : ℕ) → i < 64 → (g ≡ 0 → ⊥) → is_valid (handle_of i g) ≡ true
issued_valid i g l n = simp (ne_eqb g 0 n, ne_eqb i 4294967295 (far i l))
  where
    far : (i : ℕ) → i < 64 → i ≡ 4294967295 → ⊥
    far i l e = omega arith

-- an empty slot is stale to every generation, and a slot of one generation to every other
module _ (s : Slot) (g : ℕ) where
  pub stale_empty : s.filled ≡ false → status_of s g ≡ Stale
  stale_empty f = simp f

  pub stale_other : (s.generation ≡ g → ⊥) → status_of s g ≡ Stale
  stale_other n = by_test s.filled (λ t. simp (t, ne_eqb _ _ n)) (λ t. simp t)

module _ (a : Arena) (h : GenerationalHandle) where
  abbrev reached : Bool
  reached = is_valid h && ltb h.index a.used

  abbrev matched : Bool
  matched = (slot_at a h.index).filled && eqb (slot_at a h.index).generation h.generation

  pub live_when : LiveAt a h → lookup_of a h ≡ Live
  unfolding lookup_of
  live_when f =
      let r : reached ≡ true = and_both f.valid (lt-ltb h.index a.used f.used) in
      let m : matched ≡ true = and_both f.filled (eq-eqb _ _ f.same) in
      simp (r, m)

  pub stale_when : is_valid h ≡ true → h.index < a.used → status_of (slot_at a h.index) h.generation ≡ Stale → lookup_of a h ≡ Stale
  unfolding lookup_of
  stale_when v u m =
      let r : reached ≡ true = and_both v (lt-ltb h.index a.used u) in
      rw r m

  pub live_facts : lookup_of a h ≡ Live → LiveAt a h
  unfolding lookup_of
  live_facts e = by_test reached
      (λ r. by_test matched
      (λ m. record {
        valid = and_left (is_valid h) _ r;
        used = ltb-true _ _ (and_right (is_valid h) _ r);
        filled = and_left (slot_at a h.index).filled _ m;
        same = eqb-true _ _ (and_right (slot_at a h.index).filled _ m);
      })
      (λ m. clash (ap is_live (simp (r, m) at e)) refl))
      (λ r. clash (ap is_live (simp r at e)) refl)

  -- a handle that is not live
  pub dead_when : (LiveAt a h → ⊥) → is_live (lookup_of a h) ≡ false
  dead_when n = by_test (is_live (lookup_of a h)) (λ t. absurd (n (live_facts (live t)))) (λ t. t)
    where
      is_live_lem : (s : SlotStatus) → is_live s ≡ true → s ≡ Live
      is_live_lem Live t = refl
      is_live_lem Invalid t = clash t refl
      is_live_lem Stale t = clash t refl

      live : is_live (lookup_of a h) ≡ true → lookup_of a h ≡ Live
      live t = is_live_lem (lookup_of a h) t

-- a lookup is decided by what the slot is to the generation, and by whether it was used
module _ (a b : Arena) (h : GenerationalHandle) (u : ltb h.index b.used ≡ ltb h.index a.used) where
  pub same_status : status_of (slot_at b h.index) h.generation ≡ status_of (slot_at a h.index) h.generation → lookup_of b h ≡ lookup_of a h
  unfolding lookup_of
  same_status s = rw (u, s)

  pub same_lookup : slot_at b h.index ≡ slot_at a h.index → lookup_of b h ≡ lookup_of a h
  same_lookup s = same_status (ap (λ (x : Slot). status_of x h.generation) s)
