-- Which numbers the set call answers and what it stores, by the checks that pass and the first that refuses.
use Rattle.std.specs.Prelude.{Ok, Err}
use Rattle.std.specs.Result.{result_and}
use Prim.Native.Nat.{ℕ, ◌≤◌}
use mathlib.Core.Path.{◌≡◌, refl, ap, ◌∙◌}
use mathlib.Core.Bool.{Bool, true, false, not, ◌&&◌}
use mathlib.Core.List.{[], ◌∷◌, append-nil}
use native.Mathlib.Omega.{arith}
use borrow.Author.Tests.{eq-eqb, ne_eqb, leb-true, le-leb}
use lib.Dec.{eqb, ltb, leb}
use lib.ListN.{length, length-take}
use Rattle.std.specs.List.{list_all as all}
use Rattle.lists.specs.Lists.{keep}
use Rattle.lists.specs.Tables.{entries_of, packed}
use Rattle.lists.specs.Numbers.{max_u64}
use Rattle.lists.proofs.ListLaws.{by_test, clash, and_left, and_right, length_keep}
use Rattle.lists.proofs.TableLaws.{entries_packed, len_packed}
use Rattle.handles.specs.declared.arena.SlotStatus.{SlotStatus}
use Rattle.handles.specs.declared.arena.SlotStatus.TheVariants.{Live, Invalid, Stale}
use Rattle.handles.specs.declared.GenerationalHandle.{GenerationalHandle}
use Rattle.records.specs.declared.error.CompositionError.{CompositionError}
use Rattle.records.specs.declared.error.CompositionError.TheVariants.{InvalidSurface, StaleSurface, Capacity, NotInteractive, RevisionConflict, PortLimit, Damaged}
use Rattle.composition_state.specs.declared.registry.CompositionRegistry.{CompositionRegistry}
use Rattle.records.specs.declared.shortcut.SurfaceShortcutRegistration.{SurfaceShortcutRegistration}
use Rattle.records.specs.declared.surface.SurfaceInputPolicy.TheVariants.{Observe}
use Rattle.composition_state.specs.Damage.{damage_refusal, is_sound, limits_sound, arenas_sound}
use Rattle.records.specs.Errors.{error_number, number_of, refusal_if, status_refusal, Outcome}
use Rattle.composition_state.specs.Registry.{with_shortcuts, conflict_refusal, advanced, settled}
use Rattle.records.specs.Shortcuts.{shortcuts, is_of_other_slot}
use Rattle.records.specs.Surfaces.{surface_status, descriptor_of, surface_refusal}
use Rattle.composition_state.proofs.SettleLaws.{accepted_is, then_last, settled_accepted}
use Rattle.composition_shortcuts.specs.Registrations.{Registrations}
use Rattle.composition_shortcuts.specs.Register.{registrations, is_fit, replaced_entries, fits, replaced, register_refusal, register_surface_system_shortcut_set}
use Rattle.composition_shortcuts.specs.Claims.{Observing, set_number}

-- ---- which numbers checks do not answer
module _ (n : ℕ) where
  if_not : (t : Bool) (e : CompositionError) → eqb 0 n ≡ false → eqb (error_number e) n ≡ false → number_of (refusal_if t e) ≡ n → ⊥
  if_not true e z f h = clash (eq-eqb _ _ h) f
  if_not false e z f h = clash (eq-eqb _ _ h) z

  status_not : (s : SlotStatus) (i e : CompositionError) → eqb 0 n ≡ false → eqb (error_number i) n ≡ false → eqb (error_number e) n ≡ false → number_of (status_refusal s i e) ≡ n → ⊥
  status_not Live i e z f g h = clash (eq-eqb _ _ h) z
  status_not Invalid i e z f g h = clash (eq-eqb _ _ h) f
  status_not Stale i e z f g h = clash (eq-eqb _ _ h) g

  then_not : (a b : Outcome) → (number_of a ≡ n → ⊥) → (number_of b ≡ n → ⊥) → number_of (result_and a b) ≡ n → ⊥
  then_not (Ok _) b f g h = g h
  then_not (Err e) b f g h = f h

last_not : (c : CompositionRegistry) → number_of (advanced c).outcome ≡ 18 → ⊥
unfolding advanced
last_not c h = by_test (eqb c.revision max_u64)
    (λ t. let k : 21 ≡ 18 = simp t at h in omega arith)
    (λ t. let k : 0 ≡ 18 = simp t at h in omega arith)

settled_not : (o : Outcome) (r c : CompositionRegistry) → (number_of o ≡ 18 → ⊥) → number_of (settled o r c).outcome ≡ 18 → ⊥
settled_not (Ok _) r c f h = last_not c h
settled_not (Err e) r c f h = f h

-- ---- what an accepted answer says of the checks
unrefused : (b : Bool) (e : CompositionError) → refusal_if (not b) e ≡ Ok tt → b ≡ true
unrefused true e h = refl
unrefused false e h = cc

-- ---- the set call
no_entries : (t : Registrations) → t.len ≡ 0 → entries_of registrations t ≡ []
unfolding entries_of
no_entries t h = rw h

module _ (r : CompositionRegistry) (h : GenerationalHandle) (t : Registrations) (n : ℕ) where
  abbrev changed : CompositionRegistry
  changed = with_shortcuts (replaced h.index t r.shortcuts) r

  abbrev conflict : Outcome
  conflict = conflict_refusal r.revision n

  abbrev live : Outcome
  live = surface_refusal r.surfaces h

  abbrev long : Outcome
  long = refusal_if (ltb 64 t.len) Capacity

  abbrev unfit : Outcome
  unfit = refusal_if (not (all (is_fit (descriptor_of r.surfaces h).input) (entries_of registrations t))) NotInteractive

  empty_fit : t.len ≡ 0 → number_of unfit ≡ 18 → ⊥
  empty_fit e k = let z : ◌≡◌ {A = ℕ} 0 18 = rw (no_entries t e) at k in omega arith

  pub empty_fits : t.len ≡ 0 → number_of (register_surface_system_shortcut_set r h t n).outcome ≡ 18 → ⊥
  unfolding register_surface_system_shortcut_set
  empty_fits e =
      settled_not (register_refusal r h t n) r changed
      (then_not 18 (damage_refusal r) _ (if_not 18 (not (is_sound r)) Damaged refl refl)
      (then_not 18 conflict _ (if_not 18 (not (eqb r.revision n)) RevisionConflict refl refl)
      (then_not 18 live _ (status_not 18 (surface_status r.surfaces h) InvalidSurface StaleSurface refl refl refl)
      (then_not 18 long _ (if_not 18 (ltb 64 t.len) Capacity refl refl)
      (then_not 18 unfit _ (empty_fit e)
      (if_not 18 (not (fits h.index t r.shortcuts)) PortLimit refl refl))))))

  has_room : register_refusal r h t n ≡ Ok tt → fits h.index t r.shortcuts ≡ true
  has_room a =
      unrefused (fits h.index t r.shortcuts) PortLimit
      (then_last unfit _ (then_last long _ (then_last live _ (then_last conflict _ (then_last (damage_refusal r) _ a)))))

  pub stores : (register_surface_system_shortcut_set r h t n).outcome ≡ Ok tt
      → entries_of shortcuts (register_surface_system_shortcut_set r h t n).registry.shortcuts ≡ replaced_entries h.index t r.shortcuts
  unfolding register_surface_system_shortcut_set
  stores a =
      let room = has_room (settled_accepted (register_refusal r h t n) r changed a) in
      ap (λ (x : CompositionRegistry). entries_of shortcuts x.shortcuts) (accepted_is (register_refusal r h t n) r changed a)
      ∙ rw room (entries_packed shortcuts (replaced_entries h.index t r.shortcuts))

-- ---- RULES.md, Counter table: the row of an Observe panel
module _ (r : CompositionRegistry) (h : GenerationalHandle) (o : Observing r h) where
  -- the checks that are left
  abbrev later : Registrations → Outcome
  later t =
      result_and (refusal_if (ltb 64 t.len) Capacity)
      (result_and (refusal_if (not (all (is_fit Observe) (entries_of registrations t))) NotInteractive)
      (refusal_if (not (fits h.index t r.shortcuts)) PortLimit))

  passed : (t : Registrations) → register_refusal r h t r.revision ≡ later t
  passed t = rw (o.sound, eq-eqb r.revision r.revision refl, o.live, o.observe)

  number_is : (t : Registrations) (x : Outcome) → later t ≡ x → set_number r h t ≡ number_of (settled x r (changed r h t r.revision)).outcome
  unfolding register_surface_system_shortcut_set
  number_is t x e = ap (λ (y : Outcome). number_of (settled y r (changed r h t r.revision)).outcome) (passed t ∙ e)

  pub many_is : (t : Registrations) → t.len ≡ 65 → set_number r h t ≡ 3
  many_is t e = number_is t (Err Capacity) (rw e)

  no_policy : (b : Bool) → (b && false) ≡ false
  no_policy true = refl
  no_policy false = refl

  pub one_is : (g : SurfaceShortcutRegistration) → set_number r h (packed registrations (g ∷ [])) ≡ 18
  one_is g = number_is (packed registrations (g ∷ [])) (Err NotInteractive) (rw (entries_packed registrations (g ∷ []), len_packed registrations (g ∷ []), no_policy (not (eqb g.class_mask 0))))

  few : length (entries_of shortcuts r.shortcuts) ≤ 256
  unfolding is_sound entries_of
  few =
      let a = and_right (limits_sound r.limits r.first_generation) _ o.sound in
      let b = and_right (arenas_sound r.limits r.windows r.views.arena r.surfaces.arena) _ a in
      let k : r.shortcuts.len ≤ 256 = leb-true r.shortcuts.len 256 (and_left (leb r.shortcuts.len 256) _ b) in
      simp length-take (omega arith)

  none_left : later (packed registrations []) ≡ Ok tt
  none_left = rw (entries_packed registrations [], len_packed registrations [], append-nil, le-leb _ _ room)
    where
      room : length (keep (is_of_other_slot h.index) (entries_of shortcuts r.shortcuts)) ≤ 256
      room = omega (arith, few, length_keep (is_of_other_slot h.index) (entries_of shortcuts r.shortcuts))

  pub none_is : (r.revision ≡ max_u64 → ⊥) → set_number r h (packed registrations []) ≡ 0
  unfolding advanced
  none_is n = number_is (packed registrations []) (Ok tt) none_left ∙ rw (ne_eqb _ _ n)
