-- Registrations and their numbers are one another's image, entry by entry: a scope below 3 and 16 bits of priority are read as what they are written from.
use Prim.Native.Nat.{ℕ, zero, suc, ◌<◌}
use mathlib.Core.Path.{◌≡◌, refl, sym, ap, ◌∙◌}
use mathlib.Core.Bool.{true, ◌&&◌}
use mathlib.Core.List.{List, [], ◌∷◌, map}
use native.Mathlib.Omega.{arith}
use borrow.Author.Tests.{eqb-true, ltb-true}
use lib.Dec.{eqb, ltb}
use lib.ListN.{length, get_or}
use mir.Syntax.{w16}
use mir.Val.{of_z, SFits}
use mir.Facts.{of_z-to_z}
use Rattle.lists.specs.Below.{all_below}
use Rattle.lists.proofs.BelowLaws.{all_at}
use Rattle.lists.proofs.ListLaws.{by_test, and_left, and_right}
use Rattle.records.specs.declared.shortcut.SurfaceShortcutRegistration.{SurfaceShortcutRegistration}
use Rattle.composition_shortcuts.specs.Register.{registration_of as of_mask}
use Rattle.call_fields.specs.declared.groups.RegistrationNumbers.{RegistrationNumbers}
use Rattle.call_fields.specs.Groups.{registration_of, registration_numbers}
use Rattle.call_fields.specs.Narrow.{short_of}
use Rattle.call_fields.specs.PanelChoices.{scope_of, scope_number}
use Rattle.call_fields.specs.Back.{scope_back, within_back, short_back}
use Rattle.host_message.specs.declared.registrations.RegistrationsNumbers.{RegistrationsNumbers}
use Rattle.host_message.specs.Claims.{RegistrationClaims}
use Rattle.host_message.specs.Registrations.{registrations_of, registrations_numbers, is_entry_form, entry_form}

-- a list is as it was, if each entry is after both
back_and_forth : {A B : Type 0} (f : A → B) (g : B → A) (d : A) (l : List A) → ((i : ℕ) → i < length l → g (f (get_or l i d)) ≡ get_or l i d) → map g (map f l) ≡ l
back_and_forth f g d [] h = refl
back_and_forth f g d (x ∷ l) h = λ k. h 0 (omega arith) k ∷ back_and_forth f g d l (λ i below. h (suc i) (omega arith)) k

scope_forth : (n : ℕ) → n < 3 → scope_number (scope_of n) ≡ n
unfolding scope_of
scope_forth zero h = refl
scope_forth (suc zero) h = refl
scope_forth (suc (suc zero)) h = refl
scope_forth (suc (suc (suc n))) h = absurd (omega arith)

priority_forth : (n : ℕ) → n < 65536 → of_z w16 (short_of n) ≡ n
unfolding short_of
priority_forth n h = rw (within_back 65536 n h) (of_z-to_z {w = w16} {n = n} (record { fits = h }))

entry_forth : (w : RegistrationNumbers) → w.scope < 3 → w.priority < 65536 → registration_numbers (registration_of w) ≡ w
entry_forth w s p = λ k. record { class_mask = w.class_mask; scope = scope_forth w.scope s k; priority = priority_forth w.priority p k }

entry_back : (r : SurfaceShortcutRegistration) → SFits w16 r.priority → registration_of (registration_numbers r) ≡ r
entry_back r f = λ k. record { class_mask = r.class_mask; scope = scope_back r.scope k; priority = short_back r.priority f k }

-- an entry that passes the test is written as it was, within the count and behind it
form_forth : (n i : ℕ) (w : RegistrationNumbers) → is_entry_form n i w ≡ true → registration_numbers (registration_of w) ≡ w
form_forth n i w h =
    let scope = ltb w.scope 3 in
    let priority = ltb w.priority 65536 in
    let mask-zero = eqb w.class_mask 0 in
    let scope-zero = eqb w.scope 0 in
    let priority-zero = eqb w.priority 0 in
    by_test (ltb i n)
    (λ t. let both : (scope && priority) ≡ true = rw t at h in entry_forth w (ltb-true _ _ (and_left scope priority both)) (ltb-true _ _ (and_right scope priority both)))
    (λ t. let zeros : (mask-zero && (scope-zero && priority-zero)) ≡ true = rw t at h in
    let rest : (scope-zero && priority-zero) ≡ true = and_right mask-zero (scope-zero && priority-zero) zeros in
    let s : w.scope ≡ 0 = eqb-true _ _ (and_left scope-zero priority-zero rest) in
    let p : w.priority ≡ 0 = eqb-true _ _ (and_right scope-zero priority-zero rest) in
    entry_forth w (omega arith) (omega arith))

forth : (w : RegistrationsNumbers) → length w.items ≡ 64 → all_below (entry_form w) 64 ≡ true → registrations_numbers (registrations_of w) ≡ w
forth w e h = λ k. record { len = w.len; items = back_and_forth registration_of registration_numbers _ w.items (λ i below. form_forth w.len i _ (all_at (entry_form w) 64 i h (omega arith))) k }

pub registration_claims : RegistrationClaims
registration_claims = record {
  back = λ r f. λ k. record { items = back_and_forth registration_numbers registration_of (of_mask 0) r.items (λ i below. entry_back _ (f i below)) k; len = r.len };
  forth = forth;
  one_form = λ v w d e g h same. sym (forth v d g) ∙ ap registrations_numbers same ∙ forth w e h;
}
