-- What `settled` leaves, by the cases of the refusal and of the revision: nothing changes, or the change with its revision raised.
use Rattle.std.specs.Prelude.{is_ok, Ok, Err}
use Rattle.std.specs.Result.{result_and, result_unwrap_or}
use Prim.Native.Nat.{ℕ, ◌+◌}
use mathlib.Core.Path.{◌≡◌, refl, sym, ap, subst, ◌∙◌}
use mathlib.Core.Bool.{Bool, true, false}
use native.Mathlib.Omega.{arith}
use lib.Dec.{eqb}
use Rattle.lists.specs.Numbers.{max_u64}
use Rattle.lists.proofs.ListLaws.{by_test, clash}
use Rattle.records.specs.declared.error.CompositionError.{CompositionError}
use Rattle.records.specs.declared.error.CompositionError.TheVariants.{RevisionExhausted}
use Rattle.composition_state.specs.declared.registry.CompositionRegistry.{CompositionRegistry}
use Rattle.records.specs.Errors.{refusal_if, Outcome}
use Rattle.composition_state.specs.Registry.{Changed, with_revision, advanced, settled, answered_with, outcome_of}
use Rattle.composition_state.specs.Settles.{Settles}

refused≢accepted {ℓ} : {P : Type ℓ} {e : CompositionError} → ◌≡◌ {A = Outcome} (Err e) (Ok tt) → P
refused≢accepted {P} {e} q = let z : ◌≡◌ {A = ℕ} 0 1 = cc in absurd (omega arith)

-- the value that a call makes does not alter whether it is accepted
pub without_value : {T : Type 0} (v : T) (o : Outcome) → result_and (result_and o (Ok v)) (Ok tt) ≡ o
without_value v (Ok _) = refl
without_value v (Err e) = refl

pub outcome_is : {T : Type 0} (v : T) (c : Changed) → outcome_of (answered_with v c) ≡ c.outcome
outcome_is v c = without_value v c.outcome

-- an answer with a value is that of an accepted change, and a refused one is that of a refused change
pub value_given : {T : Type 0} (v x : T) (o : Outcome) → result_and o (Ok v) ≡ Ok x → (o ≡ Ok tt) × (x ≡ v)
value_given {T} v x (Ok _) q = (refl, sym (ap (λ r. result_unwrap_or r v) q))
value_given {T} v x (Err e) q = clash (ap is_ok q) refl

pub error_given : {T : Type 0} (v : T) (e : CompositionError) (o : Outcome) → result_and o (Ok v) ≡ Err e → o ≡ Err e
error_given v e (Ok _) q = clash (sym (ap is_ok q)) refl
error_given v e (Err f) q = cc

-- ---- an accepted outcome: what each check of it was
pub accepted_eq : (o : Outcome) → is_ok o ≡ true → o ≡ Ok tt
accepted_eq (Ok _) t = refl
accepted_eq (Err e) t = clash t refl

pub then_last : (a b : Outcome) → result_and a b ≡ Ok tt → b ≡ Ok tt
then_last (Ok _) b h = h
then_last (Err e) b h = refused≢accepted h

pub if_accepted : (t : Bool) (e : CompositionError) → refusal_if t e ≡ Ok tt → t ≡ false
if_accepted true e h = refused≢accepted h
if_accepted false e h = refl

-- ---- what is settled
same_error : {e f : CompositionError} → ◌≡◌ {A = Outcome} (Err e) (Err f) → e ≡ f
same_error {e} {f} q = cc

-- an accepted change is the changed registry with its revision raised
advanced_is : (c : CompositionRegistry) → (advanced c).outcome ≡ Ok tt → (advanced c).registry ≡ with_revision (c.revision + 1) c
unfolding advanced
advanced_is c h = by_test (eqb c.revision max_u64)
    (λ t. refused≢accepted (simp t at h))
    (λ t. simp t)

pub accepted_is : (o : Outcome) (r c : CompositionRegistry) → (settled o r c).outcome ≡ Ok tt → (settled o r c).registry ≡ with_revision (c.revision + 1) c
accepted_is (Ok _) r c h = advanced_is c h
accepted_is (Err e) r c h = refused≢accepted h

advanced_refused : (c : CompositionRegistry) (e : CompositionError) → (advanced c).outcome ≡ Err e → e ≡ RevisionExhausted
unfolding advanced
advanced_refused c e h = by_test (eqb c.revision max_u64)
    (λ t. sym (same_error (simp t at h)))
    (λ t. refused≢accepted (sym (simp t at h)))

-- a refusal other than 21 leaves the registry as it came
pub refused_is : (o : Outcome) (r c : CompositionRegistry) (e : CompositionError) → (settled o r c).outcome ≡ Err e → (e ≡ RevisionExhausted → ⊥) → (settled o r c).registry ≡ r
refused_is (Ok _) r c e h n = absurd (n (advanced_refused c e h))
refused_is (Err f) r c e h n = refl

pub settled_accepted : (o : Outcome) (r c : CompositionRegistry) → (settled o r c).outcome ≡ Ok tt → o ≡ Ok tt
settled_accepted (Ok _) r c h = refl
settled_accepted (Err e) r c h = refused≢accepted h

-- where 21 is among the checks, every refusal leaves the registry as it came
pub refused_early : (o : Outcome) (r c : CompositionRegistry) (e : CompositionError) → (o ≡ Ok tt → eqb c.revision max_u64 ≡ false)
    → (settled o r c).outcome ≡ Err e → (settled o r c).registry ≡ r
unfolding advanced
refused_early (Ok _) r c e room h = refused≢accepted (sym (simp (room refl) at h))
refused_early (Err f) r c e room h = refl

pub settles : (o : Outcome) (r c : CompositionRegistry) → c.revision ≡ r.revision → Settles r (settled o r c).outcome (settled o r c).registry
settles o r c same = record {
  refused = refused_is o r c;
  accepted = λ h. ap (λ (x : CompositionRegistry). x.revision) (accepted_is o r c h) ∙ ap (λ n. n + 1) same;
}

-- a call that makes a value settles as the change does
pub settles_made : {T : Type 0} (v : T) (o : Outcome) (r c : CompositionRegistry) → c.revision ≡ r.revision
    → Settles r (outcome_of (answered_with v (settled o r c))) (settled o r c).registry
settles_made v o r c q = subst (λ (x : Outcome). Settles r x (settled o r c).registry) (sym (outcome_is v (settled o r c))) (settles o r c q)
