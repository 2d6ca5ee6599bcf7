-- What a refusal of a settled change leaves: by the cases of its checks and of the revision.
use Rattle.std.specs.Prelude.{Result, Ok, Err}
use Rattle.std.specs.Result.{result_and}
use mathlib.Core.Path.{◌≡◌, refl, sym, ap}
use mathlib.Core.Bool.{Bool, true, false, cond, ◌&&◌}
use Prim.Native.Nat.{ℕ}
use native.Mathlib.Omega.{arith}
use borrow.Author.Tests.{not-true}
use lib.Dec.{eqb}
use Rattle.lists.specs.Numbers.{max_u64}
use Rattle.lists.proofs.ListLaws.{by_test}
use Rattle.records.specs.declared.error.CompositionError.{CompositionError}
use Rattle.records.specs.declared.error.CompositionError.TheVariants.{RevisionExhausted}
use Rattle.composition_state.specs.declared.registry.CompositionRegistry.{CompositionRegistry}
use Rattle.records.specs.Errors.{error_number, Outcome}
use Rattle.composition_state.specs.Registry.{advanced, settled}
use Rattle.input_events.specs.declared.error.PlatformInputError.{PlatformInputError}
use Rattle.input_events.specs.RouterErrors.{router_error_number, from_composition, RouterOutcome}
use Rattle.input_releases.specs.declared.answer.PlatformInputRoutingReport.{PlatformInputRoutingReport}
use Rattle.input_releases.specs.Answers.{no_report}
use Rattle.counter.specs.declared.step.Counter.{Counter}
use Rattle.refusals.specs.Written.{Written, after_refusal, change_if, comes_with}
use Rattle.refusals.proofs.NumberLaws.{Other}

pub accepted≢refused {ℓ} : {P : Type ℓ} {e : PlatformInputError} → ◌≡◌ {A = RouterOutcome} (Ok tt) (Err e) → P
accepted≢refused {P} {e} q = let z : ◌≡◌ {A = ℕ} 0 1 = cc in absurd (omega arith)

pub taken≢refused {ℓ} : {P : Type ℓ} {e : CompositionError} → ◌≡◌ {A = Outcome} (Ok tt) (Err e) → P
taken≢refused {P} {e} q = let z : ◌≡◌ {A = ℕ} 0 1 = cc in absurd (omega arith)

pub same_error : {e f : CompositionError} → ◌≡◌ {A = Outcome} (Err e) (Err f) → e ≡ f
same_error {e} {f} q = cc

pub same_refusal : {e f : PlatformInputError} → ◌≡◌ {A = RouterOutcome} (Err e) (Err f) → e ≡ f
same_refusal {e} {f} q = cc

-- an answer is refused as its outcome is, and the value that a call makes does not alter that
pub refused_answer : {T : Type 0} (o : Result T CompositionError) (e : CompositionError) → ◌≡◌ {A = Outcome} (result_and o (Ok tt)) (Err e) → o ≡ Err e
refused_answer (Ok x) e q = taken≢refused q
refused_answer (Err f) e q = let same : f ≡ e = same_error q in cc

pub without_value : {T : Type 0} (v : T) (o : Outcome) (e : CompositionError)
    → ◌≡◌ {A = Outcome} (result_and (result_and o (Ok v)) (Ok tt)) (Err e) → o ≡ Err e
without_value v (Ok _) e q = taken≢refused q
without_value v (Err f) e q = q

-- ---- a change that is refused: by 21, and it stays
pub record Late (changed : CompositionRegistry) (e : CompositionError) (after : CompositionRegistry) : Type 0 where
  pub last : RevisionExhausted ≡ e
  pub stays : after ≡ changed

pub advanced_late : (changed : CompositionRegistry) (e : CompositionError) → (advanced changed).outcome ≡ Err e → Late changed e (advanced changed).registry
unfolding advanced
advanced_late changed e q = by_test (eqb changed.revision max_u64)
    (λ t. record { last = same_error (simp t at q); stays = simp t })
    (λ t. taken≢refused (simp t at q))

-- a call that settles: 21 leaves the change, and any other refusal the registry that came in
pub settled_late : (o : Outcome) (r changed : CompositionRegistry) → Other o → (e : CompositionError) → (settled o r changed).outcome ≡ Err e
    → (settled o r changed).registry ≡ cond (eqb (error_number e) 21) changed r
settled_late (Ok _) r changed n e q =
    let l = advanced_late changed e q in
    rw (sym l.last) l.stays
settled_late (Err f) r changed n e q = rw (sym (same_error q), not-true (eqb (error_number f) 21) n.is)

-- ---- what is left of a counter, with the number that it comes with and the report
pub record Kept (c : Counter) (report : PlatformInputRoutingReport) (after : Counter) (w : Written) (n : ℕ) : Type 0 where
  pub leaves : after ≡ after_refusal c w
  pub comes_with_lem : comes_with w n ≡ true
  pub unlisted : report ≡ no_report

-- the counter with another registry
abbrev pub at : Counter → CompositionRegistry → Counter
at c r = record { registry = r; router = c.router }

-- a call on the registry, which reports nothing and leaves the router
abbrev pub KeptAt : Counter → CompositionRegistry → Written → ℕ → Type 0
KeptAt c r w n = Kept c no_report (at c r) w n

-- a refusal of the registry is carried whole, with its number
pub carried : (P : ℕ → Type 0) (o : Outcome) → ((x : CompositionError) → o ≡ Err x → P (error_number x))
    → (e : PlatformInputError) → from_composition o ≡ Err e → P (router_error_number e)
carried P (Ok _) k e q = accepted≢refused q
carried P (Err y) k e q = rw (sym (same_refusal q)) (k y refl)

-- a registry that is the change or what came in, by a test and by 21
pub kept_if : (c : Counter) (r changed : CompositionRegistry) (b : Bool) (n : ℕ) → r ≡ cond (b && eqb n 21) changed c.registry → KeptAt c r (change_if (b && eqb n 21) changed) n
kept_if c r changed false n q = record { leaves = ap (at c) q; comes_with_lem = refl; unlisted = refl }
kept_if c r changed true n q = by_test (eqb n 21)
    (λ t. rw t (record { leaves = ap (at c) (rw t at q); comes_with_lem = t; unlisted = refl }))
    (λ t. rw t (record { leaves = ap (at c) (rw t at q); comes_with_lem = refl; unlisted = refl }))
