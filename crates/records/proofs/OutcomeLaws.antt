-- Which numbers a chain of checks answers, by the cases of each check; and no refusal has number 0.
use Rattle.std.specs.Prelude.{Ok, Err}
use Rattle.std.specs.Result.{result_and}
use Prim.Native.Nat.{ℕ}
use mathlib.Core.Path.{◌≡◌, refl}
use mathlib.Core.Bool.{Bool, true, false, not, ◌&&◌}
use lib.Dec.{eqb}
use Rattle.handles.specs.declared.arena.SlotStatus.{SlotStatus}
use Rattle.handles.specs.declared.arena.SlotStatus.TheVariants.{Live, Invalid, Stale}
use Rattle.records.specs.declared.error.CompositionError.{CompositionError}
use Rattle.records.specs.declared.error.CompositionError.TheVariants as error
use Rattle.records.specs.Errors.{error_number, refusal_if, status_refusal, Outcome}

pub not_zero : (e : CompositionError) → eqb (error_number e) 0 ≡ false
not_zero error.InvalidConfig = refl
not_zero error.InvalidOwner = refl
not_zero error.Capacity = refl
not_zero error.PerViewCapacity = refl
not_zero error.InvalidWindow = refl
not_zero error.StaleWindow = refl
not_zero error.WindowInUse = refl
not_zero error.InvalidView = refl
not_zero error.StaleView = refl
not_zero error.ViewInUse = refl
not_zero error.InvalidSurface = refl
not_zero error.StaleSurface = refl
not_zero error.InvalidGeometry = refl
not_zero error.InvalidMetrics = refl
not_zero error.InvalidSurfaceState = refl
not_zero error.StaleSurfaceGeneration = refl
not_zero error.WrongView = refl
not_zero error.NotInteractive = refl
not_zero error.TextUnsupported = refl
not_zero error.RevisionConflict = refl
not_zero error.RevisionExhausted = refl
not_zero error.GenerationExhausted = refl
not_zero error.PortLimit = refl
not_zero error.Damaged = refl

-- ---- an answer that is accepted, or whose number passes a test
abbrev allows : (ℕ → Bool) → Outcome → Bool
allows p (Ok _) = true
allows p (Err e) = p (error_number e)

pub record Within (p : ℕ → Bool) (o : Outcome) : Type 0 where
  pub is : allows p o ≡ true

module _ (p : ℕ → Bool) where
  pub accepted : Within p (Ok tt)
  accepted = record { is = refl }

  both_within : (a b : Outcome) → Within p a → Within p b → Within p (result_and a b)
  both_within (Ok _) b f g = g
  both_within (Err e) b f g = f

  pub if_within : (b : Bool) (e : CompositionError) → p (error_number e) ≡ true → Within p (refusal_if b e)
  if_within true e h = record { is = h }
  if_within false e h = accepted

  pub status_within : (s : SlotStatus) (e f : CompositionError) → p (error_number e) ≡ true → p (error_number f) ≡ true → Within p (status_refusal s e f)
  status_within Live e f h k = accepted
  status_within Invalid e f h k = record { is = h }
  status_within Stale e f h k = record { is = k }

  -- numbers that pass one test pass another
  pub within_as : (q : ℕ → Bool) → ((n : ℕ) → p n ≡ true → q n ≡ true) → (o : Outcome) → Within p o → Within q o
  within_as q f (Ok _) h = record { is = refl }
  within_as q f (Err e) h = record { is = f (error_number e) h.is }

pub then_within : {p : ℕ → Bool} {a b : Outcome} → Within p a → Within p b → Within p (result_and a b)
then_within {p} {a} {b} f g = both_within p a b f g

-- ---- the numbers that neither come after a change (21) nor from the damage test (42)
abbrev pub is_plain : ℕ → Bool
is_plain n = not (eqb n 21) && not (eqb n 42)

abbrev pub Plain : Outcome → Type 0
Plain o = Within is_plain o
