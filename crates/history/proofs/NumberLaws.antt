-- A refusal's number is not 0, by the cases of the refusals; and what each passed check of the router says.
use Rattle.std.specs.Result.{result_and}
use Rattle.std.specs.Prelude.{is_ok, Ok, Err}
use mathlib.Core.Path.{◌≡◌, refl, ap}
use mathlib.Core.Bool.{Bool, true, false}
use lib.Dec.{eqb}
use Rattle.lists.proofs.ListLaws.{clash}
use Rattle.records.specs.declared.error.CompositionError.{CompositionError}
use Rattle.records.specs.declared.error.CompositionError.TheVariants as composition
use Rattle.records.specs.Errors.{error_number, refusal_if, Outcome}
use Rattle.input_events.specs.declared.error.PlatformInputError.{PlatformInputError}
use Rattle.input_events.specs.declared.error.PlatformInputError.TheVariants as error
use Rattle.input_events.specs.RouterErrors.{router_error_number, from_composition, RouterOutcome}

registry_number : (e : CompositionError) → eqb (error_number e) 0 ≡ false
registry_number composition.InvalidConfig = refl
registry_number composition.InvalidOwner = refl
registry_number composition.Capacity = refl
registry_number composition.PerViewCapacity = refl
registry_number composition.InvalidWindow = refl
registry_number composition.StaleWindow = refl
registry_number composition.WindowInUse = refl
registry_number composition.InvalidView = refl
registry_number composition.StaleView = refl
registry_number composition.ViewInUse = refl
registry_number composition.InvalidSurface = refl
registry_number composition.StaleSurface = refl
registry_number composition.InvalidGeometry = refl
registry_number composition.InvalidMetrics = refl
registry_number composition.InvalidSurfaceState = refl
registry_number composition.StaleSurfaceGeneration = refl
registry_number composition.WrongView = refl
registry_number composition.NotInteractive = refl
registry_number composition.TextUnsupported = refl
registry_number composition.RevisionConflict = refl
registry_number composition.RevisionExhausted = refl
registry_number composition.GenerationExhausted = refl
registry_number composition.PortLimit = refl
registry_number composition.Damaged = refl

pub refused_number : (e : PlatformInputError) → eqb (router_error_number e) 0 ≡ false
refused_number error.InvalidDevice = refl
refused_number error.InvalidSequence = refl
refused_number error.InvalidTimestamp = refl
refused_number error.InvalidPointer = refl
refused_number error.InvalidPressure = refl
refused_number error.InvalidTilt = refl
refused_number error.InvalidTextSelection = refl
refused_number error.InvalidShortcut = refl
refused_number error.InvalidWindow = refl
refused_number error.Capacity = refl
refused_number error.PortLimit = refl
refused_number error.Damaged = refl
refused_number (error.Composition e) = registry_number e

-- ---- the router's checks go in order
refused≢accepted {ℓ} : {P : Type ℓ} {e : PlatformInputError} → ◌≡◌ {A = RouterOutcome} (Err e) (Ok tt) → P
refused≢accepted q = clash (ap (λ (o : RouterOutcome). is_ok o) q) refl

pub then_first : (a b : RouterOutcome) → result_and a b ≡ Ok tt → a ≡ Ok tt
then_first (Ok _) b h = refl
then_first (Err e) b h = h

pub then_last : (a b : RouterOutcome) → result_and a b ≡ Ok tt → b ≡ Ok tt
then_last (Ok _) b h = h
then_last (Err e) b h = refused≢accepted h

pub if_accepted : (t : Bool) (e : PlatformInputError) → refusal_if t e ≡ Ok tt → t ≡ false
if_accepted true e h = refused≢accepted h
if_accepted false e h = refl

pub from_accepted : (o : Outcome) → from_composition o ≡ Ok tt → o ≡ Ok tt
from_accepted (Ok _) h = refl
from_accepted (Err e) h = refused≢accepted h
