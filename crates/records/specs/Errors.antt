-- RULES.md, Refusals: the numbers, and the order of refusals.
use Rattle.std.specs.Prelude.{ℕ, Bool, true, false, Result, Ok, Err}
use Rattle.handles.specs.declared.arena.SlotStatus.{SlotStatus}
use Rattle.handles.specs.declared.arena.SlotStatus.TheVariants.{Live, Invalid, Stale}
use Rattle.records.specs.declared.error.CompositionError.{CompositionError}
use Rattle.records.specs.declared.error.CompositionError.TheVariants as error

-- numbers 1 to 22 in the declared order; 41, a port limit is passed; 42, the state handed in is damaged
abbrev pub error_number : CompositionError → ℕ
error_number error.InvalidConfig = 1
error_number error.InvalidOwner = 2
error_number error.Capacity = 3
error_number error.PerViewCapacity = 4
error_number error.InvalidWindow = 5
error_number error.StaleWindow = 6
error_number error.WindowInUse = 7
error_number error.InvalidView = 8
error_number error.StaleView = 9
error_number error.ViewInUse = 10
error_number error.InvalidSurface = 11
error_number error.StaleSurface = 12
error_number error.InvalidGeometry = 13
error_number error.InvalidMetrics = 14
error_number error.InvalidSurfaceState = 15
error_number error.StaleSurfaceGeneration = 16
error_number error.WrongView = 17
error_number error.NotInteractive = 18
error_number error.TextUnsupported = 19
error_number error.RevisionConflict = 20
error_number error.RevisionExhausted = 21
error_number error.GenerationExhausted = 22
error_number error.PortLimit = 41
error_number error.Damaged = 42

-- a call's answer that has no value: accepted, or why it is refused
abbrev pub Outcome : Type 0
Outcome = Result (Unit {0}) CompositionError

-- 0 is accepted
abbrev pub answer_number : {E : Type 0} → (E → ℕ) → Result (Unit {0}) E → ℕ
answer_number number (Ok _) = 0
answer_number number (Err e) = number e

abbrev pub number_of : Outcome → ℕ
number_of = answer_number error_number

abbrev pub refusal_if : {E : Type 0} → Bool → E → Result (Unit {0}) E
refusal_if true e = Err e
refusal_if false e = Ok tt

-- 5, 8, 11: generation 0 or a slot never used; 6, 9, 12: the slot is empty or of another generation
abbrev pub status_refusal : SlotStatus → CompositionError → CompositionError → Outcome
status_refusal Live invalid stale = Ok tt
status_refusal Invalid invalid stale = Err invalid
status_refusal Stale invalid stale = Err stale
