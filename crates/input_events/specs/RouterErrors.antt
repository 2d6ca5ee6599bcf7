-- RULES.md, Refusals: the router's numbers, and the order of its refusals.
use Rattle.std.specs.Prelude.{ℕ, Result, Ok, Err}
use Rattle.records.specs.Errors.{answer_number, error_number, Outcome}
use Rattle.input_events.specs.declared.error.PlatformInputError.{PlatformInputError}
use Rattle.input_events.specs.declared.error.PlatformInputError.TheVariants as error

-- numbers 31 to 40 in the declared order; 41, a port limit is passed; 42, the state handed in is damaged;
-- "A composition refusal keeps its own number inside the router's."
abbrev pub router_error_number : PlatformInputError → ℕ
router_error_number error.InvalidDevice = 31
router_error_number error.InvalidSequence = 32
router_error_number error.InvalidTimestamp = 33
router_error_number error.InvalidPointer = 34
router_error_number error.InvalidPressure = 35
router_error_number error.InvalidTilt = 36
router_error_number error.InvalidTextSelection = 37
router_error_number error.InvalidShortcut = 38
router_error_number error.InvalidWindow = 39
router_error_number error.Capacity = 40
router_error_number error.PortLimit = 41
router_error_number error.Damaged = 42
router_error_number (error.Composition e) = error_number e

-- an answer of the router that has no value: accepted, or why it is refused
abbrev pub RouterOutcome : Type 0
RouterOutcome = Result (Unit {0}) PlatformInputError

-- 0 is accepted
abbrev pub router_number_of : RouterOutcome → ℕ
router_number_of = answer_number router_error_number

-- a refusal of the registry inside the router's
abbrev pub from_composition : Outcome → RouterOutcome
from_composition (Ok _) = Ok tt
from_composition (Err e) = Err (error.Composition e)
