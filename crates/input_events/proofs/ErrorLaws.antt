-- No refusal of the router has number 0, by the cases of the refusals.
use mathlib.Core.Path.{◌≡◌, refl}
use mathlib.Core.Bool.{false}
use lib.Dec.{eqb}
use Rattle.records.proofs.OutcomeLaws.{not_zero}
use Rattle.input_events.specs.declared.error.PlatformInputError.{PlatformInputError}
use Rattle.input_events.specs.declared.error.PlatformInputError.TheVariants as error
use Rattle.input_events.specs.RouterErrors.{router_error_number}

pub refused_number : (e : PlatformInputError) → eqb (router_error_number e) 0 ≡ false
refused_number error.InvalidDevice = refl
refused_number error.InvalidSequence = refl
refused_number error.InvalidTimestamp = refl
refused_number error.InvalidPointer = refl
refused_number error.InvalidPressure = refl
refused_number error.InvalidTilt = refl
refused_number error.InvalidTextSelection = refl
refused_number error.InvalidShortcut = refl
refused_number error.InvalidWindow = refl
refused_number error.Capacity = refl
refused_number error.PortLimit = refl
refused_number error.Damaged = refl
refused_number (error.Composition e) = not_zero e
