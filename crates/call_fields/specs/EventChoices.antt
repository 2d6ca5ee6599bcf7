-- The enums of an input event, by their numbers: the declared order from 0; past it the first.
use Rattle.std.specs.Prelude.{ℕ, List, [], ◌∷◌, get_or}
use Rattle.input_events.specs.declared.event.InputDeviceKind.{InputDeviceKind}
use Rattle.input_events.specs.declared.event.InputDeviceKind.TheVariants as device_kind
use Rattle.input_events.specs.declared.event.KeyPhase.{KeyPhase}
use Rattle.input_events.specs.declared.event.KeyPhase.TheVariants as key_phase
use Rattle.input_events.specs.declared.event.PointerPhase.{PointerPhase}
use Rattle.input_events.specs.declared.event.PointerPhase.TheVariants as pointer_phase
use Rattle.input_events.specs.declared.event.WheelUnit.{WheelUnit}
use Rattle.input_events.specs.declared.event.WheelUnit.TheVariants as wheel_unit
use Rattle.input_events.specs.declared.event.CompositionPhase.{CompositionPhase}
use Rattle.input_events.specs.declared.event.CompositionPhase.TheVariants as composition_phase
use Rattle.input_events.specs.declared.event.GamepadMapping.{GamepadMapping}
use Rattle.input_events.specs.declared.event.GamepadMapping.TheVariants as mapping

-- a device's kind
abbrev pub device_kinds : List InputDeviceKind
device_kinds = device_kind.Mouse ∷ device_kind.Touch ∷ device_kind.Pen ∷ device_kind.Keyboard ∷ device_kind.Gamepad ∷ []

unfoldable pub device_kind_of : ℕ → InputDeviceKind
device_kind_of n = get_or device_kinds n device_kind.Mouse

abbrev pub device_kind_number : InputDeviceKind → ℕ
device_kind_number device_kind.Mouse = 0
device_kind_number device_kind.Touch = 1
device_kind_number device_kind.Pen = 2
device_kind_number device_kind.Keyboard = 3
device_kind_number device_kind.Gamepad = 4

-- a key's phase
abbrev pub key_phases : List KeyPhase
key_phases = key_phase.Down ∷ key_phase.Up ∷ []

unfoldable pub key_phase_of : ℕ → KeyPhase
key_phase_of n = get_or key_phases n key_phase.Down

abbrev pub key_phase_number : KeyPhase → ℕ
key_phase_number key_phase.Down = 0
key_phase_number key_phase.Up = 1

-- a pointer's phase
abbrev pub pointer_phases : List PointerPhase
pointer_phases = pointer_phase.Down ∷ pointer_phase.Move ∷ pointer_phase.Up ∷ pointer_phase.Cancel ∷ []

unfoldable pub pointer_phase_of : ℕ → PointerPhase
pointer_phase_of n = get_or pointer_phases n pointer_phase.Down

abbrev pub pointer_phase_number : PointerPhase → ℕ
pointer_phase_number pointer_phase.Down = 0
pointer_phase_number pointer_phase.Move = 1
pointer_phase_number pointer_phase.Up = 2
pointer_phase_number pointer_phase.Cancel = 3

-- a wheel's unit
abbrev pub wheel_units : List WheelUnit
wheel_units = wheel_unit.Pixel ∷ wheel_unit.Line ∷ wheel_unit.Page ∷ []

unfoldable pub wheel_unit_of : ℕ → WheelUnit
wheel_unit_of n = get_or wheel_units n wheel_unit.Pixel

abbrev pub wheel_unit_number : WheelUnit → ℕ
wheel_unit_number wheel_unit.Pixel = 0
wheel_unit_number wheel_unit.Line = 1
wheel_unit_number wheel_unit.Page = 2

-- a composition's phase
abbrev pub composition_phases : List CompositionPhase
composition_phases =
    composition_phase.Start ∷ composition_phase.Update ∷ composition_phase.End ∷ composition_phase.Cancel ∷ []

unfoldable pub composition_phase_of : ℕ → CompositionPhase
composition_phase_of n = get_or composition_phases n composition_phase.Start

abbrev pub composition_phase_number : CompositionPhase → ℕ
composition_phase_number composition_phase.Start = 0
composition_phase_number composition_phase.Update = 1
composition_phase_number composition_phase.End = 2
composition_phase_number composition_phase.Cancel = 3

-- a gamepad's mapping
abbrev pub mappings : List GamepadMapping
mappings = mapping.Standard ∷ mapping.Raw ∷ []

unfoldable pub mapping_of : ℕ → GamepadMapping
mapping_of n = get_or mappings n mapping.Standard

abbrev pub mapping_number : GamepadMapping → ℕ
mapping_number mapping.Standard = 0
mapping_number mapping.Raw = 1
