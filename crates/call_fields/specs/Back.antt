-- Each value is read back from its number.
use Rattle.std.specs.Prelude.{◌≡◌, ℕ, ◌+◌, ◌<◌, ◌^◌, Bool, true, false, ℤ, pos, negsuc}
use Rattle.std.specs.Int.{w16, w32}
use Rattle.std.proofs.Common.{refl, ap, ◌∙◌, to_z, of_z, SFits, arith, to_z-of_z}
use borrow.Author.Tests.{lt-ltb}
use mir.Syntax.{Width}
use mir.Val.{bits, hbits}
use Rattle.call_fields.specs.Narrow.{within, is_one, one_if, signed_of, short_of}
use Rattle.call_fields.specs.PanelChoices.{surface_kind_of, surface_kind_number, policy_of, policy_number, visibility_of, visibility_number, scope_of, scope_number}
use Rattle.call_fields.specs.EventChoices.{device_kind_of, device_kind_number, key_phase_of, key_phase_number, pointer_phase_of, pointer_phase_number, wheel_unit_of, wheel_unit_number, composition_phase_of, composition_phase_number, mapping_of, mapping_number}
use Rattle.records.specs.declared.surface.SurfaceKind.{SurfaceKind}
use Rattle.records.specs.declared.surface.SurfaceKind.TheVariants as surface_kind
use Rattle.records.specs.declared.surface.SurfaceInputPolicy.{SurfaceInputPolicy}
use Rattle.records.specs.declared.surface.SurfaceInputPolicy.TheVariants as policy
use Rattle.geometry.specs.declared.metrics.ViewVisibility.{ViewVisibility}
use Rattle.geometry.specs.declared.metrics.ViewVisibility.TheVariants as visibility
use Rattle.records.specs.declared.shortcut.ShortcutScope.{ShortcutScope}
use Rattle.records.specs.declared.shortcut.ShortcutScope.TheVariants as scope
use Rattle.input_events.specs.declared.event.InputDeviceKind.{InputDeviceKind}
use Rattle.input_events.specs.declared.event.InputDeviceKind.TheVariants as device_kind
use Rattle.input_events.specs.declared.event.KeyPhase.{KeyPhase}
use Rattle.input_events.specs.declared.event.KeyPhase.TheVariants as key_phase
use Rattle.input_events.specs.declared.event.PointerPhase.{PointerPhase}
use Rattle.input_events.specs.declared.event.PointerPhase.TheVariants as pointer_phase
use Rattle.input_events.specs.declared.event.WheelUnit.{WheelUnit}
use Rattle.input_events.specs.declared.event.WheelUnit.TheVariants as wheel_unit
use Rattle.input_events.specs.declared.event.CompositionPhase.{CompositionPhase}
use Rattle.input_events.specs.declared.event.CompositionPhase.TheVariants as composition_phase
use Rattle.input_events.specs.declared.event.GamepadMapping.{GamepadMapping}
use Rattle.input_events.specs.declared.event.GamepadMapping.TheVariants as mapping

pub within_back : (top n : ℕ) → n < top → within top n ≡ n
unfolding within
within_back top n h = rw (lt-ltb n top h)

pub flag_back : (f : Bool) → is_one (one_if f) ≡ f
flag_back true = refl
flag_back false = refl

-- the bits of a signed number fit its width
short : (w : Width) (half : ℕ) (z : ℤ) → 2 ^ hbits w ≡ half → 2 ^ bits w ≡ half + half → SFits w z → of_z w z < half + half
short w half (pos n) low two f = let h : n < half = rw low at f.sfits in omega arith
short w half (negsuc n) low two f = let h : n < half = rw low at f.sfits in rw two (omega arith)

pub signed_back : (z : ℤ) → SFits w32 z → signed_of (of_z w32 z) ≡ z
unfolding signed_of
signed_back z f = ap (to_z w32) (within_back 4294967296 (of_z w32 z) (short w32 2147483648 z refl refl f)) ∙ to_z-of_z f

pub short_back : (z : ℤ) → SFits w16 z → short_of (of_z w16 z) ≡ z
unfolding short_of
short_back z f = ap (to_z w16) (within_back 65536 (of_z w16 z) (short w16 32768 z refl refl f)) ∙ to_z-of_z f

pub surface_kind_back : (x : SurfaceKind) → surface_kind_of (surface_kind_number x) ≡ x
unfolding surface_kind_of
surface_kind_back surface_kind.Game = refl
surface_kind_back surface_kind.Ui = refl
surface_kind_back surface_kind.Diagnostics = refl

pub policy_back : (x : SurfaceInputPolicy) → policy_of (policy_number x) ≡ x
unfolding policy_of
policy_back policy.Observe = refl
policy_back policy.Passthrough = refl
policy_back policy.Interactive = refl
policy_back policy.Exclusive = refl

pub visibility_back : (x : ViewVisibility) → visibility_of (visibility_number x) ≡ x
unfolding visibility_of
visibility_back visibility.Visible = refl
visibility_back visibility.Hidden = refl
visibility_back visibility.Suspended = refl

pub scope_back : (x : ShortcutScope) → scope_of (scope_number x) ≡ x
unfolding scope_of
scope_back scope.View = refl
scope_back scope.Window = refl
scope_back scope.Session = refl

pub device_kind_back : (x : InputDeviceKind) → device_kind_of (device_kind_number x) ≡ x
unfolding device_kind_of
device_kind_back device_kind.Mouse = refl
device_kind_back device_kind.Touch = refl
device_kind_back device_kind.Pen = refl
device_kind_back device_kind.Keyboard = refl
device_kind_back device_kind.Gamepad = refl

pub key_phase_back : (x : KeyPhase) → key_phase_of (key_phase_number x) ≡ x
unfolding key_phase_of
key_phase_back key_phase.Down = refl
key_phase_back key_phase.Up = refl

pub pointer_phase_back : (x : PointerPhase) → pointer_phase_of (pointer_phase_number x) ≡ x
unfolding pointer_phase_of
pointer_phase_back pointer_phase.Down = refl
pointer_phase_back pointer_phase.Move = refl
pointer_phase_back pointer_phase.Up = refl
pointer_phase_back pointer_phase.Cancel = refl

pub wheel_unit_back : (x : WheelUnit) → wheel_unit_of (wheel_unit_number x) ≡ x
unfolding wheel_unit_of
wheel_unit_back wheel_unit.Pixel = refl
wheel_unit_back wheel_unit.Line = refl
wheel_unit_back wheel_unit.Page = refl

pub composition_phase_back : (x : CompositionPhase) → composition_phase_of (composition_phase_number x) ≡ x
unfolding composition_phase_of
composition_phase_back composition_phase.Start = refl
composition_phase_back composition_phase.Update = refl
composition_phase_back composition_phase.End = refl
composition_phase_back composition_phase.Cancel = refl

pub mapping_back : (x : GamepadMapping) → mapping_of (mapping_number x) ≡ x
unfolding mapping_of
mapping_back mapping.Standard = refl
mapping_back mapping.Raw = refl
