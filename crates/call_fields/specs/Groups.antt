-- Handles, pointers, optional fields and registrations, by their numbers. An optional field is a flag, and behind a
-- flag of 0 stand zeros.
use Rattle.geometry.specs.declared.rect.SurfaceRect.{SurfaceRect}
use Rattle.std.specs.Prelude.{ℕ, cond, Option, None, Some}
use Rattle.std.specs.Int.{w16, w32}
use Rattle.std.proofs.Common.{of_z}
use Rattle.handles.specs.declared.GenerationalHandle.{GenerationalHandle}
use Rattle.maps.specs.declared.keys.CompositionPointerId.{CompositionPointerId}
use Rattle.maps.specs.declared.keys.InputDeviceId.{InputDeviceId}
use Rattle.records.specs.declared.shortcut.SurfaceShortcutRegistration.{SurfaceShortcutRegistration}
use Rattle.call_fields.specs.declared.groups.ButtonNumbers.{ButtonNumbers}
use Rattle.call_fields.specs.declared.groups.MaybeNumbers.{MaybeNumbers}
use Rattle.call_fields.specs.declared.groups.OptionalNumbers.{OptionalNumbers}
use Rattle.call_fields.specs.declared.groups.RectNumbers.{RectNumbers}
use Rattle.call_fields.specs.declared.groups.RegistrationNumbers.{RegistrationNumbers}
use Rattle.call_fields.specs.Narrow.{within, is_one, signed_of, short_of}
use Rattle.call_fields.specs.PanelChoices.{scope_of, scope_number}

-- index, generation
abbrev pub handle_of : ℕ → ℕ → GenerationalHandle
handle_of i g = record { index = within 4294967296 i; generation = within 4294967296 g }

unfoldable pub optional_of : OptionalNumbers → Option GenerationalHandle
optional_of n = cond (is_one n.present) (Some (handle_of n.index n.generation)) None

abbrev pub optional_numbers : Option GenerationalHandle → OptionalNumbers
optional_numbers None = record { present = 0; index = 0; generation = 0 }
optional_numbers (Some h) = record { present = 1; index = h.index; generation = h.generation }

-- device, device generation, contact
abbrev pub pointer_of : ℕ → ℕ → ℕ → CompositionPointerId
pointer_of d g c = record { device = d; device_generation = within 4294967296 g; contact = within 4294967296 c }

abbrev pub device_of : ℕ → ℕ → InputDeviceId
device_of v g = record { value = v; generation = within 4294967296 g }

-- x, y, width, height
unfoldable pub rect_of : RectNumbers → Option SurfaceRect
rect_of n =
    cond (is_one n.present)
    (Some (record {
      x_milli = signed_of n.x_milli;
      y_milli = signed_of n.y_milli;
      width_milli = within 4294967296 n.width_milli;
      height_milli = within 4294967296 n.height_milli;
    }))
    None

abbrev pub rect_numbers : Option SurfaceRect → RectNumbers
rect_numbers None = record { present = 0; x_milli = 0; y_milli = 0; width_milli = 0; height_milli = 0 }
rect_numbers (Some r) =
    record {
      present = 1;
      x_milli = of_z w32 r.x_milli;
      y_milli = of_z w32 r.y_milli;
      width_milli = r.width_milli;
      height_milli = r.height_milli;
    }

abbrev pub button_of : ButtonNumbers → Option ℕ
button_of n = cond (is_one n.present) (Some (within 256 n.button)) None

abbrev pub button_numbers : Option ℕ → ButtonNumbers
button_numbers None = record { present = 0; button = 0 }
button_numbers (Some b) = record { present = 1; button = b }

-- class mask, scope, priority
abbrev pub registration_of : RegistrationNumbers → SurfaceShortcutRegistration
registration_of n =
    record { class_mask = n.class_mask; scope = scope_of n.scope; priority = short_of n.priority }

abbrev pub registration_numbers : SurfaceShortcutRegistration → RegistrationNumbers
registration_numbers r =
    record { class_mask = r.class_mask; scope = scope_number r.scope; priority = of_z w16 r.priority }

unfoldable pub maybe_of : MaybeNumbers → Option SurfaceShortcutRegistration
maybe_of n = cond (is_one n.present) (Some (registration_of n.registration)) None

abbrev pub maybe_numbers : Option SurfaceShortcutRegistration → MaybeNumbers
maybe_numbers None =
    record { present = 0; registration = record { class_mask = 0; scope = 0; priority = 0 } }
maybe_numbers (Some r) = record { present = 1; registration = registration_numbers r }
