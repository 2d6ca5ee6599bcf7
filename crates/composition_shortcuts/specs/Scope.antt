-- RULES.md, System shortcut: which registration counts.
use Rattle.std.specs.Prelude.{ℕ, Bool, true, not, ◌&&◌, eqb, ltb}
use Rattle.std.specs.Int.Bits.{bit_and}
use Rattle.handles.specs.Handles.{handle_of, same_handle}
use Rattle.handles.specs.Slots.{slot_at}
use Rattle.handles.specs.declared.arena.Arena.{Arena}
use Rattle.handles.specs.declared.GenerationalHandle.{GenerationalHandle}
use Rattle.records.specs.declared.shortcut.ShortcutScope.{ShortcutScope}
use Rattle.records.specs.declared.shortcut.ShortcutScope.TheVariants.{View, Window, Session}
use Rattle.records.specs.declared.shortcut.SlotShortcut.{SlotShortcut}
use Rattle.records.specs.declared.surface.SurfaceDescriptor.{SurfaceDescriptor}
use Rattle.records.specs.Surfaces.{SurfaceTable, descriptor_of}
use Rattle.records.specs.Views.{ViewTable, view_at}

-- "shares at least one class bit with the event": the class masks meet under a 64-bit and
unfoldable pub shares_bit : ℕ → ℕ → Bool
shares_bit a b = not (eqb (bit_and a b) 0)

-- the panel of a registration: that in its slot, if the slot is filled
abbrev pub owner_of : Arena → SlotShortcut → GenerationalHandle
owner_of surfaces s = handle_of s.slot (slot_at surfaces s.slot).generation

abbrev pub is_owned : Arena → SlotShortcut → Bool
is_owned surfaces s = ltb s.slot surfaces.used && (slot_at surfaces s.slot).filled

abbrev pub owner_descriptor : SurfaceTable → SlotShortcut → SurfaceDescriptor
owner_descriptor surfaces s = descriptor_of surfaces (owner_of surfaces.arena s)

-- "View: its panel's view is the event's; Window: the same window; Session: always"
abbrev pub in_scope : ViewTable → ShortcutScope → GenerationalHandle → GenerationalHandle → Bool
in_scope views View own view = same_handle own view
in_scope views Window own view = same_handle (view_at views own).window (view_at views view).window
in_scope views Session own view = true

-- "A registration counts if it shares at least one class bit with the event and is in scope"
unfoldable pub counts : ViewTable → SurfaceTable → GenerationalHandle → ℕ → SlotShortcut → Bool
counts views surfaces view mask s =
    shares_bit s.registration.class_mask mask
    && (is_owned surfaces.arena s
    && in_scope views s.registration.scope (owner_descriptor surfaces s).view view)
