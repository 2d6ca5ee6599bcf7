-- An event that is no system shortcut resolves nothing: by cases, with the one kind that is left out by its tag.
use Prim.Native.Nat.{ℕ}
use mathlib.Core.Path.{◌≡◌, refl}
use mathlib.Core.List.{List}
use Rattle.handles.specs.declared.GenerationalHandle.{GenerationalHandle}
use Rattle.records.specs.declared.shortcut.SlotShortcut.{SlotShortcut}
use Rattle.records.specs.Surfaces.{SurfaceTable}
use Rattle.records.specs.Views.{ViewTable}
use Rattle.records.specs.declared.trace.ArbitrationEvent.{ArbitrationEvent}
use Rattle.records.specs.declared.trace.ArbitrationEvent.TheVariants.{Pointer, PointerStack, PointerFor, PointerStackFor, Keyboard, KeyboardFor, Gamepad, GamepadFor, Text, Shortcut, SystemShortcut}
use Rattle.composition_arbitration.specs.Arbitration.{unresolved, resolution_of}

pub no_shortcut : (views : ViewTable) (surfaces : SurfaceTable) (l : List SlotShortcut) (view : GenerationalHandle) (e : ArbitrationEvent)
    → ((m : ℕ) → e ≡ SystemShortcut m → ⊥) → unresolved ≡ resolution_of views surfaces l view e
unfolding resolution_of
no_shortcut views surfaces l view (Pointer m) h = refl
no_shortcut views surfaces l view PointerStack h = refl
no_shortcut views surfaces l view (PointerFor p m) h = refl
no_shortcut views surfaces l view (PointerStackFor p) h = refl
no_shortcut views surfaces l view Keyboard h = refl
no_shortcut views surfaces l view (KeyboardFor m) h = refl
no_shortcut views surfaces l view Gamepad h = refl
no_shortcut views surfaces l view (GamepadFor m) h = refl
no_shortcut views surfaces l view Text h = refl
no_shortcut views surfaces l view Shortcut h = refl
no_shortcut views surfaces l view (SystemShortcut m) h = absurd (h m refl)
