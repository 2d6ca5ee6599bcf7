-- RULES.md, Targets.
use Rattle.std.specs.Prelude.{Bool, ◌&&◌, List, Option, None, Some}
use Rattle.std.specs.List.{list_any}
use Rattle.handles.specs.Handles.{same_handle, holds_handle}
use Rattle.handles.specs.declared.GenerationalHandle.{GenerationalHandle}
use Rattle.maps.specs.Keys.{pointer_key}
use Rattle.maps.specs.MapTables.{found}
use Rattle.maps.specs.Captures.{captures, capture_key, surface_of}
use Rattle.maps.specs.declared.keys.CompositionPointerId.{CompositionPointerId}
use Rattle.records.specs.declared.trace.ArbitrationEvent.{ArbitrationEvent}
use Rattle.records.specs.declared.trace.ArbitrationEvent.TheVariants.{Pointer, PointerStack, PointerFor, PointerStackFor, Keyboard, KeyboardFor, Gamepad, GamepadFor, Text, Shortcut, SystemShortcut}
use Rattle.records.specs.declared.view.ViewRecord.{ViewRecord}
use Rattle.composition_arbitration.specs.declared.targets.Choice.{Choice}
use Rattle.composition_arbitration.specs.declared.targets.Choice.TheVariants.{Captured, Hit, HitStack, Focused, FocusedText, Given}

abbrev pub is_among : GenerationalHandle → List GenerationalHandle → Bool
is_among h l = list_any (λ g. same_handle g h) l

-- "A pointer's capture, if any, is its only target; otherwise its hits."
abbrev pub capture_or : Option GenerationalHandle → Choice → Choice
capture_or (Some h) otherwise = Captured h
capture_or None otherwise = otherwise

-- the panel that the view's map has for a pointer
abbrev pub capture_for : CompositionPointerId → ViewRecord → Option GenerationalHandle
capture_for p v = surface_of (found captures capture_key (pointer_key p) v.pointer_captures)

-- "An event that names its pointer uses that pointer's map entry, others the view's single capture field. KeyboardFor
-- and GamepadFor: the target
-- given. Keyboard, Gamepad, Shortcut and an unresolved SystemShortcut: the focus. Text: the focus, if it accepts text."
unfoldable pub chosen : ArbitrationEvent → ViewRecord → Choice
chosen (Pointer hit) v = capture_or v.pointer_capture (Hit hit)
chosen PointerStack v = capture_or v.pointer_capture HitStack
chosen (PointerFor p hit) v = capture_or (capture_for p v) (Hit hit)
chosen (PointerStackFor p) v = capture_or (capture_for p v) HitStack
chosen Keyboard v = Focused v.focus
chosen (KeyboardFor target) v = Given target
chosen Gamepad v = Focused v.focus
chosen (GamepadFor target) v = Given target
chosen Text v = FocusedText v.focus
chosen Shortcut v = Focused v.focus
chosen (SystemShortcut mask) v = Focused v.focus

-- whether a panel is a target, with the hits of a stack beside the choice
unfoldable pub is_targeted : Choice → List GenerationalHandle → GenerationalHandle → Bool → Bool
is_targeted (Captured h) hits s text = same_handle h s
is_targeted (Hit m) hits s text = holds_handle m s
is_targeted HitStack hits s text = is_among s hits
is_targeted (Focused m) hits s text = holds_handle m s
is_targeted (FocusedText m) hits s text = holds_handle m s && text
is_targeted (Given m) hits s text = holds_handle m s
