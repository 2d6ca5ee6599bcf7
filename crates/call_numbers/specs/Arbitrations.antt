-- The call `arbitrate`, number 20: the view, the event's kind by the declared order, and the kind's fields.
use Rattle.std.specs.Prelude.{ℕ, cond, List, [], ◌∷◌, ◌++◌, eqb, get_or}
use Rattle.records.specs.declared.trace.ArbitrationEvent.{ArbitrationEvent}
use Rattle.records.specs.declared.trace.ArbitrationEvent.TheVariants.{Pointer, PointerStack, PointerFor, PointerStackFor, Keyboard, KeyboardFor, Gamepad, GamepadFor, Text, Shortcut, SystemShortcut}
use Rattle.calls.specs.declared.arguments.ArbitrateArguments.{ArbitrateArguments}
use Rattle.call_numbers.specs.Words.{handle_numbers, handle_at, optional_numbers, optional_at, pointer_numbers, pointer_at}

unfoldable pub event_numbers : ArbitrationEvent → List ℕ
event_numbers (Pointer hit) = 0 ∷ optional_numbers hit
event_numbers PointerStack = 1 ∷ []
event_numbers (PointerFor pointer hit) = 2 ∷ pointer_numbers pointer ++ optional_numbers hit
event_numbers (PointerStackFor pointer) = 3 ∷ pointer_numbers pointer
event_numbers Keyboard = 4 ∷ []
event_numbers (KeyboardFor target) = 5 ∷ optional_numbers target
event_numbers Gamepad = 6 ∷ []
event_numbers (GamepadFor target) = 7 ∷ optional_numbers target
event_numbers Text = 8 ∷ []
event_numbers Shortcut = 9 ∷ []
event_numbers (SystemShortcut mask) = 10 ∷ mask ∷ []

-- the event of a kind; any past the last is read as the last
unfoldable pub event_at : List ℕ → ArbitrationEvent
event_at l =
    cond (eqb (get_or l 3 0) 0) (Pointer (optional_at l 4))
    (cond (eqb (get_or l 3 0) 1) PointerStack
    (cond (eqb (get_or l 3 0) 2) (PointerFor (pointer_at l 4) (optional_at l 7))
    (cond (eqb (get_or l 3 0) 3) (PointerStackFor (pointer_at l 4))
    (cond (eqb (get_or l 3 0) 4) Keyboard
    (cond (eqb (get_or l 3 0) 5) (KeyboardFor (optional_at l 4))
    (cond (eqb (get_or l 3 0) 6) Gamepad
    (cond (eqb (get_or l 3 0) 7) (GamepadFor (optional_at l 4))
    (cond (eqb (get_or l 3 0) 8) Text
    (cond (eqb (get_or l 3 0) 9) Shortcut
    (SystemShortcut (get_or l 4 0)))))))))))

abbrev pub arbitrate_numbers : ArbitrateArguments → List ℕ
arbitrate_numbers a = 20 ∷ handle_numbers a.view ++ event_numbers a.event

abbrev pub arbitrate_at : List ℕ → ArbitrateArguments
arbitrate_at l = record { view = handle_at l 1; event = event_at l }
