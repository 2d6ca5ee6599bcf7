-- Any call as numbers: the groups one after the other, 0 to 36.
use Rattle.std.specs.Prelude.{ℕ, cond, List, [], ◌∷◌, ltb, get_or}
use Rattle.calls.specs.declared.call.Call.{Call}
use Rattle.calls.specs.declared.call.Call.TheVariants.{Panel, Input, ReleaseDevice, Shortcut, Arbitrate, Close, Router, Read}
use Rattle.calls.specs.declared.call.CloseCall.TheVariants.{CloseSurface, Shutdown}
use Rattle.call_numbers.specs.Arbitrations.{arbitrate_numbers, arbitrate_at}
use Rattle.call_numbers.specs.Events.{router_numbers, router_at}
use Rattle.call_numbers.specs.Inputs.{input_numbers, input_at, device_numbers, device_at}
use Rattle.call_numbers.specs.Panels.{panel_numbers, panel_at}
use Rattle.call_numbers.specs.Reads.{read_numbers, read_at}
use Rattle.call_numbers.specs.Shortcuts.{shortcut_numbers, shortcut_at}
use Rattle.call_numbers.specs.Words.{handle_numbers, handle_at}

-- the number of a call and its fields, before the lists
unfoldable pub call_numbers : Call → List ℕ
call_numbers (Panel c) = panel_numbers c
call_numbers (Input c) = input_numbers c
call_numbers (ReleaseDevice a) = device_numbers a
call_numbers (Shortcut c) = shortcut_numbers c
call_numbers (Arbitrate a) = arbitrate_numbers a
call_numbers (Close (CloseSurface h)) = 21 ∷ handle_numbers h
call_numbers (Close Shutdown) = 22 ∷ []
call_numbers (Router c) = router_numbers c
call_numbers (Read c) = read_numbers c

-- the call of the numbers; a number past the last is read as the last
unfoldable pub call_at : List ℕ → Call
call_at l =
    cond (ltb (get_or l 0 0) 8) (Panel (panel_at l))
    (cond (ltb (get_or l 0 0) 16) (Input (input_at l))
    (cond (ltb (get_or l 0 0) 17) (ReleaseDevice (device_at l))
    (cond (ltb (get_or l 0 0) 20) (Shortcut (shortcut_at l))
    (cond (ltb (get_or l 0 0) 21) (Arbitrate (arbitrate_at l))
    (cond (ltb (get_or l 0 0) 22) (Close (CloseSurface (handle_at l 1)))
    (cond (ltb (get_or l 0 0) 23) (Close Shutdown)
    (cond (ltb (get_or l 0 0) 26) (Router (router_at l))
    (Read (read_at l)))))))))
