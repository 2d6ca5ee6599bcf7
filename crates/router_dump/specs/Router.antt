-- The whole router as numbers: its dump.
use Rattle.std.specs.Prelude.{List, ◌∷◌, ◌++◌}
use Rattle.input_router.specs.declared.router.PlatformInputRouter.{PlatformInputRouter}
use Rattle.answer_numbers.specs.Numbers.{Number, plain}
use Rattle.answer_numbers.specs.Presses.{sequences_numbers, presses_numbers}

-- the router: limit, last time; the known devices; the pointers, the keys and the gamepads that are pressed
abbrev pub router_numbers : PlatformInputRouter → List Number
router_numbers r =
    plain r.max_active_bindings
    ∷ plain r.last_timestamp_micros
    ∷ (sequences_numbers r.device_sequences
    ++ (presses_numbers 0 r.bindings ++ (presses_numbers 1 r.bindings ++ presses_numbers 2 r.bindings)))
