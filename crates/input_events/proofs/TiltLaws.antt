-- A tilt that is held in a local is the tilt itself, since it fits an `i16`.
use Prim.Native.Nat.{◌<◌, ◌^◌}
use mathlib.Core.Path.{◌≡◌}
use mathlib.Core.Bool.{◌&&◌}
use lib.IntN.{ℤ}
use lib.Signed.{mag}
use mir.Syntax.{w16}
use mir.Val.{to_z, of_z}
use mir.Facts.{to_z-of_z}
use Rattle.input_events.specs.Checks.{is_upright}

back : (z : ℤ) → mag z < 2 ^ 15 → to_z w16 (of_z w16 z) ≡ z
back z h = to_z-of_z {w = w16} {z = z} (record { sfits = h })

pub both_back : (x y : ℤ) → mag x < 2 ^ 15 → mag y < 2 ^ 15
    → (is_upright (to_z w16 (of_z w16 x)) && is_upright (to_z w16 (of_z w16 y))) ≡ (is_upright x && is_upright y)
both_back x y p q = rw (back x p, back y q)
