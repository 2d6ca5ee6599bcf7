-- An i32 as it stands fits a signed 64 bits.
use native.Mathlib.Omega.{arith}
use lib.IntN.{ℤ}
use mir.Syntax.{w32, w64}
use mir.Val.{SFits}

pub widened : (z : ℤ) → SFits w32 z → SFits w64 z
widened z f = record { sfits = omega (arith, f.sfits) }
