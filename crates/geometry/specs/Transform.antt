-- The inverse of a panel's transform at a point, as RULES.md, Hit test, has it: in `f64`, each step rounded once.
use Rattle.geometry.specs.declared.transform.Point.{Point}
use Rattle.std.specs.Prelude.{Bool, true, false, cond, ℤ, pos, negsuc, Float, Option, None, Some}
use Rattle.std.specs.Float.Ieee as Ieee
use Rattle.std.specs.Float.{nan, inf, fin, binary64}
use Rattle.geometry.specs.Rounding.{round_i32}
use Rattle.geometry.specs.declared.transform.SurfaceTransform.{SurfaceTransform}

infixl 6 ◌+f◌ ◌-f◌
infixl 7 ◌*f◌ ◌/f◌
-- Hit test, "each step rounded once": a sum in `f64`
abbrev pub ◌+f◌ : Float → Float → Float
x +f y = Ieee.add binary64 x y

-- Hit test, "each step rounded once": a difference in `f64`
abbrev pub ◌-f◌ : Float → Float → Float
x -f y = Ieee.sub binary64 x y

-- Hit test, "each step rounded once": a product in `f64`
abbrev pub ◌*f◌ : Float → Float → Float
x *f y = Ieee.mul binary64 x y

-- Hit test, "each step rounded once": a quotient in `f64`
abbrev pub ◌/f◌ : Float → Float → Float
x /f y = Ieee.div binary64 x y

-- Hit test, "each step rounded once": an integer as an `f64`
abbrev pub float : ℤ → Float
float z = Ieee.of_int binary64 z

-- Hit test, "65,536"
abbrev pub q16 : Float
q16 = fin false 1 (pos 16)

-- Hit test, "2^-52"
abbrev pub epsilon : Float
epsilon = fin false 1 (negsuc 51)

-- Hit test, "its size": a float without its sign
abbrev pub abs : Float → Float
abs nan = nan
abs (inf minus) = inf false
abs (fin minus m e) = fin false m e

-- Hit test, of the determinant: whether a float is finite, which the Rust tests and the rule need not
abbrev pub is_finite : Float → Bool
is_finite nan = false
is_finite (inf minus) = false
is_finite (fin minus m e) = true

-- Hit test, "Matrix entries are divided by 65,536"
abbrev pub matrix_entry : ℤ → Float
matrix_entry m = float m /f q16

-- Hit test, "With dx, dy the point less the translation"
abbrev pub difference : ℤ → ℤ → Float
difference at translation = float at -f float translation

-- Hit test, "The determinant is m11 × m22 - m12 × m21"
abbrev pub determinant : Float → Float → Float → Float → Float
determinant m11 m12 m21 m22 = m11 *f m22 -f m12 *f m21

-- Hit test, "if its size is under 2^-52"
abbrev pub is_under_epsilon : Float → Bool
is_under_epsilon d = Ieee.lt (abs d) epsilon

-- Hit test, "A quotient outside the i32 range skips the panel"
abbrev pub joined : Option ℤ → Option ℤ → Option Point
joined (Some x) (Some y) = Some (record { x_milli = x; y_milli = y })
joined (Some x) None = None
joined None y = None

-- Hit test, "local x is (m22 × dx - m21 × dy) / determinant and local y is (-m12 × dx + m11 × dy) / determinant"
unfoldable pub solved : Float → Float → Float → Float → Float → Float → Option Point
solved m11 m12 m21 m22 dx dy =
    let d = determinant m11 m12 m21 m22 in
    cond (is_under_epsilon d) None
    (joined (round_i32 ((m22 *f dx -f m21 *f dy) /f d)) (round_i32 ((Ieee.neg m12 *f dx +f m11 *f dy) /f d)))

-- Hit test, the rule for the local point as a whole
abbrev pub inverse_point : SurfaceTransform → ℤ → ℤ → Option Point
inverse_point t x y =
    solved
    (matrix_entry t.m11_q16)
    (matrix_entry t.m12_q16)
    (matrix_entry t.m21_q16)
    (matrix_entry t.m22_q16)
    (difference x t.translate_x_milli)
    (difference y t.translate_y_milli)

-- Desk, "identity matrix": 65,536 both ways, and no translation
abbrev pub identity : SurfaceTransform
identity = record {
  m11_q16 = pos 65536;
  m12_q16 = pos 0;
  m21_q16 = pos 0;
  m22_q16 = pos 65536;
  translate_x_milli = pos 0;
  translate_y_milli = pos 0;
}
