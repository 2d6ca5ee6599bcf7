-- Rectangles over the integers, as RULES.md, Hit test and Counter table, have them.
use Rattle.std.specs.Prelude.{ℕ, Bool, ◌&&◌, ◌||◌, ℤ, pos, ◌+ℤ◌, ◌==◌, int_le, int_lt}
use Rattle.geometry.specs.declared.rect.SurfaceRect.{SurfaceRect}

-- Counter table, "from -500 that is 1,000 wide holds -500 and 499": the start belongs to the span, its end does not
abbrev pub spans : ℤ → ℤ → ℤ → Bool
spans start size at = int_le start at && int_lt at (start +ℤ size)

-- Hit test, "Rectangles exclude right and bottom": the point lies in the span of each axis
abbrev pub contains : SurfaceRect → ℤ → ℤ → Bool
contains rect x y =
    spans rect.x_milli (pos rect.width_milli) x && spans rect.y_milli (pos rect.height_milli) y

-- InvalidGeometry 13 and InvalidMetrics 14: a size with a side of 0
abbrev pub is_empty : ℕ → ℕ → Bool
is_empty width height = width == 0 || height == 0
