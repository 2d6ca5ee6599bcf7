-- When a point hits a panel, and when its geometry is refused 13.
use Rattle.geometry.specs.declared.rect.SurfaceRect.{SurfaceRect}
use Rattle.std.specs.Prelude.{Bool, true, false, not, ◌&&◌, ◌||◌, ℤ, pos, negsuc, ◌-ℤ◌, ◌*ℤ◌, ◌==◌, Option, None, Some}
use Rattle.geometry.specs.Rect.{contains, is_empty}
use Rattle.geometry.specs.Transform.{identity, inverse_point}
use Rattle.geometry.specs.declared.transform.SurfaceTransform.{SurfaceTransform}
use Rattle.geometry.specs.declared.transform.Point.{Point}
use Rattle.geometry.specs.declared.surface.SurfaceGeometry.{SurfaceGeometry}

-- Hit test, "must lie in bounds and clip, where present"
abbrev pub allows : Option SurfaceRect → Point → Bool
allows None p = true
allows (Some rect) p = contains rect p.x_milli p.y_milli

-- Hit test, "the local point must lie in bounds and clip": a skipped panel has none
abbrev pub lies_inside : Option SurfaceRect → Option SurfaceRect → Option Point → Bool
lies_inside bounds clip (Some p) = allows bounds p && allows clip p
lies_inside bounds clip None = false

-- Hit test, "A panel with hit testing off is passed over; the local point must lie in bounds and clip": one panel, one
-- point
unfoldable pub is_hit : SurfaceGeometry → ℤ → ℤ → Bool
is_hit g x y = g.hit_test_enabled && lies_inside g.bounds g.clip (inverse_point g.transform x y)

-- InvalidGeometry 13: a rectangle that is present has a side of 0
abbrev pub has_zero_side : Option SurfaceRect → Bool
has_zero_side None = false
has_zero_side (Some rect) = is_empty rect.width_milli rect.height_milli

-- InvalidGeometry 13: m11 × m22 - m12 × m21 in whole numbers, with no rounding
abbrev pub integer_determinant : SurfaceTransform → ℤ
integer_determinant t = t.m11_q16 *ℤ t.m22_q16 -ℤ t.m12_q16 *ℤ t.m21_q16

-- InvalidGeometry 13: whether an integer, the determinant, is 0
abbrev pub is_zero : ℤ → Bool
is_zero (pos n) = n == 0
is_zero (negsuc n) = false

-- InvalidGeometry 13: all that is refused is a side of 0 in the bounds or the clip, and a determinant of 0
unfoldable pub is_valid_geometry : SurfaceGeometry → Bool
is_valid_geometry g =
    not (has_zero_side g.bounds || has_zero_side g.clip || is_zero (integer_determinant g.transform))

-- Desk, "no bounds, identity matrix, hit testing on"; and opaque
abbrev pub default_geometry : SurfaceGeometry
default_geometry = record {
  bounds = None;
  clip = None;
  transform = identity;
  opacity_q16 = 65535;
  hit_test_enabled = true;
}
