-- What holds of the definitions of geometry: two theorems on determinants, and the rows of RULES.md, Counter table.
use Rattle.std.specs.Prelude.{◌≡◌, true, false, ℤ, pos, neg_ℤ, FitsSigned, Float, None, Some}
use Rattle.std.specs.Int.{w32, w64}
use Rattle.geometry.specs.Rect.{contains}
use Rattle.geometry.specs.Transform.{determinant, matrix_entry, inverse_point, is_finite}
use Rattle.geometry.specs.Surface.{integer_determinant, is_hit, is_valid_geometry}
use Rattle.geometry.specs.declared.rect.SurfaceRect.{SurfaceRect}
use Rattle.geometry.specs.declared.transform.SurfaceTransform.{SurfaceTransform}
use Rattle.geometry.specs.declared.transform.Point.{Point}
use Rattle.geometry.specs.declared.surface.SurfaceGeometry.{SurfaceGeometry}

-- InvalidGeometry 13 and Hit test: every matrix entry is an `i32`
pub record I32Entries (t : SurfaceTransform) : Type 0 where
  pub m11 : FitsSigned w32 t.m11_q16
  pub m12 : FitsSigned w32 t.m12_q16
  pub m21 : FitsSigned w32 t.m21_q16
  pub m22 : FitsSigned w32 t.m22_q16

-- Hit test, "The determinant": that of a panel's matrix in `f64`
abbrev pub float_determinant : SurfaceTransform → Float
float_determinant t =
    determinant (matrix_entry t.m11_q16) (matrix_entry t.m12_q16) (matrix_entry t.m21_q16)
    (matrix_entry t.m22_q16)

-- Counter table, "A rectangle from -500 that is 1,000 wide", and 1,000 high
abbrev pub from_minus500 : SurfaceRect
from_minus500 =
    record { x_milli = neg_ℤ (pos 500); y_milli = neg_ℤ (pos 500); width_milli = 1000; height_milli = 1000 }

-- Counter table: a matrix in 65,536ths, with a translation
abbrev pub matrix : ℤ → ℤ → ℤ → ℤ → ℤ → ℤ → SurfaceTransform
matrix m11 m12 m21 m22 x y = record {
  m11_q16 = m11;
  m12_q16 = m12;
  m21_q16 = m21;
  m22_q16 = m22;
  translate_x_milli = x;
  translate_y_milli = y;
}

-- Counter table, "Scale n both ways"
abbrev pub scale : ℤ → SurfaceTransform
scale n = matrix n (pos 0) (pos 0) n (pos 0) (pos 0)

-- Counter table, "m11 = m22 = 134,217,728, m12 = 134,217,729, m21 = 134,217,727", with any translation
abbrev pub cancelling : ℤ → ℤ → SurfaceTransform
cancelling = matrix (pos 134217728) (pos 134217729) (pos 134217727) (pos 134217728)

-- Counter table, "geometry accepted": a panel that fills its view, with a transform
abbrev pub geometry_with : SurfaceTransform → SurfaceGeometry
geometry_with t = record { bounds = None; clip = None; transform = t; opacity_q16 = 65535; hit_test_enabled = true }

-- Counter table, "x 5 becomes 3": a local point
abbrev pub point : ℤ → ℤ → Point
point x y = record { x_milli = x; y_milli = y }

-- Counter table: the rows on rectangles and transforms
pub record CounterRows : Type 0 where
  -- "holds -500 and 499, not -501 or 500", in x and in y
  pub left_edge : contains from_minus500 (neg_ℤ (pos 500)) (pos 0) ≡ true
  pub right_inside : contains from_minus500 (pos 499) (pos 0) ≡ true
  pub left_outside : contains from_minus500 (neg_ℤ (pos 501)) (pos 0) ≡ false
  pub right_edge : contains from_minus500 (pos 500) (pos 0) ≡ false
  pub top_edge : contains from_minus500 (pos 0) (neg_ℤ (pos 500)) ≡ true
  pub bottom_inside : contains from_minus500 (pos 0) (pos 499) ≡ true
  pub top_outside : contains from_minus500 (pos 0) (neg_ℤ (pos 501)) ≡ false
  pub bottom_edge : contains from_minus500 (pos 0) (pos 500) ≡ false
  -- "Scale 131,072 both ways: x 5 becomes 3, x -5 becomes -3"
  pub half_up : inverse_point (scale (pos 131072)) (pos 5) (pos 0) ≡ Some (point (pos 3) (pos 0))
  pub half_down : inverse_point (scale (pos 131072)) (neg_ℤ (pos 5)) (pos 0) ≡ Some (point (neg_ℤ (pos 3)) (pos 0))
  -- "Scale 1 both ways: x 32,767 becomes 2,147,418,112; x 32,768 is skipped"
  pub in_range : inverse_point (scale (pos 1)) (pos 32767) (pos 0) ≡ Some (point (pos 2147418112) (pos 0))
  pub past_range : inverse_point (scale (pos 1)) (pos 32768) (pos 0) ≡ None
  -- "geometry accepted, always skipped"
  pub accepted : (tx ty : ℤ) → is_valid_geometry (geometry_with (cancelling tx ty)) ≡ true
  pub always_skipped : (tx ty x y : ℤ) → inverse_point (cancelling tx ty) x y ≡ None
  pub never_hit : (tx ty x y : ℤ) → is_hit (geometry_with (cancelling tx ty)) x y ≡ false

-- what is proved of the definitions, beside that the code meets them
pub record GeometryClaims : Type 0 where
  -- refusal 13's determinant of `i32` entries fits an `i64`, so the exact product and difference never overflow
  pub integer_determinant_fits : (t : SurfaceTransform) → I32Entries t → FitsSigned w64 (integer_determinant t)
  -- the hit test's determinant of `i32` entries is finite, so its rule needs no case for one that is not
  pub float_determinant_finite : (t : SurfaceTransform) → I32Entries t → is_finite (float_determinant t) ≡ true
  -- the rows of the counter table
  pub counter_rows : CounterRows
