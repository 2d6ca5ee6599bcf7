-- The claims hold: the two theorems on determinants by their laws, and each row of the counter table by computing it.
use Rattle.std.proofs.Common.{refl}
use lib.Ieee.{neg, add, sub, mul, div, of_int, lt}
use Rattle.geometry.specs.Transform.{solved}
use Rattle.geometry.specs.Surface.{is_hit, is_valid_geometry}
use Rattle.geometry.specs.Claims.{CounterRows, GeometryClaims}
use Rattle.geometry.proofs.IntegerDeterminant.{determinant_fits}
use Rattle.geometry.proofs.FloatDeterminant.{determinant_finite}

rows : CounterRows
unfolding solved is_hit is_valid_geometry add sub mul div of_int lt neg
rows = record {
  left_edge = refl;
  right_inside = refl;
  left_outside = refl;
  right_edge = refl;
  top_edge = refl;
  bottom_inside = refl;
  top_outside = refl;
  bottom_edge = refl;
  half_up = refl;
  half_down = refl;
  in_range = refl;
  past_range = refl;
  accepted = λ tx ty. refl;
  always_skipped = λ tx ty x y. refl;
  never_hit = λ tx ty x y. refl;
}

pub claims : GeometryClaims
claims = record {
  integer_determinant_fits = determinant_fits;
  float_determinant_finite = determinant_finite;
  counter_rows = rows;
}
