-- Geometry, transforms, points and view metrics, by their numbers, and read from a place.
use Rattle.geometry.specs.declared.rect.SurfaceRect.{SurfaceRect}
use Rattle.std.specs.Prelude.{ℕ, ◌+◌, List, [], ◌∷◌, ◌++◌, get_or, Option}
use Rattle.std.specs.Int.{w32}
use Rattle.std.proofs.Common.{of_z}
use Rattle.geometry.specs.declared.metrics.ViewInsets.{ViewInsets}
use Rattle.geometry.specs.declared.metrics.ViewMetricsUpdate.{ViewMetricsUpdate}
use Rattle.geometry.specs.declared.surface.SurfaceGeometry.{SurfaceGeometry}
use Rattle.geometry.specs.declared.transform.Point.{Point}
use Rattle.geometry.specs.declared.transform.SurfaceTransform.{SurfaceTransform}
use Rattle.call_fields.specs.Groups.{rect_of, rect_numbers as rect_fields}
use Rattle.call_fields.specs.Narrow.{within, is_one, one_if, signed_of}
use Rattle.call_fields.specs.PanelChoices.{visibility_of, visibility_number}

-- flag, x, y, width, height
abbrev pub rect_numbers : Option SurfaceRect → List ℕ
rect_numbers o =
    (rect_fields o).present ∷ (rect_fields o).x_milli ∷ (rect_fields o).y_milli ∷ (rect_fields o).width_milli
    ∷ (rect_fields o).height_milli ∷ []

abbrev pub rect_at : List ℕ → ℕ → Option SurfaceRect
rect_at l i =
    rect_of (record {
      present = get_or l i 0;
      x_milli = get_or l (i + 1) 0;
      y_milli = get_or l (i + 2) 0;
      width_milli = get_or l (i + 3) 0;
      height_milli = get_or l (i + 4) 0;
    })

-- the matrix, row by row, and the translation
abbrev pub transform_numbers : SurfaceTransform → List ℕ
transform_numbers t =
    of_z w32 t.m11_q16 ∷ of_z w32 t.m12_q16 ∷ of_z w32 t.m21_q16 ∷ of_z w32 t.m22_q16
    ∷ of_z w32 t.translate_x_milli ∷ of_z w32 t.translate_y_milli ∷ []

unfoldable pub transform_at : List ℕ → ℕ → SurfaceTransform
transform_at l i = record {
  m11_q16 = signed_of (get_or l i 0);
  m12_q16 = signed_of (get_or l (i + 1) 0);
  m21_q16 = signed_of (get_or l (i + 2) 0);
  m22_q16 = signed_of (get_or l (i + 3) 0);
  translate_x_milli = signed_of (get_or l (i + 4) 0);
  translate_y_milli = signed_of (get_or l (i + 5) 0);
}

abbrev pub point_numbers : Point → List ℕ
point_numbers p = of_z w32 p.x_milli ∷ of_z w32 p.y_milli ∷ []

abbrev pub point_at : List ℕ → ℕ → Point
point_at l i = record { x_milli = signed_of (get_or l i 0); y_milli = signed_of (get_or l (i + 1) 0) }

-- bounds, clip, transform, opacity, hit testing
abbrev pub geometry_numbers : SurfaceGeometry → List ℕ
geometry_numbers g =
    rect_numbers g.bounds ++ rect_numbers g.clip ++ transform_numbers g.transform ++ g.opacity_q16
    ∷ one_if g.hit_test_enabled ∷ []

unfoldable pub geometry_at : List ℕ → ℕ → SurfaceGeometry
geometry_at l i = record {
  bounds = rect_at l i;
  clip = rect_at l (i + 5);
  transform = transform_at l (i + 10);
  opacity_q16 = within 65536 (get_or l (i + 16) 0);
  hit_test_enabled = is_one (get_or l (i + 17) 0);
}

-- top, right, bottom, left
abbrev pub insets_at : List ℕ → ℕ → ViewInsets
insets_at l i = record {
  top_milli = within 4294967296 (get_or l i 0);
  right_milli = within 4294967296 (get_or l (i + 1) 0);
  bottom_milli = within 4294967296 (get_or l (i + 2) 0);
  left_milli = within 4294967296 (get_or l (i + 3) 0);
}

-- origin, size, framebuffer, scale, insets, visibility
abbrev pub metrics_numbers : ViewMetricsUpdate → List ℕ
metrics_numbers u =
    of_z w32 u.origin_x_milli ∷ of_z w32 u.origin_y_milli ∷ u.width_milli ∷ u.height_milli
    ∷ u.framebuffer_width ∷ u.framebuffer_height ∷ u.scale_q16
    ∷ u.safe_area.top_milli ∷ u.safe_area.right_milli ∷ u.safe_area.bottom_milli
    ∷ u.safe_area.left_milli ∷ visibility_number u.visibility ∷ []

unfoldable pub metrics_at : List ℕ → ℕ → ViewMetricsUpdate
metrics_at l i = record {
  origin_x_milli = signed_of (get_or l i 0);
  origin_y_milli = signed_of (get_or l (i + 1) 0);
  width_milli = within 4294967296 (get_or l (i + 2) 0);
  height_milli = within 4294967296 (get_or l (i + 3) 0);
  framebuffer_width = within 4294967296 (get_or l (i + 4) 0);
  framebuffer_height = within 4294967296 (get_or l (i + 5) 0);
  scale_q16 = within 4294967296 (get_or l (i + 6) 0);
  safe_area = insets_at l (i + 7);
  visibility = visibility_of (get_or l (i + 11) 0);
}
