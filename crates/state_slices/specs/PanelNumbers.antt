-- A panel's record from its numbers.
use Rattle.geometry.specs.declared.rect.SurfaceRect.{SurfaceRect}
use Rattle.std.specs.Prelude.{ℕ, ◌+◌, List, get_or, Option}
use Rattle.geometry.specs.declared.transform.SurfaceTransform.{SurfaceTransform}
use Rattle.geometry.specs.declared.surface.SurfaceGeometry.{SurfaceGeometry}
use Rattle.records.specs.declared.surface.SurfaceRecord.{SurfaceRecord}
use Rattle.call_fields.specs.Narrow.{within, is_one, signed_of}
use Rattle.call_fields.specs.Groups.{handle_of, rect_of}
use Rattle.call_fields.specs.PanelChoices.{surface_kind_of, policy_of}
use Rattle.slices.specs.Parts.{table, row_at}
use Rattle.state_slices.specs.Layout.{panels_start, panel_size}

-- 5 numbers: a flag, x, y, width, height
abbrev pub rect_at : List ℕ → ℕ → Option SurfaceRect
rect_at b k =
    rect_of
    (record {
      present = get_or b k 0;
      x_milli = get_or b (k + 1) 0;
      y_milli = get_or b (k + 2) 0;
      width_milli = get_or b (k + 3) 0;
      height_milli = get_or b (k + 4) 0;
    })

unfoldable pub transform_from : List ℕ → SurfaceTransform
transform_from b = record {
  m11_q16 = signed_of (get_or b 16 0);
  m12_q16 = signed_of (get_or b 17 0);
  m21_q16 = signed_of (get_or b 18 0);
  m22_q16 = signed_of (get_or b 19 0);
  translate_x_milli = signed_of (get_or b 20 0);
  translate_y_milli = signed_of (get_or b 21 0);
}

unfoldable pub geometry_from : List ℕ → SurfaceGeometry
geometry_from b = record {
  bounds = rect_at b 6;
  clip = rect_at b 11;
  transform = transform_from b;
  opacity_q16 = within 65536 (get_or b 22 0);
  hit_test_enabled = is_one (get_or b 23 0);
}

unfoldable pub panel_from : List ℕ → SurfaceRecord
panel_from b = record {
  descriptor = record {
    view = handle_of (get_or b 0 0) (get_or b 1 0);
    kind = surface_kind_of (get_or b 2 0);
    z_order = signed_of (get_or b 3 0);
    input = policy_of (get_or b 4 0);
    accepts_text = is_one (get_or b 5 0);
    geometry = geometry_from b;
  };
}

unfoldable pub panels_from : List ℕ → List SurfaceRecord
panels_from fixed = table (row_at panel_from panels_start panel_size fixed) 64
