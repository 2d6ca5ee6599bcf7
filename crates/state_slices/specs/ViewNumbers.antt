-- A view's record from its numbers: window, metrics and layers stand in the fixed slice, what holds its input in the
-- moving one.
use Rattle.std.specs.Prelude.{ℕ, ◌+◌, ◌*◌, List, get_or, Option}
use Rattle.geometry.specs.declared.metrics.ViewMetrics.{ViewMetrics}
use Rattle.handles.specs.declared.GenerationalHandle.{GenerationalHandle}
use Rattle.maps.specs.Captures.{captures, PointerCaptures}
use Rattle.maps.specs.declared.captures.Capture.{Capture}
use Rattle.records.specs.Layers.{layers, Layers}
use Rattle.records.specs.declared.view.ViewRecord.{ViewRecord}
use Rattle.call_fields.specs.Narrow.{within, signed_of}
use Rattle.call_fields.specs.Groups.{handle_of, optional_of, pointer_of}
use Rattle.call_fields.specs.PanelChoices.{visibility_of}
use Rattle.slices.specs.Parts.{table, part, table_of}
use Rattle.state_slices.specs.Layout.{views_start, view_size, inputs_start, input_size}

-- 3 numbers: a flag, index, generation
abbrev pub optional_at : List ℕ → ℕ → Option GenerationalHandle
optional_at b k =
    optional_of (record { present = get_or b k 0; index = get_or b (k + 1) 0; generation = get_or b (k + 2) 0 })

-- a number of 32 bits
abbrev pub half_at : List ℕ → ℕ → ℕ
half_at b k = within 4294967296 (get_or b k 0)

unfoldable pub metrics_from : List ℕ → ViewMetrics
metrics_from b = record {
  revision = get_or b 2 0;
  origin_x_milli = signed_of (get_or b 3 0);
  origin_y_milli = signed_of (get_or b 4 0);
  width_milli = half_at b 5;
  height_milli = half_at b 6;
  framebuffer_width = half_at b 7;
  framebuffer_height = half_at b 8;
  scale_q16 = half_at b 9;
  safe_area = record {
    top_milli = half_at b 10;
    right_milli = half_at b 11;
    bottom_milli = half_at b 12;
    left_milli = half_at b 13;
  };
  visibility = visibility_of (get_or b 14 0);
}

-- the layers: their count at 15, then two numbers each
abbrev pub layer_at : List ℕ → ℕ → GenerationalHandle
layer_at b i = handle_of (get_or b (16 + i * 2) 0) (get_or b (17 + i * 2) 0)

unfoldable pub layers_from : List ℕ → Layers
layers_from b = table_of layers (layer_at b) (get_or b 15 0)

-- the captures: their count at 9, then pointer and panel, five numbers each
abbrev pub capture_at : List ℕ → ℕ → Capture
capture_at m i = record {
  pointer = pointer_of (get_or m (10 + i * 5) 0) (get_or m (11 + i * 5) 0) (get_or m (12 + i * 5) 0);
  surface = handle_of (get_or m (13 + i * 5) 0) (get_or m (14 + i * 5) 0);
}

unfoldable pub captures_from : List ℕ → PointerCaptures
captures_from m = table_of captures (capture_at m) (get_or m 9 0)

-- a view's numbers in the fixed slice, and those in the moving one
unfoldable pub view_from : List ℕ → List ℕ → ViewRecord
view_from b m = record {
  window = handle_of (get_or b 0 0) (get_or b 1 0);
  metrics = metrics_from b;
  surfaces = layers_from b;
  focus = optional_at m 0;
  pointer_capture = optional_at m 3;
  pointer_captures = captures_from m;
  ime = optional_at m 6;
}

abbrev pub view_in : List ℕ → List ℕ → ℕ → ViewRecord
view_in fixed moving i =
    view_from (part fixed (views_start + i * view_size) view_size) (part moving
    (inputs_start + i * input_size) input_size)

unfoldable pub views_from : List ℕ → List ℕ → List ViewRecord
views_from fixed moving = table (view_in fixed moving) 16
