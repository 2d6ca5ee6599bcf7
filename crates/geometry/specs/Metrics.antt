-- A view's metrics: a fresh view's, those that an update makes, and when an update is refused 14.
use Rattle.std.specs.Prelude.{ℕ, ◌+◌, Bool, not, ◌&&◌, ◌||◌, pos, ◌==◌, nat_lt}
use Rattle.geometry.specs.Rect.{is_empty}
use Rattle.geometry.specs.declared.metrics.ViewVisibility.TheVariants.{Hidden}
use Rattle.geometry.specs.declared.metrics.ViewInsets.{ViewInsets}
use Rattle.geometry.specs.declared.metrics.ViewMetrics.{ViewMetrics}
use Rattle.geometry.specs.declared.metrics.ViewMetricsUpdate.{ViewMetricsUpdate}

-- Metrics, "a fresh view's metrics": no inset on any side
abbrev pub no_insets : ViewInsets
no_insets = record { top_milli = 0; right_milli = 0; bottom_milli = 0; left_milli = 0 }

-- Metrics, "a fresh view's metrics revision": revision 1, scale 65,536, hidden, and the rest 0
abbrev pub default_metrics : ViewMetrics
default_metrics = record {
  revision = 1;
  origin_x_milli = pos 0;
  origin_y_milli = pos 0;
  width_milli = 0;
  height_milli = 0;
  framebuffer_width = 0;
  framebuffer_height = 0;
  scale_q16 = 65536;
  safe_area = no_insets;
  visibility = Hidden;
}

-- InvalidMetrics 14: left and right over the width, or top and bottom over the height; a sum too large for u32 is over
-- any side
abbrev pub insets_over : ViewMetricsUpdate → Bool
insets_over u =
    let s = u.safe_area in
    nat_lt u.width_milli (s.left_milli + s.right_milli)
    || nat_lt u.height_milli (s.top_milli + s.bottom_milli)

-- InvalidMetrics 14: a framebuffer side that is not 0 while the width or the height is 0, or one that is 0 while
-- neither is
abbrev pub framebuffer_disagrees : ViewMetricsUpdate → Bool
framebuffer_disagrees u =
    (is_empty u.width_milli u.height_milli
    && (not (u.framebuffer_width == 0) || not (u.framebuffer_height == 0)))
    || (not (is_empty u.width_milli u.height_milli)
    && is_empty u.framebuffer_width u.framebuffer_height)

-- InvalidMetrics 14: all that is refused is a scale of 0, insets over a side, and a framebuffer that disagrees
unfoldable pub is_valid_metrics : ViewMetricsUpdate → Bool
is_valid_metrics u = not (u.scale_q16 == 0 || insets_over u || framebuffer_disagrees u)

-- Metrics: the update's values at a new revision
abbrev pub at_revision : ViewMetricsUpdate → ℕ → ViewMetrics
at_revision u revision = record {
  revision = revision;
  origin_x_milli = u.origin_x_milli;
  origin_y_milli = u.origin_y_milli;
  width_milli = u.width_milli;
  height_milli = u.height_milli;
  framebuffer_width = u.framebuffer_width;
  framebuffer_height = u.framebuffer_height;
  scale_q16 = u.scale_q16;
  safe_area = u.safe_area;
  visibility = u.visibility;
}
