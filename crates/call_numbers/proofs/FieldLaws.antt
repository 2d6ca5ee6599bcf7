-- Each field and group is read back from its numbers, where its numbers fit.
use Rattle.records.specs.declared.shortcut.SurfaceShortcutRegistration.{SurfaceShortcutRegistration}
use Rattle.geometry.specs.declared.rect.SurfaceRect.{SurfaceRect}
use Rattle.std.specs.Prelude.{Option, None, Some, ℕ}
use mathlib.Core.Path.{◌≡◌, refl, ap}
use Rattle.handles.specs.declared.GenerationalHandle.{GenerationalHandle}
use Rattle.maps.specs.declared.keys.CompositionPointerId.{CompositionPointerId}
use Rattle.geometry.specs.declared.metrics.ViewMetricsUpdate.{ViewMetricsUpdate}
use Rattle.geometry.specs.declared.surface.SurfaceGeometry.{SurfaceGeometry}
use Rattle.geometry.specs.declared.transform.Point.{Point}
use Rattle.geometry.specs.declared.transform.SurfaceTransform.{SurfaceTransform}
use Rattle.call_fields.specs.Groups.{handle_of, optional_of, optional_numbers, pointer_of, rect_of, rect_numbers, button_of, button_numbers, maybe_of, maybe_numbers}
use Rattle.call_fields.specs.Back.{scope_back, visibility_back}
use Rattle.call_fields.specs.Back.{within_back, flag_back, signed_back, short_back}
use Rattle.call_numbers.specs.Fits.{FitsHandle, FitsOptional, FitsPointer, FitsRect, FitsTransform, FitsPoint, FitsGeometry, FitsMetrics, FitsRegistration, FitsButton}
use Rattle.call_numbers.specs.Geometries.{transform_numbers, transform_at, point_numbers, point_at, geometry_numbers, geometry_at, metrics_numbers, metrics_at}

pub handle_back : (h : GenerationalHandle) → FitsHandle h → handle_of h.index h.generation ≡ h
handle_back h f = λ i. record { index = within_back _ _ f.index i; generation = within_back _ _ f.generation i }

pub optional_back : (o : Option GenerationalHandle) → FitsOptional o → optional_of (optional_numbers o) ≡ o
unfolding optional_of
optional_back None f = refl
optional_back (Some h) f = ap Some (handle_back h f)

pub pointer_back : (p : CompositionPointerId) → FitsPointer p → pointer_of p.device p.device_generation p.contact ≡ p
pointer_back p f = λ i. record { device = p.device; device_generation = within_back _ _ f.generation i; contact = within_back _ _ f.contact i }

pub rect_back : (o : Option SurfaceRect) → FitsRect o → rect_of (rect_numbers o) ≡ o
unfolding rect_of
rect_back None f = refl
rect_back (Some r) f = λ i. Some (record {
  x_milli = signed_back _ f.x i;
  y_milli = signed_back _ f.y i;
  width_milli = within_back _ _ f.width i;
  height_milli = within_back _ _ f.height i;
})

pub button_back : (o : Option ℕ) → FitsButton o → button_of (button_numbers o) ≡ o
button_back None f = refl
button_back (Some b) f = ap Some (within_back 256 b f)

pub maybe_back : (o : Option SurfaceShortcutRegistration) → FitsRegistration o → maybe_of (maybe_numbers o) ≡ o
unfolding maybe_of
maybe_back None f = refl
maybe_back (Some r) f = λ i. Some (record { class_mask = r.class_mask; scope = scope_back r.scope i; priority = short_back _ f i })

pub transform_back : (t : SurfaceTransform) → FitsTransform t → transform_at (transform_numbers t) 0 ≡ t
unfolding transform_at
transform_back t f = λ i. record {
  m11_q16 = signed_back _ f.m11 i;
  m12_q16 = signed_back _ f.m12 i;
  m21_q16 = signed_back _ f.m21 i;
  m22_q16 = signed_back _ f.m22 i;
  translate_x_milli = signed_back _ f.x i;
  translate_y_milli = signed_back _ f.y i;
}

pub point_back : (p : Point) → FitsPoint p → point_at (point_numbers p) 0 ≡ p
point_back p f = λ i. record { x_milli = signed_back _ f.x i; y_milli = signed_back _ f.y i }

pub geometry_back : (g : SurfaceGeometry) → FitsGeometry g → geometry_at (geometry_numbers g) 0 ≡ g
unfolding geometry_at transform_at
geometry_back g f = λ i. record {
  bounds = rect_back g.bounds f.bounds i;
  clip = rect_back g.clip f.clip i;
  transform = transform_back g.transform f.transform i;
  opacity_q16 = within_back 65536 g.opacity_q16 f.opacity i;
  hit_test_enabled = flag_back g.hit_test_enabled i;
}

pub metrics_back : (u : ViewMetricsUpdate) → FitsMetrics u → metrics_at (metrics_numbers u) 0 ≡ u
unfolding metrics_at
metrics_back u f = λ i. record {
  origin_x_milli = signed_back _ f.x i;
  origin_y_milli = signed_back _ f.y i;
  width_milli = within_back _ _ f.width i;
  height_milli = within_back _ _ f.height i;
  framebuffer_width = within_back _ _ f.framebuffer_width i;
  framebuffer_height = within_back _ _ f.framebuffer_height i;
  scale_q16 = within_back _ _ f.scale i;
  safe_area = record {
    top_milli = within_back _ _ f.insets.top i;
    right_milli = within_back _ _ f.insets.right i;
    bottom_milli = within_back _ _ f.insets.bottom i;
    left_milli = within_back _ _ f.insets.left i;
  };
  visibility = visibility_back u.visibility i;
}
