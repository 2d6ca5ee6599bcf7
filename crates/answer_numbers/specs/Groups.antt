-- The groups of numbers of the format: handles, pointers, rectangles, metrics, input states, descriptors.
use Rattle.geometry.specs.declared.rect.SurfaceRect.{SurfaceRect}
use Rattle.std.specs.Prelude.{ℕ, List, [], ◌∷◌, ◌++◌, Option, None, Some}
use Rattle.handles.specs.declared.GenerationalHandle.{GenerationalHandle}
use Rattle.maps.specs.declared.keys.CompositionPointerId.{CompositionPointerId}
use Rattle.maps.specs.declared.captures.Capture.{Capture}
use Rattle.geometry.specs.declared.metrics.ViewInsets.{ViewInsets}
use Rattle.geometry.specs.declared.metrics.ViewMetrics.{ViewMetrics}
use Rattle.geometry.specs.declared.metrics.ViewVisibility.{ViewVisibility}
use Rattle.geometry.specs.declared.metrics.ViewVisibility.TheVariants.{Visible, Hidden, Suspended}
use Rattle.geometry.specs.declared.surface.SurfaceGeometry.{SurfaceGeometry}
use Rattle.geometry.specs.declared.transform.Point.{Point}
use Rattle.geometry.specs.declared.transform.SurfaceTransform.{SurfaceTransform}
use Rattle.records.specs.declared.surface.SurfaceDescriptor.{SurfaceDescriptor}
use Rattle.records.specs.declared.surface.SurfaceKind.{SurfaceKind}
use Rattle.records.specs.declared.surface.SurfaceKind.TheVariants.{Game, Ui, Diagnostics}
use Rattle.records.specs.declared.surface.SurfaceInputPolicy.{SurfaceInputPolicy}
use Rattle.records.specs.declared.surface.SurfaceInputPolicy.TheVariants.{Observe, Passthrough, Interactive, Exclusive}
use Rattle.records.specs.declared.view.ViewInputState.{ViewInputState}
use Rattle.answer_numbers.specs.Numbers.{Number, plain, signed, flag}

-- H: index, generation
abbrev pub handle_numbers : GenerationalHandle → List Number
handle_numbers h = plain h.index ∷ plain h.generation ∷ []

-- O: a flag, and the handle or zeros
abbrev pub optional_numbers : Option GenerationalHandle → List Number
optional_numbers None = plain 0 ∷ plain 0 ∷ plain 0 ∷ []
optional_numbers (Some h) = plain 1 ∷ handle_numbers h

-- K: device, device generation, contact
abbrev pub pointer_numbers : CompositionPointerId → List Number
pointer_numbers p = plain p.device ∷ plain p.device_generation ∷ plain p.contact ∷ []

-- a captured pointer and its panel: K, H
abbrev pub capture_numbers : Capture → List Number
capture_numbers e = pointer_numbers e.pointer ++ handle_numbers e.surface

-- R: a flag, and the rectangle or zeros
abbrev pub rect_numbers : Option SurfaceRect → List Number
rect_numbers None = plain 0 ∷ plain 0 ∷ plain 0 ∷ plain 0 ∷ plain 0 ∷ []
rect_numbers (Some r) =
    plain 1 ∷ signed r.x_milli ∷ signed r.y_milli ∷ plain r.width_milli ∷ plain r.height_milli ∷ []

-- ViewVisibility: Visible, Hidden, Suspended, from 0
abbrev pub visibility_number : ViewVisibility → ℕ
visibility_number Visible = 0
visibility_number Hidden = 1
visibility_number Suspended = 2

-- SurfaceKind: Game, Ui, Diagnostics, from 0
abbrev pub kind_number : SurfaceKind → ℕ
kind_number Game = 0
kind_number Ui = 1
kind_number Diagnostics = 2

-- policy: Observe 0, Passthrough 1, Interactive 2, Exclusive 3
abbrev pub policy_number : SurfaceInputPolicy → ℕ
policy_number Observe = 0
policy_number Passthrough = 1
policy_number Interactive = 2
policy_number Exclusive = 3

-- insets: top, right, bottom, left
abbrev pub insets_numbers : ViewInsets → List Number
insets_numbers i =
    plain i.top_milli ∷ plain i.right_milli ∷ plain i.bottom_milli ∷ plain i.left_milli ∷ []

-- the first part of M: revision, origin x y
abbrev pub origin_numbers : ViewMetrics → List Number
origin_numbers m = plain m.revision ∷ signed m.origin_x_milli ∷ signed m.origin_y_milli ∷ []

-- the second part of M: width, height, framebuffer width, height, scale
abbrev pub size_numbers : ViewMetrics → List Number
size_numbers m =
    plain m.width_milli
    ∷ plain m.height_milli
    ∷ plain m.framebuffer_width
    ∷ plain m.framebuffer_height
    ∷ plain m.scale_q16
    ∷ []

-- M: revision, origin x y, width, height, framebuffer width, height, scale, top, right, bottom, left, visibility
abbrev pub metrics_numbers : ViewMetrics → List Number
metrics_numbers m =
    origin_numbers m ++ (size_numbers m
    ++ (insets_numbers m.safe_area ++ (plain (visibility_number m.visibility) ∷ [])))

-- I: focus, single capture field, composition
abbrev pub input_state_numbers : ViewInputState → List Number
input_state_numbers s =
    optional_numbers s.focused ++ (optional_numbers s.pointer_capture ++ optional_numbers s.ime)

-- the matrix, row by row, and the translation
abbrev pub transform_numbers : SurfaceTransform → List Number
transform_numbers t =
    signed t.m11_q16
    ∷ signed t.m12_q16
    ∷ signed t.m21_q16
    ∷ signed t.m22_q16
    ∷ signed t.translate_x_milli
    ∷ signed t.translate_y_milli
    ∷ []

-- G: bounds, clip, matrix and translation, opacity, hit testing
abbrev pub geometry_numbers : SurfaceGeometry → List Number
geometry_numbers g =
    rect_numbers g.bounds ++ (rect_numbers g.clip
    ++ (transform_numbers g.transform ++ (plain g.opacity_q16 ∷ flag g.hit_test_enabled ∷ [])))

-- D: view, kind, z_order, policy, accepts text, G
abbrev pub descriptor_numbers : SurfaceDescriptor → List Number
descriptor_numbers d =
    handle_numbers d.view
    ++ (plain (kind_number d.kind) ∷ signed d.z_order ∷ plain (policy_number d.input)
    ∷ flag d.accepts_text ∷ geometry_numbers d.geometry)

-- a point in a panel: 1, x, y
abbrev pub point_numbers : Point → List Number
point_numbers p = plain 1 ∷ signed p.x_milli ∷ signed p.y_milli ∷ []

-- three zeros where the panel is skipped
abbrev pub local_numbers : Option Point → List Number
local_numbers (Some p) = point_numbers p
local_numbers None = plain 0 ∷ plain 0 ∷ plain 0 ∷ []
