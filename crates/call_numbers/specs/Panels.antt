-- The calls on windows, views and panels, as numbers 0 to 7 with their fields.
use Rattle.std.specs.Prelude.{ℕ, cond, List, [], ◌∷◌, ◌++◌, eqb, get_or}
use Rattle.std.specs.Int.{w32}
use Rattle.std.proofs.Common.{of_z}
use Rattle.records.specs.declared.surface.SurfaceDescriptor.{SurfaceDescriptor}
use Rattle.calls.specs.declared.call.PanelCall.{PanelCall}
use Rattle.calls.specs.declared.call.PanelCall.TheVariants.{CreateWindow, CloseWindow, CreateView, UpdateViewMetrics, CloseView, AttachSurface, UpdateSurfaceGeometry, UpdateSurfaceInputPolicy}
use Rattle.call_fields.specs.Narrow.{is_one, one_if, signed_of}
use Rattle.call_fields.specs.PanelChoices.{policy_of, policy_number, surface_kind_of, surface_kind_number}
use Rattle.call_numbers.specs.Words.{handle_numbers, handle_at}
use Rattle.call_numbers.specs.Geometries.{geometry_numbers, geometry_at, metrics_numbers, metrics_at}

-- view, kind, z order, policy, whether it accepts text, geometry
abbrev pub descriptor_numbers : SurfaceDescriptor → List ℕ
descriptor_numbers d =
    handle_numbers d.view ++ surface_kind_number d.kind ∷ of_z w32 d.z_order ∷ policy_number d.input
    ∷ one_if d.accepts_text ∷ geometry_numbers d.geometry

unfoldable pub descriptor_at : List ℕ → SurfaceDescriptor
descriptor_at l = record {
  view = handle_at l 1;
  kind = surface_kind_of (get_or l 3 0);
  z_order = signed_of (get_or l 4 0);
  input = policy_of (get_or l 5 0);
  accepts_text = is_one (get_or l 6 0);
  geometry = geometry_at l 7;
}

unfoldable pub panel_numbers : PanelCall → List ℕ
panel_numbers CreateWindow = 0 ∷ []
panel_numbers (CloseWindow h) = 1 ∷ handle_numbers h
panel_numbers (CreateView h) = 2 ∷ handle_numbers h
panel_numbers (UpdateViewMetrics a) = 3 ∷ handle_numbers a.view ++ metrics_numbers a.update ++ a.revision ∷ []
panel_numbers (CloseView h) = 4 ∷ handle_numbers h
panel_numbers (AttachSurface d) = 5 ∷ descriptor_numbers d
panel_numbers (UpdateSurfaceGeometry a) =
    6 ∷ handle_numbers a.surface ++ geometry_numbers a.geometry ++ a.revision ∷ []
panel_numbers (UpdateSurfaceInputPolicy a) = 7 ∷ handle_numbers a.surface ++ policy_number a.input ∷ a.revision ∷ []

-- the call of a number; any past the last is read as the last
unfoldable pub panel_at : List ℕ → PanelCall
panel_at l =
    cond (eqb (get_or l 0 0) 0) CreateWindow
    (cond (eqb (get_or l 0 0) 1) (CloseWindow (handle_at l 1))
    (cond (eqb (get_or l 0 0) 2) (CreateView (handle_at l 1))
    (cond (eqb (get_or l 0 0) 3)
    (UpdateViewMetrics (record { view = handle_at l 1; update = metrics_at l 3; revision = get_or l 15 0 }))
    (cond (eqb (get_or l 0 0) 4) (CloseView (handle_at l 1))
    (cond (eqb (get_or l 0 0) 5) (AttachSurface (descriptor_at l))
    (cond (eqb (get_or l 0 0) 6)
    (UpdateSurfaceGeometry (record { surface = handle_at l 1; geometry = geometry_at l 3; revision = get_or l 21 0 }))
    (UpdateSurfaceInputPolicy
    (record { surface = handle_at l 1; input = policy_of (get_or l 3 0); revision = get_or l 4 0 }))))))))
