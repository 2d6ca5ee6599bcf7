-- What holds of the records and the refusals, beyond the functions that read and change them.
use Rattle.std.specs.Prelude.{◌≡◌, false, eqb}
use Rattle.handles.specs.declared.GenerationalHandle.{GenerationalHandle}
use Rattle.records.specs.declared.error.CompositionError.{CompositionError}
use Rattle.records.specs.declared.surface.SurfaceRecord.{SurfaceRecord}
use Rattle.records.specs.Surfaces.{SurfaceTable, descriptor_of, surface_status, with_surface}
use Rattle.records.specs.Errors.{error_number}

-- RULES.md, Layers: a panel's place among them comes from its view, its z_order and its handle
pub record SamePlaces (t after : SurfaceTable) : Type 0 where
  pub status : (h : GenerationalHandle) → surface_status after h ≡ surface_status t h
  pub view : (h : GenerationalHandle) → (descriptor_of after h).view ≡ (descriptor_of t h).view
  pub z_order : (h : GenerationalHandle) → (descriptor_of after h).z_order ≡ (descriptor_of t h).z_order

pub record RecordClaims : Type 0 where
  -- RULES.md, Refusals: 0 is accepted, and no refusal has that number
  pub not_zero : (e : CompositionError) → eqb (error_number e) 0 ≡ false
  -- a panel's record is replaced by one with the same view and z_order: every panel stays in its place
  pub places_stay : (t : SurfaceTable) (h : GenerationalHandle) (s : SurfaceRecord)
      → s.descriptor.view ≡ (descriptor_of t h).view → s.descriptor.z_order ≡ (descriptor_of t h).z_order
      → SamePlaces t (with_surface h s t)
