-- Panels: their geometry, their records, and the table of these by slot.
use Rattle.std.specs.Prelude.{map}
use Rattle.geometry.specs.declared.surface.SurfaceGeometry.{SurfaceGeometry}
use Rattle.records.specs.declared.surface.SurfaceRecord.{SurfaceRecord}
use Rattle.records.specs.Surfaces.{SurfaceTable}
use Rattle.counter_memory.specs.declared.surfaces.SurfaceGeometryMemory.{SurfaceGeometryMemory}
use Rattle.counter_memory.specs.declared.surfaces.SurfaceRecordMemory.{SurfaceRecordMemory}
use Rattle.counter_memory.specs.declared.surfaces.SurfaceTableMemory.{SurfaceTableMemory}
use Rattle.call_fields.specs.PanelChoices.{surface_kind_number, surface_kind_of, policy_number, policy_of}
use Rattle.counter_memory.specs.Optionals.{optional_rect_memory, optional_rect_of}

-- the geometry, with bounds and clip as memory
abbrev pub geometry_memory : SurfaceGeometry → SurfaceGeometryMemory
geometry_memory g = record {
  bounds = optional_rect_memory g.bounds;
  clip = optional_rect_memory g.clip;
  transform = g.transform;
  opacity_q16 = g.opacity_q16;
  hit_test_enabled = g.hit_test_enabled;
}

abbrev pub geometry_of : SurfaceGeometryMemory → SurfaceGeometry
geometry_of m = record {
  bounds = optional_rect_of m.bounds;
  clip = optional_rect_of m.clip;
  transform = m.transform;
  opacity_q16 = m.opacity_q16;
  hit_test_enabled = m.hit_test_enabled;
}

-- a record's descriptor, with kind and policy as numbers and the geometry as memory
abbrev pub surface_memory : SurfaceRecord → SurfaceRecordMemory
surface_memory s = let d = s.descriptor in
    record {
      view = d.view;
      kind = surface_kind_number d.kind;
      z_order = d.z_order;
      input = policy_number d.input;
      accepts_text = d.accepts_text;
      geometry = geometry_memory d.geometry;
    }

abbrev pub surface_of : SurfaceRecordMemory → SurfaceRecord
surface_of m =
    record {
      descriptor = record {
        view = m.view;
        kind = surface_kind_of m.kind;
        z_order = m.z_order;
        input = policy_of m.input;
        accepts_text = m.accepts_text;
        geometry = geometry_of m.geometry;
      };
    }

-- the table: the slots as they are, and each record
abbrev pub surfaces_memory : SurfaceTable → SurfaceTableMemory
surfaces_memory t = record { arena = t.arena; records = map surface_memory t.records }

abbrev pub surfaces_of : SurfaceTableMemory → SurfaceTable
surfaces_of m = record { arena = m.arena; records = map surface_of m.records }
