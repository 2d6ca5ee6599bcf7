-- Panels: their records by slot.
use Rattle.std.specs.Prelude.{Bool, true, false, get_or, set, pos, None, Some}
use Rattle.geometry.specs.declared.surface.SurfaceGeometry.{SurfaceGeometry}
use Rattle.handles.specs.Handles.{handle_of}
use Rattle.handles.specs.Slots.{lookup_of}
use Rattle.handles.specs.declared.GenerationalHandle.{GenerationalHandle}
use Rattle.handles.specs.declared.arena.Arena.{Arena}
use Rattle.handles.specs.declared.arena.SlotStatus.{SlotStatus}
use Rattle.records.specs.declared.error.CompositionError.TheVariants.{InvalidSurface, StaleSurface}
use Rattle.records.specs.declared.surface.SurfaceKind.TheVariants.{Game}
use Rattle.records.specs.declared.surface.SurfaceInputPolicy.{SurfaceInputPolicy}
use Rattle.records.specs.declared.surface.SurfaceInputPolicy.TheVariants.{Observe, Passthrough, Interactive, Exclusive}
use Rattle.records.specs.declared.surface.SurfaceDescriptor.{SurfaceDescriptor}
use Rattle.records.specs.declared.slot_table.SlotTable.{SlotTable}
use Rattle.records.specs.declared.surface.SurfaceRecord.{SurfaceRecord}
use Rattle.records.specs.Errors.{status_refusal, Outcome}

-- RULES.md, Panels: policy Interactive or Exclusive
abbrev pub is_interactive : SurfaceInputPolicy → Bool
is_interactive Observe = false
is_interactive Passthrough = false
is_interactive Interactive = true
is_interactive Exclusive = true

-- what stands in a slot that was never used
abbrev pub no_surface : SurfaceRecord
no_surface =
    record {
      descriptor = record {
        view = handle_of 0 0;
        kind = Game;
        z_order = pos 0;
        input = Observe;
        accepts_text = false;
        geometry = record {
          bounds = None;
          clip = None;
          transform =
              record {
                m11_q16 = pos 0;
                m12_q16 = pos 0;
                m21_q16 = pos 0;
                m22_q16 = pos 0;
                translate_x_milli = pos 0;
                translate_y_milli = pos 0;
              };
          opacity_q16 = 0;
          hit_test_enabled = false;
        };
      };
    }

-- the slots of the panels, and a record for each slot
abbrev pub SurfaceTable : Type 0
SurfaceTable = SlotTable SurfaceRecord 64

-- the record and the descriptor of a panel, by its slot
abbrev pub surface_at : SurfaceTable → GenerationalHandle → SurfaceRecord
surface_at t h = get_or t.records h.index no_surface

abbrev pub descriptor_of : SurfaceTable → GenerationalHandle → SurfaceDescriptor
descriptor_of t h = (surface_at t h).descriptor

abbrev pub with_geometry : SurfaceGeometry → SurfaceRecord → SurfaceRecord
with_geometry g s = let d = s.descriptor in
    record {
      descriptor = record {
        view = d.view;
        kind = d.kind;
        z_order = d.z_order;
        input = d.input;
        accepts_text = d.accepts_text;
        geometry = g;
      };
    }

abbrev pub with_input : SurfaceInputPolicy → SurfaceRecord → SurfaceRecord
with_input p s = let d = s.descriptor in
    record {
      descriptor = record {
        view = d.view;
        kind = d.kind;
        z_order = d.z_order;
        input = p;
        accepts_text = d.accepts_text;
        geometry = d.geometry;
      };
    }

-- the table with another record for a panel, and with other slots
abbrev pub with_surface : GenerationalHandle → SurfaceRecord → SurfaceTable → SurfaceTable
with_surface h s t = record { arena = t.arena; records = set t.records h.index s }

abbrev pub surfaces_with : Arena → SurfaceTable → SurfaceTable
surfaces_with a t = record { arena = a; records = t.records }

-- RULES.md, Slots: 11/12
abbrev pub surface_status : SurfaceTable → GenerationalHandle → SlotStatus
surface_status t h = lookup_of t.arena h

abbrev pub surface_refusal : SurfaceTable → GenerationalHandle → Outcome
surface_refusal t h = status_refusal (surface_status t h) InvalidSurface StaleSurface
