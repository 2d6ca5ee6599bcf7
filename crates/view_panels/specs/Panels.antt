-- RULES.md, Layers: the panels that stand in a view, from lowest to highest, each with its descriptor.
use Rattle.std.specs.Prelude.{List, [], ◌∷◌, map}
use Rattle.lists.specs.Tables.{entries_of}
use Rattle.handles.specs.declared.GenerationalHandle.{GenerationalHandle}
use Rattle.records.specs.Layers.{Layers, layers, records_of}
use Rattle.records.specs.declared.surface.SurfaceDescriptor.{SurfaceDescriptor}
use Rattle.records.specs.declared.surface.SurfaceRecord.{SurfaceRecord}
use Rattle.records.specs.Surfaces.{SurfaceTable, no_surface, descriptor_of}
use Rattle.records.specs.Views.{ViewTable, view_at}
use Rattle.view_panels.specs.declared.ViewPanels.{ViewPanels}

pub record Panel : Type 0 where
  pub surface : GenerationalHandle
  pub descriptor : SurfaceDescriptor

abbrev pub handles_of : List Panel → List GenerationalHandle
handles_of l = map (λ (p : Panel). p.surface) l

-- handles, each with the descriptor in its place; a blank one where the records end
abbrev pub with_records : List GenerationalHandle → List SurfaceRecord → List Panel
with_records [] records = []
with_records (h ∷ l) [] = record { surface = h; descriptor = no_surface.descriptor } ∷ with_records l []
with_records (h ∷ l) (s ∷ records) = record { surface = h; descriptor = s.descriptor } ∷ with_records l records

-- the panels that are gathered
abbrev pub standing : ViewPanels → List Panel
standing p = with_records (entries_of layers p.layers) p.records

-- layers, gathered
abbrev pub panels_of : List SurfaceRecord → Layers → ViewPanels
panels_of records l = record { layers = l; records = records_of records l }

-- ---- by the tables of a registry
abbrev pub panel_in : SurfaceTable → GenerationalHandle → Panel
panel_in surfaces h = record { surface = h; descriptor = descriptor_of surfaces h }

-- the panels of a view
abbrev pub panels_in : ViewTable → SurfaceTable → GenerationalHandle → List Panel
panels_in views surfaces view = map (panel_in surfaces) (entries_of layers (view_at views view).surfaces)
