-- The views as numbers, and what a view shows of its captures and layers.
use Rattle.std.specs.Prelude.{List, ◌++◌, get_or}
use Rattle.lists.specs.Tables.{entries_of}
use Rattle.handles.specs.declared.GenerationalHandle.{GenerationalHandle}
use Rattle.maps.specs.Captures.{captures, PointerCaptures}
use Rattle.records.specs.Layers.{layers, Layers}
use Rattle.records.specs.Surfaces.{descriptor_of, SurfaceTable}
use Rattle.records.specs.Views.{no_view, ViewTable}
use Rattle.records.specs.declared.view.ViewRecord.{ViewRecord}
use Rattle.answer_numbers.specs.Groups.{handle_numbers, optional_numbers, capture_numbers, metrics_numbers, descriptor_numbers}
use Rattle.answer_numbers.specs.Lists.{layers_numbers}
use Rattle.answer_numbers.specs.Numbers.{Number, list_numbers}
use Rattle.answer_numbers.specs.Arenas.{arena_numbers}

-- the captured pointers of a view by rising key: n, n × (K, H)
abbrev pub captures_numbers : PointerCaptures → List Number
captures_numbers t = list_numbers capture_numbers (entries_of captures t)

-- a layer with its descriptor: H, D
abbrev pub described_numbers : SurfaceTable → GenerationalHandle → List Number
described_numbers surfaces h = handle_numbers h ++ descriptor_numbers (descriptor_of surfaces h)

-- the layers of a view with their descriptors, lowest first: n, n × (H, D)
abbrev pub view_layers_numbers : Layers → SurfaceTable → List Number
view_layers_numbers t surfaces = list_numbers (described_numbers surfaces) (entries_of layers t)

-- a view: window H, M, the layers, focus O, single capture O, the captures, IME O
abbrev pub view_numbers : ViewRecord → List Number
view_numbers v =
    handle_numbers v.window
    ++ (metrics_numbers v.metrics
    ++ (layers_numbers v.surfaces
    ++ (optional_numbers v.focus
    ++ (optional_numbers v.pointer_capture
    ++ (captures_numbers v.pointer_captures
    ++ optional_numbers v.ime)))))

-- the arena of the views
abbrev pub views_numbers : ViewTable → List Number
views_numbers t = arena_numbers (λ i. view_numbers (get_or t.records i no_view)) t.arena
