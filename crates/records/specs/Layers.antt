-- RULES.md, Layers: from lowest to highest z_order, ties by handle.
use Rattle.std.specs.Prelude.{Bool, true, false, cond, not, List, map, length, get_or, ltb, ℤ}
use Rattle.std.specs.Int.Signed.{lt_z}
use Rattle.lists.specs.Lists.{keep, pad}
use Rattle.lists.specs.Tables.{Shape, table, entries_of, packed}
use Rattle.lists.specs.declared.table.Table.{Table}
use Rattle.lists.specs.Orders.{lex_both}
use Rattle.lists.specs.Maps.{insert, rising}
use Rattle.handles.specs.Handles.{handle_of, handle_lt, same_handle}
use Rattle.handles.specs.declared.GenerationalHandle.{GenerationalHandle}
use Rattle.handles.specs.declared.arena.SlotStatus.{SlotStatus}
use Rattle.handles.specs.declared.arena.SlotStatus.TheVariants.{Live, Invalid, Stale}
use Rattle.records.specs.declared.surface.SurfaceRecord.{SurfaceRecord}
use Rattle.records.specs.Surfaces.{SurfaceTable, no_surface, surface_status, descriptor_of}

-- RULES.md, Port limits: 16 panels a view
abbrev pub Layers : Type 0
Layers = Table GenerationalHandle 16

abbrev pub layers : Shape GenerationalHandle Layers
layers = table 16 (handle_of 0 0)

abbrev pub z_of : List SurfaceRecord → GenerationalHandle → ℤ
z_of records h = (get_or records h.index no_surface).descriptor.z_order

-- a layer's place: its z_order, then its handle
abbrev pub place_of : List SurfaceRecord → GenerationalHandle → ℤ × GenerationalHandle
place_of records h = (z_of records h, h)

-- a panel lies below another: by z_order, then by handle
unfoldable pub layer_lt : List SurfaceRecord → GenerationalHandle → GenerationalHandle → Bool
layer_lt records a b = lex_both lt_z handle_lt (place_of records a) (place_of records b)

-- a layer is its own key
abbrev pub itself : GenerationalHandle → GenerationalHandle
itself h = h

-- the layers with a panel in its place; with no room they stay
abbrev pub layers_with : List SurfaceRecord → GenerationalHandle → Layers → Layers
layers_with records h t =
    cond (ltb (length (entries_of layers t)) 16)
    (packed layers (insert itself (layer_lt records) h (entries_of layers t)))
    t

abbrev pub layers_without : GenerationalHandle → Layers → Layers
layers_without h t = packed layers (keep (λ at. not (same_handle h at)) (entries_of layers t))

-- the record of each layer, by its place, and blanks after them
unfoldable pub records_of : List SurfaceRecord → Layers → List SurfaceRecord
records_of records t = pad 16 no_surface (map (λ h. get_or records h.index no_surface) (entries_of layers t))

-- RULES.md, Damage: in layer order, and no panel twice
abbrev pub layers_rise : List SurfaceRecord → Layers → Bool
layers_rise records t = rising itself (layer_lt records) (entries_of layers t)

abbrev pub is_live : SlotStatus → Bool
is_live Live = true
is_live Invalid = false
is_live Stale = false

-- RULES.md, Damage: a layer is a live panel, and of this view
abbrev pub is_layer_of : SurfaceTable → GenerationalHandle → GenerationalHandle → Bool
is_layer_of t view at = cond (is_live (surface_status t at)) (same_handle (descriptor_of t at).view view) false
