-- The order of layers is a strict order, by the order of whole numbers and of handles.
use Prim.Native.Nat.{ℕ, ◌+◌, ◌≤◌, ◌<◌}
use mathlib.Core.Path.{◌≡◌, sym, ap, ◌∙◌}
use mathlib.Core.Bool.{Bool}
use mathlib.Core.List.{List, [], ◌∷◌, ◌++◌, map}
use lib.ListN.{length, take, get_or, set, length-map, length-take, get_or-append, get_or-map}
use lib.IntN.{ℤ}
use lib.Signed.{lt_z}
use Rattle.lists.specs.Orders.{Ordered, both_same, same_z, lex_both}
use Rattle.lists.specs.Maps.{insert}
use Rattle.lists.specs.MapClaims.{MapClaims}
use Rattle.lists.proofs.OrderLaws.{through}
use Rattle.lists.proofs.IntegerOrder.{integers, pairs_both}
use Rattle.lists.proofs.MapLaws as map
use Rattle.handles.specs.Handles.{handle_lt, same_handle}
use Rattle.handles.specs.declared.GenerationalHandle.{GenerationalHandle}
use Rattle.handles.proofs.HandleLaws.{handles}
use Rattle.records.specs.declared.surface.SurfaceRecord.{SurfaceRecord}
use Rattle.records.specs.Layers.{Layers, layers, itself, place_of, layer_lt, records_of}

-- ---- the order of layers
abbrev pub same_layer : List SurfaceRecord → GenerationalHandle → GenerationalHandle → Bool
same_layer records a b = both_same same_z same_handle (place_of records a) (place_of records b)

pub ordered : (records : List SurfaceRecord) → Ordered (layer_lt records) (same_layer records)
unfolding layer_lt
ordered records = through (place_of records) (λ a b e. ap (λ (x : ℤ × GenerationalHandle). x.1) e) (pairs_both integers handles)

pub claims : (records : List SurfaceRecord) → MapClaims itself (layer_lt records) (same_layer records)
claims records = map.claims itself (ordered records)

pub insert_fits : (records : List SurfaceRecord) (h : GenerationalHandle) (l : List GenerationalHandle) → length (insert itself (layer_lt records) h l) ≤ length l + 1
insert_fits records h l = map.insert_fits itself (ordered records) h l
