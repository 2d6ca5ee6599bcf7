-- What is gathered is what stands in the tables, by induction on the layers; and a panel by its place.
use Prim.Native.Nat.{ℕ, zero, suc, ◌<◌}
use mathlib.Core.Path.{◌≡◌, refl, sym, ap, ◌∙◌}
use mathlib.Core.List.{List, [], ◌∷◌, ◌++◌, map, reverse, reverse-cons}
use native.Mathlib.Omega.{arith}
use lib.ListN.{length, get_or}
use Rattle.lists.specs.Tables.{entries_of}
use Rattle.lists.proofs.ListLaws.{map_snoc}
use Rattle.lists.proofs.TableLaws.{entry}
use Rattle.handles.specs.Handles.{handle_of}
use Rattle.handles.specs.declared.GenerationalHandle.{GenerationalHandle}
use Rattle.records.specs.Layers.{Layers, layers, records_of}
use Rattle.records.specs.declared.surface.SurfaceRecord.{SurfaceRecord}
use Rattle.records.specs.Surfaces.{SurfaceTable, no_surface, surface_at}
use Rattle.view_panels.specs.declared.ViewPanels.{ViewPanels}
use Rattle.view_panels.specs.Panels.{Panel, handles_of, with_records, standing, panels_of, panel_in}

pub handles_reverse : (l : List Panel) → handles_of (reverse l) ≡ reverse (handles_of l)
handles_reverse [] = refl
handles_reverse (p ∷ l) =
    ap handles_of (reverse-cons p l) ∙ map_snoc _ (reverse l) p ∙ rw (handles_reverse l) (sym (reverse-cons p.surface (handles_of l)))

-- records that stand in front of others are the handles' own
own_records : (s : SurfaceTable) (l : List GenerationalHandle) (rest : List SurfaceRecord) → with_records l (map (surface_at s) l ++ rest) ≡ map (panel_in s) l
own_records s [] rest = refl
own_records s (h ∷ l) rest = ap (λ (x : List Panel). panel_in s h ∷ x) (own_records s l rest)

pub standing_gathered : (s : SurfaceTable) (l : Layers) → standing (panels_of s.records l) ≡ map (panel_in s) (entries_of layers l)
unfolding records_of
standing_gathered s l = own_records s (entries_of layers l) _

length_with : (l : List GenerationalHandle) (records : List SurfaceRecord) → length (with_records l records) ≡ length l
length_with [] records = refl
length_with (h ∷ l) [] = ap suc (length_with l [])
length_with (h ∷ l) (s ∷ records) = ap suc (length_with l records)

-- as many panels as layers
pub standing_length : (p : ViewPanels) → length (standing p) ≡ length (entries_of layers p.layers)
standing_length p = length_with (entries_of layers p.layers) p.records

-- ---- a panel by its place
abbrev none : GenerationalHandle
none = handle_of 0 0

abbrev pub no_panel : Panel
no_panel = record { surface = none; descriptor = no_surface.descriptor }

-- the layer and the record that stand at a place
abbrev pub panel_at : ViewPanels → ℕ → Panel
panel_at p i = record { surface = get_or p.layers.items i none; descriptor = (get_or p.records i no_surface).descriptor }

with_here : (l : List GenerationalHandle) (records : List SurfaceRecord) (i : ℕ) → i < length l
    → get_or (with_records l records) i no_panel ≡ record { surface = get_or l i none; descriptor = (get_or records i no_surface).descriptor }
with_here [] records i h = absurd (omega arith)
with_here (g ∷ l) [] zero h = refl
with_here (g ∷ l) [] (suc i) h = with_here l [] i (omega arith)
with_here (g ∷ l) (s ∷ records) zero h = refl
with_here (g ∷ l) (s ∷ records) (suc i) h = with_here l records i (omega arith)

pub standing_here : (p : ViewPanels) (i : ℕ) → i < length (entries_of layers p.layers) → get_or (standing p) i no_panel ≡ panel_at p i
standing_here p i h =
    with_here (entries_of layers p.layers) p.records i h
    ∙ (λ j. record { surface = entry layers p.layers i none h j; descriptor = (get_or p.records i no_surface).descriptor })
