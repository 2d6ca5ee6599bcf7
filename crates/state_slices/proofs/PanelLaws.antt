-- The record of a slot is that of its row, and past the table a blank: by the values of the table.
use Prim.Native.Nat.{ℕ, ◌+◌, ◌*◌, ◌<◌, ◌≤◌}
use mathlib.Core.Path.{◌≡◌, sym, ap, ◌∙◌}
use mathlib.Core.List.{List}
use lib.ListN.{get_or}
use Rattle.records.specs.declared.surface.SurfaceRecord.{SurfaceRecord}
use Rattle.records.specs.Surfaces.{no_surface}
use Rattle.slices.specs.Parts.{part, row_at}
use Rattle.slices.proofs.ValueLaws.{table_get, table_past}
use Rattle.state_slices.specs.Layout.{panels_start, panel_size}
use Rattle.state_slices.specs.PanelNumbers.{panel_from, panels_from}

module _ (fixed : List ℕ) (i : ℕ) where
  pub panel_read : (k : ℕ) (x : SurfaceRecord) → i < 64 → k ≡ panel_size → x ≡ panel_from (part fixed (panels_start + i * panel_size) k) → x ≡ get_or (panels_from fixed) i no_surface
  unfolding panels_from
  panel_read k x l e h = h ∙ ap (λ (n : ℕ). panel_from (part fixed (panels_start + i * panel_size) n)) e ∙ sym (table_get (row_at panel_from panels_start panel_size fixed) 64 i no_surface l)

  pub panel_past : 64 ≤ i → no_surface ≡ get_or (panels_from fixed) i no_surface
  unfolding panels_from
  panel_past l = table_past (row_at panel_from panels_start panel_size fixed) 64 i no_surface l
