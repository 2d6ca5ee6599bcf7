-- The record of a view's slot is that of its two parts, and past the table a blank: by the values of the table.
use Prim.Native.Nat.{ℕ, ◌+◌, ◌*◌, ◌<◌, ◌≤◌}
use mathlib.Core.Path.{◌≡◌, sym, ◌∙◌}
use mathlib.Core.List.{List}
use lib.ListN.{get_or}
use Rattle.records.specs.declared.view.ViewRecord.{ViewRecord}
use Rattle.records.specs.Views.{no_view}
use Rattle.slices.specs.Parts.{part}
use Rattle.slices.proofs.ValueLaws.{table_get, table_past}
use Rattle.state_slices.specs.Layout.{views_start, view_size, inputs_start, input_size}
use Rattle.state_slices.specs.ViewNumbers.{view_from, view_in, views_from}

module _ (fixed moving : List ℕ) (i : ℕ) where
  pub view_read_lem : (k n : ℕ) (x : ViewRecord) → i < 16 → k ≡ view_size → n ≡ input_size
      → x ≡ view_from (part fixed (views_start + i * view_size) k) (part moving (inputs_start + i * input_size) n) → x ≡ get_or (views_from fixed moving) i no_view
  unfolding views_from
  view_read_lem k n x l e d h =
      h ∙ (λ j. view_from (part fixed (views_start + i * view_size) (e j)) (part moving (inputs_start + i * input_size) (d j))) ∙ sym (table_get (view_in fixed moving) 16 i no_view l)

  pub view_past : 16 ≤ i → no_view ≡ get_or (views_from fixed moving) i no_view
  unfolding views_from
  view_past l = table_past (view_in fixed moving) 16 i no_view l
