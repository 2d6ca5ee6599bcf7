-- The live panels as the table that `live_handles` answers: its entries are they, and its count is theirs.
use mathlib.Core.Path.{◌≡◌, ap, ◌∙◌}
use Rattle.lists.specs.Tables.{entries_of, packed}
use Rattle.lists.proofs.TableLaws.{entries_packed}
use Rattle.handles.specs.Slots.{live_handles, handles_table}
use Rattle.handles.specs.declared.arena.Arena.{Arena}
use Rattle.handles.specs.declared.GenerationalHandle.{GenerationalHandle}
use Rattle.lists.specs.declared.table.Table.{Table}

module _ (a : Arena) (panels : Table GenerationalHandle 64) (e : panels ≡ packed handles_table (live_handles a)) where
  pub panels_are : entries_of handles_table panels ≡ live_handles a
  panels_are = ap (entries_of handles_table) e ∙ entries_packed handles_table (live_handles a)
