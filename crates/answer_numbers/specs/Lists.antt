-- Lists of the state: how many entries, and the numbers of each.
use Rattle.std.specs.Prelude.{List}
use Rattle.lists.specs.Tables.{entries_of}
use Rattle.handles.specs.Slots.{handles_table}
use Rattle.handles.specs.declared.GenerationalHandle.{GenerationalHandle}
use Rattle.lists.specs.declared.table.Table.{Table}
use Rattle.records.specs.Layers.{layers, Layers}
use Rattle.answer_numbers.specs.Numbers.{Number, list_numbers}
use Rattle.answer_numbers.specs.Groups.{handle_numbers}

-- the layers of a view, lowest first: n, n × H
abbrev pub layers_numbers : Layers → List Number
layers_numbers t = list_numbers handle_numbers (entries_of layers t)

-- a list of handles: n, n × H
abbrev pub handles_numbers : Table GenerationalHandle 64 → List Number
handles_numbers t = list_numbers handle_numbers (entries_of handles_table t)
