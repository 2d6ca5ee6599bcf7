-- The list of a device's captures.
use Rattle.lists.specs.Tables.{Shape, table}
use Rattle.lists.specs.declared.table.Table.{Table}
use Rattle.maps.specs.Captures.{no_capture}
use Rattle.maps.specs.declared.captures.Capture.{Capture}

-- RULES.md, Port limits: up to 32 captures in each of 16 views
abbrev pub CaptureList : Type 0
CaptureList = Table Capture 512

abbrev pub capture_list : Shape Capture CaptureList
capture_list = table 512 no_capture
