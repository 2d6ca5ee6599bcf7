-- `device_captures` meets its contract: after i turns the list holds the captures of the first i slots, at most 32 for each.
use Rattle.std.proofs.Common.{◌≡◌, ◌*◌, ◌≤◌, length}
use Rattle.lists.specs.Tables.{packed}
use Rattle.release_lists.specs.Captures.{capture_list}
use Rattle.composition_input.specs.Captures.{taken_at}
use Rattle.composition_input.proofs.CaptureListLaws.{gathered}
use Rattle.composition_input.proofs.captures.device_captures.Given as goal

abbrev pub invariant-loop-i : goal.invariant-loop-i
invariant-loop-i l =
    (l.list ≡ packed capture_list (gathered (taken_at l.views l.device.value l.device.generation) l.i))
    × (length (gathered (taken_at l.views l.device.value l.device.generation) l.i) ≤ l.i * 32)
