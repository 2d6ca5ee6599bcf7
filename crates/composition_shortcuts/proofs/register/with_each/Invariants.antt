-- After i turns the first i registrations are put after the others.
use Rattle.std.proofs.Common.{◌≡◌, map, take}
use Rattle.std.specs.List.{fold}
use Rattle.lists.specs.Tables.{pushed_within}
use Rattle.records.specs.Shortcuts.{shortcuts}
use Rattle.composition_shortcuts.specs.Register.{with_slot}
use Rattle.composition_shortcuts.proofs.register.with_each.Given as goal

abbrev pub invariant-loop-registration : goal.invariant-loop-registration
invariant-loop-registration l = l.next ≡ fold (pushed_within shortcuts) l.initial.next (map (with_slot l.slot) (take l.registration-index l.registrations))
