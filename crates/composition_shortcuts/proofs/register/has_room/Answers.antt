-- `has_room` meets its contract: the two counts are those of the list that the table would hold.
use Rattle.std.proofs.Common.{◌≡◌, ◌∙◌, ap, arith, length, rules}
use Rattle.lists.specs.Tables.{entries_of}
use Rattle.lists.proofs.TableLaws.{few}
use Rattle.records.specs.Shortcuts.{Shortcuts, shortcuts, shortcuts_without}
use Rattle.composition_shortcuts.specs.Register.{registrations}
use Rattle.composition_shortcuts.proofs.RegisterLaws.{others_few, entries_count}
use Rattle.composition_shortcuts.proofs.register.has_room.Goals as goal

pub overflow_add-result : goal.overflow_add-result
overflow_add-result c =
    let a = c.args in
    let others : c.count.result ≡ length (entries_of shortcuts (shortcuts_without a.slot a.shortcuts)) = c.count.ensures ∙ ap (λ (t : Shortcuts). length (entries_of shortcuts t)) c.shortcuts_without.ensures in
    omega (arith, others, c.count-2.ensures, others_few a.slot a.shortcuts (few shortcuts a.shortcuts (search rules)), few registrations a.registrations (search rules))

pub returns : goal.returns
returns c =
    let a = c.args in
    rw (entries_count a.slot a.shortcuts a.registrations, c.count-2.ensures, c.count.ensures, c.shortcuts_without.ensures)
