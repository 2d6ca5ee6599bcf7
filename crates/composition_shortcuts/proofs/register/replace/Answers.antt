-- `replace` meets its contract: with room the list is put after the registrations of the other slots.
use Rattle.std.proofs.Common.{◌∙◌, sym, ap, map, List}
use Rattle.std.specs.List.{fold}
use Rattle.lists.specs.Tables.{entries_of, pushed_within}
use Rattle.records.specs.Shortcuts.{Shortcuts, shortcuts}
use Rattle.records.specs.declared.shortcut.SurfaceShortcutRegistration.{SurfaceShortcutRegistration}
use Rattle.composition_shortcuts.specs.Register.{registrations, with_slot}
use Rattle.composition_shortcuts.proofs.RegisterLaws.{filled_is}
use Rattle.composition_shortcuts.proofs.register.replace.Goals as goal

pub returns : goal.returns
returns c =
    let a = c.args in
    let put : Shortcuts → List SurfaceShortcutRegistration → Shortcuts = λ t l. fold (pushed_within shortcuts) t (map (with_slot a.slot) l) in
    filled_is a.slot a.shortcuts a.registrations (sym c.has_room.ensures ∙ c.if-not-has_room.false)
    (c.with_each.ensures ∙ ap (put c.shortcuts_without.result) c.entries.ensures ∙ ap (λ t. put t (entries_of registrations a.registrations)) c.shortcuts_without.ensures)
