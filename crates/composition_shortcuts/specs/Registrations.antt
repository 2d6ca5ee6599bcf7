-- RULES.md, Shortcuts: a panel registers at most 64 shortcuts in a call.
use Rattle.lists.specs.declared.table.Table.{Table}
use Rattle.records.specs.declared.shortcut.SurfaceShortcutRegistration.{SurfaceShortcutRegistration}

-- the registrations handed in
abbrev pub Registrations : Type 0
Registrations = Table SurfaceShortcutRegistration 64
