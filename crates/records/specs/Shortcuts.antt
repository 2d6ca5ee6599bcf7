-- The registrations of all panels, in the order given, each with the slot of its panel.
use Rattle.std.specs.Prelude.{ℕ, Bool, not, eqb, pos}
use Rattle.lists.specs.Lists.{keep}
use Rattle.lists.specs.Tables.{Shape, table, entries_of, packed}
use Rattle.lists.specs.declared.table.Table.{Table}
use Rattle.records.specs.declared.shortcut.ShortcutScope.TheVariants.{View}
use Rattle.records.specs.declared.shortcut.SlotShortcut.{SlotShortcut}

-- RULES.md, Port limits: 256 shortcut registrations in all
abbrev pub Shortcuts : Type 0
Shortcuts = Table SlotShortcut 256

abbrev pub no_shortcut : SlotShortcut
no_shortcut = record { slot = 0; registration = record { class_mask = 0; scope = View; priority = pos 0 } }

abbrev pub shortcuts : Shape SlotShortcut Shortcuts
shortcuts = table 256 no_shortcut

-- the registrations of all slots but one, in their order
abbrev pub is_of_other_slot : ℕ → SlotShortcut → Bool
is_of_other_slot slot s = not (eqb slot s.slot)

abbrev pub shortcuts_without : ℕ → Shortcuts → Shortcuts
shortcuts_without slot t = packed shortcuts (keep (is_of_other_slot slot) (entries_of shortcuts t))
