-- The registrations of system shortcuts, and their table.
use Rattle.std.specs.Prelude.{map}
use Rattle.records.specs.Shortcuts.{Shortcuts}
use Rattle.records.specs.declared.shortcut.SlotShortcut.{SlotShortcut}
use Rattle.counter_memory.specs.declared.shortcuts.ShortcutsMemory.{ShortcutsMemory}
use Rattle.counter_memory.specs.declared.shortcuts.SlotShortcutMemory.{SlotShortcutMemory}
use Rattle.call_fields.specs.PanelChoices.{scope_number, scope_of}

-- a registration beside its slot, with the scope as a number
abbrev pub shortcut_memory : SlotShortcut → SlotShortcutMemory
shortcut_memory s = let r = s.registration in
    record { class_mask = r.class_mask; slot = s.slot; priority = r.priority; scope = scope_number r.scope }

abbrev pub shortcut_of : SlotShortcutMemory → SlotShortcut
shortcut_of m =
    record {
      slot = m.slot;
      registration = record { class_mask = m.class_mask; scope = scope_of m.scope; priority = m.priority };
    }

-- the table: every place, also past the count, and the count as it is
abbrev pub shortcuts_memory : Shortcuts → ShortcutsMemory
shortcuts_memory t = record { entries = map shortcut_memory t.items; len = t.len }

abbrev pub shortcuts_of : ShortcutsMemory → Shortcuts
shortcuts_of m = record { items = map shortcut_of m.entries; len = m.len }
