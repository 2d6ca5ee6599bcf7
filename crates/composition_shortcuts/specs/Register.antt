-- RULES.md, Shortcuts: 20, 11/12, 3 (over 64), 18 (a mask 0, or policy neither Interactive nor Exclusive), 41, 21. Each
-- after 42.
use Rattle.std.specs.Result.{result_and}
use Rattle.std.specs.Prelude.{ℕ, Bool, cond, not, ◌&&◌, List, [], ◌∷◌, ◌++◌, map, eqb, ltb, leb, pos, length, Option, None, Some}
use Rattle.std.specs.List.{list_all as all}
use Rattle.lists.specs.Lists.{keep}
use Rattle.lists.specs.Tables.{Shape, table, entries_of, packed}
use Rattle.handles.specs.declared.GenerationalHandle.{GenerationalHandle}
use Rattle.records.specs.declared.error.CompositionError.TheVariants.{Capacity, NotInteractive, PortLimit}
use Rattle.composition_state.specs.declared.registry.CompositionRegistry.{CompositionRegistry}
use Rattle.composition_state.specs.Registry.{Changed}
use Rattle.records.specs.declared.shortcut.ShortcutScope.TheVariants.{View}
use Rattle.records.specs.declared.shortcut.SlotShortcut.{SlotShortcut}
use Rattle.records.specs.Shortcuts.{Shortcuts, shortcuts, is_of_other_slot}
use Rattle.records.specs.declared.shortcut.SurfaceShortcutRegistration.{SurfaceShortcutRegistration}
use Rattle.records.specs.declared.surface.SurfaceInputPolicy.{SurfaceInputPolicy}
use Rattle.composition_state.specs.Damage.{damage_refusal}
use Rattle.records.specs.Errors.{refusal_if, Outcome}
use Rattle.composition_state.specs.Registry.{with_shortcuts, conflict_refusal, settled}
use Rattle.records.specs.Surfaces.{is_interactive, descriptor_of, surface_refusal}
use Rattle.composition_shortcuts.specs.Registrations.{Registrations}

-- what a plain mask registers: scope View, priority 0
abbrev pub registration_of : ℕ → SurfaceShortcutRegistration
registration_of mask = record { class_mask = mask; scope = View; priority = pos 0 }

-- the list handed in: at most 64
abbrev pub registrations : Shape SurfaceShortcutRegistration Registrations
registrations = table 64 (registration_of 0)

-- 18: a mask 0, or policy neither Interactive nor Exclusive; of an empty list nothing is asked
abbrev pub is_fit : SurfaceInputPolicy → SurfaceShortcutRegistration → Bool
is_fit input g = not (eqb g.class_mask 0) && is_interactive input

-- a registration with the slot of its panel
abbrev pub with_slot : ℕ → SurfaceShortcutRegistration → SlotShortcut
with_slot slot g = record { slot = slot; registration = g }

-- the registrations of all other slots, then the list in its order
abbrev pub replaced_entries : ℕ → Registrations → Shortcuts → List SlotShortcut
replaced_entries slot new t =
    keep (is_of_other_slot slot) (entries_of shortcuts t) ++ map (with_slot slot) (entries_of registrations new)

-- RULES.md, Port limits: 256 shortcut registrations in all after the call
abbrev pub fits : ℕ → Registrations → Shortcuts → Bool
fits slot new t = leb (length (replaced_entries slot new t)) 256

-- the table with the list instead of what the slot had; with no room it stays
abbrev pub replaced : ℕ → Registrations → Shortcuts → Shortcuts
replaced slot new t = cond (fits slot new t) (packed shortcuts (replaced_entries slot new t)) t

abbrev pub register_refusal : CompositionRegistry → GenerationalHandle → Registrations → ℕ → Outcome
register_refusal r surface new expected =
    result_and (damage_refusal r)
    (result_and (conflict_refusal r.revision expected)
    (result_and (surface_refusal r.surfaces surface)
    (result_and (refusal_if (ltb 64 new.len) Capacity)
    (result_and (refusal_if (not
    (all (is_fit (descriptor_of r.surfaces surface).input) (entries_of registrations new))) NotInteractive)
    (refusal_if (not (fits surface.index new r.shortcuts)) PortLimit)))))

unfoldable pub register_surface_system_shortcut_set : CompositionRegistry → GenerationalHandle → Registrations → ℕ
    → Changed
register_surface_system_shortcut_set r surface new expected =
    settled (register_refusal r surface new expected) r (with_shortcuts (replaced surface.index new r.shortcuts) r)

-- the thin forms: an optional registration is a list of none or one, and a mask of 0 is none
abbrev pub registration_list : Option SurfaceShortcutRegistration → Registrations
registration_list None = packed registrations []
registration_list (Some g) = packed registrations (g ∷ [])

abbrev pub of_mask : ℕ → Option SurfaceShortcutRegistration
of_mask mask = cond (eqb mask 0) None (Some (registration_of mask))
