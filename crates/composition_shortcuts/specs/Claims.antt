-- What holds of these calls beyond their equations.
use Rattle.std.specs.Prelude.{ℕ, ◌<◌, ◌/◌, ◌%◌, ◌^◌, ◌≡◌, true, false, None, Some, Ok}
use mathlib.Core.List.{List, [], ◌∷◌, Memᴰ}
use Rattle.lists.specs.Tables.{entries_of, packed}
use Rattle.lists.specs.Numbers.{max_u64}
use Rattle.handles.specs.declared.arena.SlotStatus.TheVariants.{Live}
use Rattle.handles.specs.declared.GenerationalHandle.{GenerationalHandle}
use Rattle.composition_state.specs.declared.registry.CompositionRegistry.{CompositionRegistry}
use Rattle.records.specs.declared.shortcut.SlotShortcut.{SlotShortcut}
use Rattle.records.specs.declared.shortcut.SurfaceShortcutRegistration.{SurfaceShortcutRegistration}
use Rattle.records.specs.declared.surface.SurfaceInputPolicy.TheVariants.{Observe}
use Rattle.records.specs.Surfaces.{SurfaceTable, surface_status, descriptor_of}
use Rattle.records.specs.Views.{ViewTable}
use Rattle.composition_state.specs.Damage.{is_sound}
use Rattle.records.specs.Errors.{number_of}
use Rattle.composition_state.specs.Settles.{Settles}
use Rattle.records.specs.Shortcuts.{shortcuts}
use Rattle.composition_shortcuts.specs.Registrations.{Registrations}
use Rattle.composition_shortcuts.specs.declared.candidate.Candidate.{Candidate}
use Rattle.composition_shortcuts.specs.Register.{registrations, replaced_entries, register_surface_system_shortcut_set}
use Rattle.composition_shortcuts.specs.Scope.{shares_bit, owner_of, counts}
use Rattle.composition_shortcuts.specs.Candidates.{candidate_of, is_less}
use Rattle.composition_shortcuts.specs.Resolve.{resolve_system_shortcut}

module _ (views : ViewTable) (surfaces : SurfaceTable) (view : GenerationalHandle) (mask : ℕ)
    (l : List SlotShortcut) where
  -- a registration of the list that counts
  pub record Counts (s : SlotShortcut) : Type 0 where
    pub stored : Memᴰ s l
    pub counted : counts views surfaces view mask s ≡ true

  -- the panel's registration counts, and nothing that counts is greater
  pub record Wins (h : GenerationalHandle) : Type 0 where
    pub registration : SlotShortcut
    pub owned : owner_of surfaces.arena registration ≡ h
    pub counting : Counts registration
    pub unbeaten : (s : SlotShortcut) → Counts s
        → is_less (candidate_of surfaces view registration) (candidate_of surfaces view s) ≡ false

-- bit k of the 64 stands in both masks
pub record Shared (a b k : ℕ) : Type 0 where
  pub below : k < 64
  pub left : a / 2 ^ k % 2 ≡ 1
  pub right : b / 2 ^ k % 2 ≡ 1

-- a sound registry with a live Observe panel
pub record Observing (r : CompositionRegistry) (h : GenerationalHandle) : Type 0 where
  pub sound : is_sound r ≡ true
  pub live : surface_status r.surfaces h ≡ Live
  pub observe : (descriptor_of r.surfaces h).input ≡ Observe

-- REFUSALS.md's number of a set call with the registry's own revision
abbrev pub set_number : CompositionRegistry → GenerationalHandle → Registrations → ℕ
set_number r h t = number_of (register_surface_system_shortcut_set r h t r.revision).outcome

pub record ShortcutClaims : Type 0 where
  -- the greatest of those that count wins, of any list of registrations
  pub winner_wins : (views : ViewTable) (surfaces : SurfaceTable) (view : GenerationalHandle) (mask : ℕ)
      (l : List SlotShortcut) (h : GenerationalHandle)
      → resolve_system_shortcut views surfaces view mask l ≡ Ok (Some h) → Wins views surfaces view mask l h
  -- RULES.md, System shortcut: none is answered exactly if none counts
  pub none_counts : (views : ViewTable) (surfaces : SurfaceTable) (view : GenerationalHandle) (mask : ℕ)
      (l : List SlotShortcut)
      → resolve_system_shortcut views surfaces view mask l ≡ Ok None
      → (s : SlotShortcut) → Counts views surfaces view mask l s → ⊥
  pub none_wins : (views : ViewTable) (surfaces : SurfaceTable) (view : GenerationalHandle) (mask : ℕ)
      (l : List SlotShortcut)
      → ((s : SlotShortcut) → Counts views surfaces view mask l s → ⊥)
      → (h : GenerationalHandle) → resolve_system_shortcut views surfaces view mask l ≡ Ok (Some h) → ⊥
  -- there is one winner: candidates of which neither is less are of one panel
  pub one_winner : (a b : Candidate) → is_less a b ≡ false → is_less b a ≡ false → a.surface ≡ b.surface
  -- a 64-bit and is not 0 exactly if some bit stands in both
  pub bit_shared : (a b : ℕ) → a < 2 ^ 64 → shares_bit a b ≡ true → (k : ℕ) × Shared a b k
  pub shared_bit : (a b k : ℕ) → Shared a b k → shares_bit a b ≡ true
  -- a refusal of the set call other than 21 changes nothing, and an accepted one raises the revision by exactly 1
  pub set_settles : (r : CompositionRegistry) (h : GenerationalHandle) (t : Registrations) (n : ℕ)
      → Settles r (register_surface_system_shortcut_set r h t n).outcome
      (register_surface_system_shortcut_set r h t n).registry
  -- an accepted set call leaves the registrations of the other slots, then the list, in their order
  pub set_stores : (r : CompositionRegistry) (h : GenerationalHandle) (t : Registrations) (n : ℕ)
      → (register_surface_system_shortcut_set r h t n).outcome ≡ Ok tt
      → entries_of shortcuts (register_surface_system_shortcut_set r h t n).registry.shortcuts
      ≡ replaced_entries h.index t r.shortcuts
  -- an empty list is never refused 18, whatever the policy
  pub empty_fits : (r : CompositionRegistry) (h : GenerationalHandle) (t : Registrations) (n : ℕ) → t.len ≡ 0
      → number_of (register_surface_system_shortcut_set r h t n).outcome ≡ 18 → ⊥
  -- RULES.md, Counter table: 65 registrations on an Observe panel: 3; one there: 18; none: accepted
  pub observe_many : (r : CompositionRegistry) (h : GenerationalHandle) → Observing r h → (t : Registrations) → t.len
      ≡ 65 → set_number r h t ≡ 3
  pub observe_one : (r : CompositionRegistry) (h : GenerationalHandle) → Observing r h
      → (g : SurfaceShortcutRegistration) → set_number r h (packed registrations (g ∷ [])) ≡ 18
  pub observe_none : (r : CompositionRegistry) (h : GenerationalHandle) → Observing r h → (r.revision ≡ max_u64 → ⊥)
      → set_number r h (packed registrations []) ≡ 0
