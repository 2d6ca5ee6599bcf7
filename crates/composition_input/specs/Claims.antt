-- RULES.md, Revisions: what a refusal leaves and what an accepted change raises, claimed of each call on focus,
-- captures and compositions.
use Rattle.std.specs.Prelude.{ℕ, ◌+◌, ◌≡◌, Option, Ok, Err}
use Rattle.handles.specs.declared.GenerationalHandle.{GenerationalHandle}
use Rattle.maps.specs.declared.keys.CompositionPointerId.{CompositionPointerId}
use Rattle.records.specs.declared.error.CompositionError.{CompositionError}
use Rattle.records.specs.declared.error.CompositionError.TheVariants.{RevisionExhausted}
use Rattle.composition_state.specs.declared.registry.CompositionRegistry.{CompositionRegistry}
use Rattle.composition_state.specs.Registry.{Changed, outcome_of}
use Rattle.composition_state.specs.Settles.{Settles}
use Rattle.release_lists.specs.Captures.{CaptureList}
use Rattle.composition_input.specs.Focus.{set_focus, begin_ime, end_ime, suspend_view_input}
use Rattle.composition_input.specs.Captures.{primary, capture_pointer_for, release_pointer_for, release_pointer, CapturesReleased, release_device_pointer_captures}

-- how a call that answers no value leaves the registry
abbrev pub Settled : CompositionRegistry → Changed → Type 0
Settled before c = Settles before c.outcome c.registry

-- of a release by device the revision rises only if a capture was listed; else nothing changes
pub record ReleaseSettles (before : CompositionRegistry) (a : CapturesReleased) : Type 0 where
  pub refused : (e : CompositionError) → a.outcome ≡ Err e → (e ≡ RevisionExhausted → ⊥) → a.registry ≡ before
  pub listed : (l : CaptureList) → a.outcome ≡ Ok l → (l.len ≡ 0 → ⊥) → a.registry.revision ≡ before.revision + 1
  pub unlisted : (l : CaptureList) → a.outcome ≡ Ok l → l.len ≡ 0 → a.registry ≡ before

pub record InputClaims : Type 0 where
  pub set_focus_lem : (r : CompositionRegistry) (view : GenerationalHandle) (surface : Option GenerationalHandle) (expected : ℕ)
      → Settled r (set_focus r view surface expected)
  pub begin_ime_lem : (r : CompositionRegistry) (surface : GenerationalHandle) (expected : ℕ)
      → Settled r (begin_ime r surface expected)
  pub end_ime_lem : (r : CompositionRegistry) (surface : GenerationalHandle) (expected : ℕ)
      → Settled r (end_ime r surface expected)
  pub suspend_view_input_lem : (r : CompositionRegistry) (view : GenerationalHandle) (expected : ℕ)
      → Settles r (outcome_of (suspend_view_input r view expected)) (suspend_view_input r view expected).registry
  pub capture_pointer_for_lem : (r : CompositionRegistry) (p : CompositionPointerId) (surface : GenerationalHandle)
      (expected : ℕ) → Settled r (capture_pointer_for r p surface expected)
  pub capture_pointer : (r : CompositionRegistry) (surface : GenerationalHandle) (expected : ℕ)
      → Settled r (capture_pointer_for r primary surface expected)
  pub release_pointer_for_lem : (r : CompositionRegistry) (p : CompositionPointerId) (surface : GenerationalHandle)
      (expected : ℕ) → Settled r (release_pointer_for r p surface expected)
  pub release_pointer_lem : (r : CompositionRegistry) (surface : GenerationalHandle) (expected : ℕ)
      → Settled r (release_pointer r surface expected)
  pub release_device_pointer_captures_lem : (r : CompositionRegistry) (device generation : ℕ)
      → ReleaseSettles r (release_device_pointer_captures r device generation)
