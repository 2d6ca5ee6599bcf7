-- Which numbers a chain of checks answers: by the cases of each check.
use Rattle.std.specs.Prelude.{Ok, Err}
use Rattle.std.specs.Result.{result_and}
use Prim.Native.Nat.{ℕ}
use mathlib.Core.Path.{◌≡◌, refl}
use mathlib.Core.Bool.{Bool, true, false, not}
use lib.Dec.{eqb}
use Rattle.handles.specs.Slots.{lookup_of}
use Rattle.handles.specs.Slots.{ReleaseOutcome}
use Rattle.handles.specs.declared.arena.ReleaseError.TheVariants as release
use Rattle.handles.specs.declared.arena.SlotStatus.{SlotStatus}
use Rattle.handles.specs.declared.arena.SlotStatus.TheVariants.{Live, Invalid, Stale}
use Rattle.handles.specs.declared.GenerationalHandle.{GenerationalHandle}
use Rattle.records.specs.declared.error.CompositionError.{CompositionError}
use Rattle.records.specs.declared.error.CompositionError.TheVariants.{InvalidWindow, StaleWindow, InvalidView, StaleView, InvalidSurface, StaleSurface, NotInteractive, RevisionConflict, Damaged}
use Rattle.composition_state.specs.declared.registry.CompositionRegistry.{CompositionRegistry}
use Rattle.composition_state.specs.Damage.{is_sound, damage_refusal}
use Rattle.records.specs.Errors.{error_number, refusal_if, status_refusal, Outcome}
use Rattle.composition_state.specs.Registry.{window_refusal, conflict_refusal}
use Rattle.records.specs.Surfaces.{is_interactive, surface_status, surface_refusal}
use Rattle.records.specs.Views.{view_status, view_refusal}
use Rattle.composition_panels.specs.Windows.{exhausted_refusal}
use Rattle.composition_input.specs.Focus.{described, interactive_refusal, entry_refusal}

-- an answer that is accepted, or whose number passes a test
abbrev allows : (ℕ → Bool) → Outcome → Bool
allows p (Ok _) = true
allows p (Err e) = p (error_number e)

pub record Within (p : ℕ → Bool) (o : Outcome) : Type 0 where
  pub is : allows p o ≡ true

module _ (p : ℕ → Bool) where
  pub accepted : Within p (Ok tt)
  accepted = record { is = refl }

  both_within : (a b : Outcome) → Within p a → Within p b → Within p (result_and a b)
  both_within (Ok _) b f g = g
  both_within (Err e) b f g = f

  pub if_within : (b : Bool) (e : CompositionError) → p (error_number e) ≡ true → Within p (refusal_if b e)
  if_within true e h = record { is = h }
  if_within false e h = accepted

  pub status_within : (s : SlotStatus) (e f : CompositionError) → p (error_number e) ≡ true → p (error_number f) ≡ true → Within p (status_refusal s e f)
  status_within Live e f h k = accepted
  status_within Invalid e f h k = record { is = h }
  status_within Stale e f h k = record { is = k }

-- the value that a call makes does not alter whether it is accepted
pub with_value : {T : Type 0} (p : ℕ → Bool) (v : T) (o : Outcome) → Within p o → Within p (result_and (result_and o (Ok v)) (Ok tt))
with_value p v (Ok _) f = f
with_value p v (Err e) f = f

pub then_within : {p : ℕ → Bool} {a b : Outcome} → Within p a → Within p b → Within p (result_and a b)
then_within {p} {a} {b} f g = both_within p a b f g

-- ---- the checks that many calls make answer no 21
abbrev pub is_other : ℕ → Bool
is_other n = not (eqb n 21)

abbrev pub Other : Outcome → Type 0
Other o = Within is_other o

pub conflict : (m n : ℕ) → Other (conflict_refusal m n)
conflict m n = if_within is_other (not (eqb m n)) RevisionConflict refl

pub exhausted : (o : ReleaseOutcome) → Other (exhausted_refusal o)
exhausted (Ok _) = accepted is_other
exhausted (Err release.Invalid) = accepted is_other
exhausted (Err release.Stale) = accepted is_other
exhausted (Err release.GenerationExhausted) = record { is = refl }

module _ (r : CompositionRegistry) where
  pub damage : Other (damage_refusal r)
  damage = if_within is_other (not (is_sound r)) Damaged refl

  pub entry : (n : ℕ) → Other (entry_refusal r n)
  entry n = then_within damage (conflict r.revision n)

  pub window_at : (w : GenerationalHandle) → Other (window_refusal r.windows w)
  window_at w = status_within is_other (lookup_of r.windows w) InvalidWindow StaleWindow refl refl

  pub view_at_lem : (v : GenerationalHandle) → Other (view_refusal r.views v)
  view_at_lem v = status_within is_other (view_status r.views v) InvalidView StaleView refl refl

  pub panel_at_lem : (h : GenerationalHandle) → Other (surface_refusal r.surfaces h)
  panel_at_lem h = status_within is_other (surface_status r.surfaces h) InvalidSurface StaleSurface refl refl

  pub interactive : (h : GenerationalHandle) → Other (interactive_refusal r h)
  interactive h = if_within is_other (not (is_interactive (described r h).input)) NotInteractive refl
