-- No check but that of damage answers 42: by the cases of its answer, and by the numbers.
use Rattle.std.specs.Prelude.{Option, Ok, Err, None, Some}
use Rattle.std.specs.Result.{result_and}
use mathlib.Core.Path.{◌≡◌, refl}
use mathlib.Core.Bool.{Bool, true, false, not}
use lib.Dec.{eqb}
use Rattle.handles.specs.Slots.{ReleaseOutcome}
use Rattle.handles.specs.declared.arena.ReleaseError.TheVariants as release
use Rattle.handles.specs.declared.arena.SlotStatus.{SlotStatus}
use Rattle.handles.specs.declared.arena.SlotStatus.TheVariants.{Live, Invalid, Stale}
use Rattle.handles.specs.declared.GenerationalHandle.{GenerationalHandle}
use Rattle.records.specs.declared.error.CompositionError.{CompositionError}
use Rattle.records.specs.declared.error.CompositionError.TheVariants.{InvalidWindow, StaleWindow, InvalidView, StaleView, InvalidSurface, StaleSurface, NotInteractive, RevisionConflict}
use Rattle.composition_state.specs.Registry.{Changed}
use Rattle.composition_state.specs.declared.registry.CompositionRegistry.{CompositionRegistry}
use Rattle.records.specs.declared.trace.ArbitrationEvent.{ArbitrationEvent}
use Rattle.composition_state.specs.Damage.{is_sound, damage_refusal}
use Rattle.records.specs.Errors.{error_number, number_of, refusal_if, status_refusal, Outcome}
use Rattle.composition_state.specs.Registry.{window_refusal, conflict_refusal, advanced, settled}
use Rattle.composition_panels.specs.Windows.{exhausted_refusal}
use Prim.Native.Nat.{ℕ}
use Rattle.lists.specs.Lists.{first}
use Rattle.lists.specs.Tables.{entries_of}
use Rattle.lists.specs.Numbers.{max_u64}
use Rattle.handles.specs.Slots.{lookup_of, live_handles}
use Rattle.handles.specs.declared.arena.Arena.{Arena}
use Rattle.records.specs.Surfaces.{SurfaceTable, is_interactive, descriptor_of, surface_status, surface_refusal}
use Rattle.records.specs.declared.trace.ArbitrationEvent.TheVariants.{Pointer, PointerStack, PointerFor, PointerStackFor, Keyboard, KeyboardFor, Gamepad, GamepadFor, Text, Shortcut, SystemShortcut}
use Rattle.records.specs.Shortcuts.{shortcuts}
use Rattle.records.specs.Views.{view_status, view_refusal}
use Rattle.composition_input.specs.Focus.{described, interactive_refusal, entry_refusal}
use Rattle.composition_shortcuts.specs.OwnView.{is_refused, refusal_of, own_view_refusal}
use Rattle.composition_shortcuts.specs.Resolve.{resolved_outcome, winner, resolve_system_shortcut}
use Rattle.composition_arbitration.specs.Arbitration.{resolution_of, resolution}
use Rattle.composition_soundness.proofs.CaseLaws.{either}

-- an answer that is not 42
pub record Clear (o : Outcome) : Type 0 where
  pub clear : eqb (number_of o) 42 ≡ false

pub accepted : Clear (Ok tt)
accepted = record { clear = refl }

pub refused : (e : CompositionError) → eqb (error_number e) 42 ≡ false → Clear (Err e)
refused e h = record { clear = h }

-- the value that a call makes does not alter whether it is accepted
pub with_value : {T : Type 0} (v : T) (o : Outcome) → Clear o → Clear (result_and (result_and o (Ok v)) (Ok tt))
with_value v (Ok _) p = accepted
with_value v (Err e) p = p

both_clear : (a b : Outcome) → Clear a → Clear b → Clear (result_and a b)
both_clear (Ok _) b p q = q
both_clear (Err e) b p q = p

pub then_clear : {a b : Outcome} → Clear a → Clear b → Clear (result_and a b)
then_clear {a} {b} p q = both_clear a b p q

pub if_clear : (b : Bool) (e : CompositionError) → eqb (error_number e) 42 ≡ false → Clear (refusal_if b e)
if_clear true e h = refused e h
if_clear false e h = accepted

pub status_clear : (s : SlotStatus) (e f : CompositionError) → eqb (error_number e) 42 ≡ false → eqb (error_number f) 42 ≡ false → Clear (status_refusal s e f)
status_clear Live e f h k = accepted
status_clear Invalid e f h k = refused e h
status_clear Stale e f h k = refused f k

pub exhausted_clear : (o : ReleaseOutcome) → Clear (exhausted_refusal o)
exhausted_clear (Ok _) = accepted
exhausted_clear (Err release.Invalid) = accepted
exhausted_clear (Err release.Stale) = accepted
exhausted_clear (Err release.GenerationExhausted) = record { clear = refl }

advanced_clear : (c : CompositionRegistry) → Clear (advanced c).outcome
unfolding advanced
advanced_clear c = either (λ (x : Changed). Clear x.outcome) (eqb c.revision max_u64) _ _ (record { clear = refl }) accepted

pub settled_clear : (o : Outcome) (r c : CompositionRegistry) → Clear o → Clear (settled o r c).outcome
settled_clear (Ok _) r c p = advanced_clear c
settled_clear (Err e) r c p = p

-- ---- the checks that many calls make
pub conflict : (m n : ℕ) → Clear (conflict_refusal m n)
conflict m n = if_clear (not (eqb m n)) RevisionConflict refl

module _ (r : CompositionRegistry) where
  pub window_at : (w : GenerationalHandle) → Clear (window_refusal r.windows w)
  window_at w = status_clear (lookup_of r.windows w) InvalidWindow StaleWindow refl refl

  pub view_at_lem : (v : GenerationalHandle) → Clear (view_refusal r.views v)
  view_at_lem v = status_clear (view_status r.views v) InvalidView StaleView refl refl

  pub panel_at_lem : (h : GenerationalHandle) → Clear (surface_refusal r.surfaces h)
  panel_at_lem h = status_clear (surface_status r.surfaces h) InvalidSurface StaleSurface refl refl

  pub interactive : (h : GenerationalHandle) → Clear (interactive_refusal r h)
  interactive h = if_clear (not (is_interactive (described r h).input)) NotInteractive refl

  module _ (s : is_sound r ≡ true) where
    pub damage : Clear (damage_refusal r)
    damage = rw s accepted

    pub entry : (n : ℕ) → Clear (entry_refusal r n)
    entry n = then_clear damage (conflict r.revision n)

-- ---- what a system shortcut looks up
own_view : (views : Arena) (surfaces : SurfaceTable) (o : Option GenerationalHandle) → Clear (refusal_of views surfaces o)
own_view views surfaces None = accepted
own_view views surfaces (Some h) = status_clear (lookup_of views (descriptor_of surfaces h).view) InvalidView StaleView refl refl

pub resolution_clear : (r : CompositionRegistry) (view : GenerationalHandle) (event : ArbitrationEvent) → Clear (resolved_outcome (resolution r view event))
unfolding resolution_of resolve_system_shortcut own_view_refusal
resolution_clear r view (SystemShortcut mask) =
    with_value (winner r.views r.surfaces view mask (entries_of shortcuts r.shortcuts)) (own_view_refusal r.views.arena r.surfaces mask (entries_of shortcuts r.shortcuts))
    (own_view r.views.arena r.surfaces (first (is_refused r.views.arena r.surfaces mask (entries_of shortcuts r.shortcuts)) (live_handles r.surfaces.arena)))
resolution_clear r view (Pointer hit) = accepted
resolution_clear r view PointerStack = accepted
resolution_clear r view (PointerFor pointer hit) = accepted
resolution_clear r view (PointerStackFor pointer) = accepted
resolution_clear r view Keyboard = accepted
resolution_clear r view (KeyboardFor target) = accepted
resolution_clear r view Gamepad = accepted
resolution_clear r view (GamepadFor target) = accepted
resolution_clear r view Text = accepted
resolution_clear r view Shortcut = accepted
