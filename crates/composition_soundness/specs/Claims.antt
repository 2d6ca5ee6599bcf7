-- RULES.md, Damage: 42 is answered to a damaged registry. No call leads from a registry that the damage test accepts to
-- one that it rejects, whatever it answers, and none answers 42 to it.
use Rattle.std.specs.Prelude.{ℕ, ◌≡◌, true, length, Ok}
use Rattle.handles.specs.declared.arena.Arena.{Arena}
use Rattle.handles.specs.declared.GenerationalHandle.{GenerationalHandle}
use Rattle.records.specs.Errors.{number_of, Outcome}
use Rattle.composition_state.specs.declared.registry.CompositionLimits.{CompositionLimits}
use Rattle.composition_state.specs.declared.registry.CompositionRegistry.{CompositionRegistry}
use Rattle.records.specs.declared.trace.ArbitrationEvent.{ArbitrationEvent}
use Rattle.records.specs.Traces.{Hits}
use Rattle.composition_state.specs.Damage.{is_sound}
use Rattle.composition_state.specs.Start.{started}
use Rattle.composition_input.specs.Captures.{release_device_pointer_captures}
use Rattle.composition_shortcuts.specs.Registrations.{Registrations}
use Rattle.composition_state.specs.Registry.{outcome_of}
use Rattle.composition_arbitration.specs.Arbitration.{arbitrated}
use Rattle.composition_close.specs.Close.{close_surface}
use Rattle.composition_close.specs.Shutdown.{shutdown_of}
use Rattle.calls.specs.declared.call.PanelCall.{PanelCall}
use Rattle.calls.specs.declared.call.InputCall.{InputCall}
use Rattle.calls.specs.declared.call.ShortcutCall.{ShortcutCall}
use Rattle.registry_step.specs.Steps.{panel_step, input_step, shortcut_step}

-- the arrays of slots and records have the length of their types, as those of every value have
pub record WholeArena (a : Arena) : Type 0 where
  pub slots : length a.slots ≡ 64
  pub free : length a.free ≡ 64

pub record Whole (r : CompositionRegistry) : Type 0 where
  pub windows : WholeArena r.windows
  pub views : WholeArena r.views.arena
  pub surfaces : WholeArena r.surfaces.arena
  pub view_records : length r.views.records ≡ 16
  pub surface_records : length r.surfaces.records ≡ 64

-- the damage test accepts the registry
pub record Undamaged (r : CompositionRegistry) : Type 0 where
  pub whole : Whole r
  pub sound : is_sound r ≡ true

-- the registry after a call is undamaged, and the call did not answer 42
pub record Kept (o : Outcome) (r : CompositionRegistry) : Type 0 where
  pub undamaged : Undamaged r
  pub not_42 : number_of o ≡ 42 → ⊥

-- by the groups of calls, so that a further call is a case of its group's proof
pub record SoundnessClaims : Type 0 where
  -- an accepted start and added start
  pub start : (session : GenerationalHandle) (epoch : ℕ) (limits : CompositionLimits) (revision generation : ℕ)
      → (started session epoch limits revision generation).outcome ≡ Ok tt
      → Undamaged (started session epoch limits revision generation).registry
  pub panel : (r : CompositionRegistry) → Undamaged r → (call : PanelCall)
      → Kept (panel_step r call).outcome (panel_step r call).registry
  pub input : (r : CompositionRegistry) → Undamaged r → (call : InputCall)
      → Kept (input_step r call).outcome (input_step r call).registry
  pub release_device : (r : CompositionRegistry) → Undamaged r → (device generation : ℕ)
      → Kept (outcome_of (release_device_pointer_captures r device generation))
      (release_device_pointer_captures r device generation).registry
  pub shortcut : (r : CompositionRegistry) → Undamaged r → (call : ShortcutCall) (l : Registrations)
      → Kept (shortcut_step r call l).outcome (shortcut_step r call l).registry
  pub arbitrate : (r : CompositionRegistry) → Undamaged r
      → (view : GenerationalHandle) (event : ArbitrationEvent) (hits : Hits)
      → Kept (outcome_of (arbitrated r view event hits)) (arbitrated r view event hits).registry
  -- also where 22 leaves the panel out of its view
  pub close_surface_lem : (r : CompositionRegistry) → Undamaged r → (h : GenerationalHandle)
      → Kept (outcome_of (close_surface r h)) (close_surface r h).registry
  pub shutdown : (r : CompositionRegistry) → Undamaged r → Kept (outcome_of (shutdown_of r)) (shutdown_of r).registry
