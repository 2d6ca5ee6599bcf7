-- RULES.md, Shutdown: the definition in use answers and leaves what the Rust's steps do, and none is refused.
use Rattle.std.specs.Prelude.{◌≡◌, Ok}
use Rattle.handles.specs.Slots.{live_handles}
use Rattle.composition_state.specs.declared.registry.CompositionRegistry.{CompositionRegistry}
use Rattle.composition_close.specs.Shutdown.{shutdown_refusal, shutdown_of}
use Rattle.composition_soundness.specs.Claims.{Whole, Undamaged}
use Rattle.shutdown_steps.specs.Steps.{shutdown_steps, shutdown_by_steps}

-- RULES.md, Shutdown: 21 and 22 come before any change, after 42, and nothing after them can stop it
pub record ShutdownClaims : Type 0 where
  -- after 42, 21 and 22 no step is refused
  pub no_refusal : (r : CompositionRegistry) → Undamaged r → shutdown_refusal r ≡ Ok tt
      → (shutdown_steps r).outcome ≡ Ok tt
  -- the steps close every view and every window that was live
  pub all_views : (r : CompositionRegistry) → Undamaged r → shutdown_refusal r ≡ Ok tt
      → (shutdown_steps r).views ≡ live_handles r.views.arena
  pub all_windows : (r : CompositionRegistry) → Undamaged r → shutdown_refusal r ≡ Ok tt
      → (shutdown_steps r).windows ≡ live_handles r.windows
  -- answer, report and registry of a shutdown are those of the steps, also where it is refused
  pub by_steps : (r : CompositionRegistry) → Whole r → shutdown_of r ≡ shutdown_by_steps r
