-- RULES.md, What a refusal has written, claimed of every call on the registry that lists nothing: a refusal other than
-- 21 has written nothing.
use Rattle.composition_state.specs.declared.registry.CompositionRegistry.{CompositionRegistry}
use Rattle.composition_state.specs.Settles.{Settles}
use Rattle.composition_shortcuts.specs.Registrations.{Registrations}
use Rattle.calls.specs.declared.call.PanelCall.{PanelCall}
use Rattle.calls.specs.declared.call.InputCall.{InputCall}
use Rattle.calls.specs.declared.call.ShortcutCall.{ShortcutCall}
use Rattle.registry_step.specs.Steps.{panel_step, input_step, shortcut_step}

pub record StepClaims : Type 0 where
  pub panel : (r : CompositionRegistry) (call : PanelCall)
      → Settles r (panel_step r call).outcome (panel_step r call).registry
  pub input : (r : CompositionRegistry) (call : InputCall)
      → Settles r (input_step r call).outcome (input_step r call).registry
  pub shortcut : (r : CompositionRegistry) (call : ShortcutCall) (l : Registrations)
      → Settles r (shortcut_step r call l).outcome (shortcut_step r call l).registry
