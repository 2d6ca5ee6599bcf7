-- The claims hold: they are proved in `StepLaws.antt`.
use Rattle.registry_step.proofs.StepLaws.{panel_settles, input_settles, shortcut_settles}
use Rattle.registry_step.proofs.step_claims.Goals as goal

pub returns : goal.returns
returns c = record { panel = panel_settles; input = input_settles; shortcut = shortcut_settles }
