-- The claim for registries of whole arrays, whose lengths the check finds.
use Rattle.std.proofs.Common.{rules}
use Rattle.shutdown_steps.proofs.ClaimLaws.{by_steps}
use Rattle.shutdown_steps.proofs.shutdown_by_steps.Goals as goal

pub returns : goal.returns
returns c = by_steps _ (record {
  windows = record { slots = search rules; free = search rules };
  views = record { slots = search rules; free = search rules };
  surfaces = record { slots = search rules; free = search rules };
  view_records = search rules;
  surface_records = search rules;
})
