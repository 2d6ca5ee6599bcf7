-- The examples hold: they are computed in `ExampleLaws.antt`.
use Rattle.counter_table.proofs.ExampleLaws.{examples}
use Rattle.counter_table.proofs.counter_examples.Goals as goal

pub returns : goal.returns
returns c = examples
