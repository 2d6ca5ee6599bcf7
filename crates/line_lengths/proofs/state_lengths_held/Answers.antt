-- `state_lengths_held` meets its contract: the arrays are as long as their types say, by what the counter's type owns.
use Rattle.std.proofs.Common.{rules}
use Rattle.line_lengths.proofs.state_lengths_held.Goals as goal

pub returns : goal.returns
returns c =
    record {
      answered = c.lengths_held.ensures;
      windows = search rules;
      views = search rules;
      surfaces = search rules;
      shortcuts = search rules;
      sequences = search rules;
    }
