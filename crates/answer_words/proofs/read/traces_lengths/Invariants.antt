-- After i turns the lengths of the first i entries are known.
use Rattle.std.proofs.Common.{take}
use Rattle.answer_words.specs.Lengths.{All, TraceLengths}
use Rattle.answer_words.proofs.read.traces_lengths.Given as goal

abbrev pub invariant-loop-trace : goal.invariant-loop-trace
invariant-loop-trace l = All TraceLengths (take l.trace-index l.traces)
