-- After i turns the lengths of the first i entries are known.
use Rattle.std.proofs.Common.{take}
use Rattle.answer_words.specs.Lengths.{All, ViewLengths}
use Rattle.answer_words.proofs.read.views_lengths.Given as goal

abbrev pub invariant-loop-view : goal.invariant-loop-view
invariant-loop-view l = All ViewLengths (take l.view-index l.views)
