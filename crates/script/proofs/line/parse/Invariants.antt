-- `parse` meets its contract: each turn reads one word, and the words to come answer as all of them.
use Rattle.script.proofs.LineLaws.{Gathering}
use Rattle.script.proofs.WordLaws.{words_left}
use Rattle.script.specs.Words.{later_words}
use Rattle.script.proofs.line.parse.Given as goal

abbrev pub invariant-loop-word : goal.invariant-loop-word
invariant-loop-word l = Gathering (later_words l.line) (words_left l.word-iterator) l.fields.items l.fields.len
