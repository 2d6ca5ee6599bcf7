-- `write_releases` meets its contract: after some turns the count and the first releases are written.
use Rattle.std.proofs.Common.{◌∷◌, ◌≡◌, length, take}
use Rattle.answer_numbers.specs.Numbers.{plain, each}
use Rattle.answer_numbers.specs.Writers.{written}
use Rattle.answer_words.specs.Answers.{release_numbers}
use Rattle.answer_words.proofs.listed.write_releases.Given as goal

abbrev pub invariant-loop-release : goal.invariant-loop-release
invariant-loop-release l = l.to ≡ written (plain (length l.releases) ∷ each release_numbers (take l.release-index l.releases)) l.fn.to
