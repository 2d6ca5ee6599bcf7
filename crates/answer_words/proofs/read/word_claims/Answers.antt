-- `word_claims` meets its contract: by the laws of words in a buffer, of reading and of counting.
use mathlib.Core.Path.{refl}
use native.Mathlib.Omega.{arith}
use Rattle.answer_words.specs.Answers.{answer_words, answer_placed}
use Rattle.answer_words.specs.Claims.{step_words}
use Rattle.answer_words.proofs.FitLaws.{bounded, fits}
use Rattle.answer_words.proofs.PlaceLaws.{bytes_long, words_whole}
use Rattle.answer_words.proofs.ReadLaws.{words_back, read_back}
use Rattle.answer_words.proofs.read.word_claims.Goals as goal

pub returns : goal.returns
unfolding answer_words answer_placed
returns c =
    record {
      number = λ call a k. refl;
      words_back = words_back;
      releases_back = read_back;
      bounded = bounded;
      fits = fits;
      whole = λ k x call l buf h.
          let words = step_words k call l in
          words_whole words buf (omega (arith, fits k x call l, bytes_long words));
    }
