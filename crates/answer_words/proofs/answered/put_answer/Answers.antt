-- `put_answer` meets its contract: the answer's own numbers, then what the call shows, are put as one list of words.
use Rattle.std.proofs.Common.{ap, ◌∙◌}
use Rattle.answer_numbers.specs.declared.sink.SinkKind.TheVariants.{Words}
use Rattle.answer_more.specs.More.{more_of}
use Rattle.answer_more.specs.Place.{more_placed}
use Rattle.answer_words.specs.Answers.{answer_words, answer_placed}
use Rattle.answer_words.proofs.PlaceLaws.{words_put}
use Rattle.answer_words.proofs.answered.put_answer.Goals as goal

pub returns : goal.returns
unfolding answer_words answer_placed
returns c =
    let more = more_of c.args.call c.args.answer c.args.counter in
    c.put_more.ensures
    ∙ ap (more_placed Words more) (rw c.named_handle.ensures at c.put_numbers-end.ensures)
    ∙ words_put _ more _
