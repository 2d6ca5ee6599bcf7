-- `index_of_word` meets its contract: the words are the parts that the text is cut into.
use Rattle.std.proofs.Common.{rules, nat_eq, ap, ◌∙◌}
use Rattle.std.proofs.lemmas.Iterator.Search.{position_from_yields_List}
use Rattle.std.proofs.lemmas.Iterator.Splits.{YieldsList-from_slice_split}
use Rattle.script.proofs.WordLaws.{words_split}
use Rattle.script.specs.Words.{same, place_in}
use Rattle.script.proofs.words.index_of_word.Goals as goal

pub returns : goal.returns
returns c =
    position_from_yields_List (λ v. same v c.args.word.now) _ _ c.position.result c.position.ensures.ran
    (YieldsList-from_slice_split _ (λ b. nat_eq b 32) c.args.text.now c.split.ensures.rest c.split.ensures.done c.split.ensures.closure (λ x b q k. search rules))
    (λ x b q k. search rules)
    ∙ ap (place_in c.args.word.now) (words_split c.args.text.now)
