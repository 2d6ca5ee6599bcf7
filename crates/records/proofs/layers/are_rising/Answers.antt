-- Each layer lies below the next.
use Rattle.std.proofs.Common.{◌∙◌, rules, ap}
use Rattle.std.proofs.lemmas.Fn.{always_returns_same}
use Rattle.lists.specs.Maps.{rising}
use Rattle.lists.proofs.RisingLaws.{rising_answer}
use Rattle.records.specs.Layers.{itself, layer_lt}
use Rattle.records.proofs.layers.are_rising.Goals as goal

pub returns : goal.returns
returns c =
    let lt = layer_lt c.args.records.now in
    let adjacent = c.is_sorted_by.ensures.cases (λ a b. lt a b) (always_returns_same _ _ _ (λ a r f k. search rules)) in
    rising_answer itself lt _ _ adjacent ∙ ap (rising itself lt) c.entries.ensures
