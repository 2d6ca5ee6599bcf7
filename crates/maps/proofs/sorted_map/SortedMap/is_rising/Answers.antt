-- Each entry's key is less than that of the next.
use Rattle.std.proofs.Common.{◌∙◌, rules, ap}
use Rattle.std.proofs.lemmas.Fn.{always_returns_same}
use Rattle.lists.specs.Maps.{rising}
use Rattle.lists.proofs.RisingLaws.{rising_answer}
use Rattle.maps.specs.Keys.{key_lt}
use Rattle.maps.proofs.sorted_map.SortedMap.is_rising.Goals as goal

pub returns : goal.returns
returns g c =
    let key = g.E.Entry.key_of in
    let adjacent = c.is_sorted_by.ensures.cases (λ a b. key_lt (key a) (key b)) (always_returns_same _ _ _ (λ a r f k. search rules)) in
    rising_answer key key_lt _ _ adjacent ∙ ap (rising key key_lt) c.entries.ensures
