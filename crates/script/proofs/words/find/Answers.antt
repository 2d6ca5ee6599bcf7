-- `find` meets its contract: the place that is found, or the end, is behind what stands before it.
use Rattle.std.proofs.Common.{rules, ◌≡◌, ℕ, ◌-◌, List, length, take, drop, nat_eq, ap, ◌∙◌}
use Rattle.std.proofs.lemmas.Iterator.{YieldsList-from_slice}
use Rattle.std.proofs.lemmas.Iterator.Search.{position_from_yields_List}
use Rattle.std.specs.Option.{unwrap_or}
use Rattle.script.proofs.WordLaws.{place_or_end, rest_is}
use Rattle.script.specs.Words.{up_to}
use borrow.Author.Tests.{tests}
use Rattle.script.proofs.words.find.Goals as goal

pub returns : goal.returns
returns c =
    let s : List ℕ = c.args.s.now in
    let xs : List ℕ = take (length s - c.min.result) (drop c.min.result s) in
    let place = position_from_yields_List (λ x. nat_eq x c.args.b) _ _ c.position.result c.position.ensures.ran (YieldsList-from_slice xs c.iter.ensures.rest) (λ x b q k. search (rules, tests)) in
    let found : c.unwrap_or.result ≡ length (up_to c.args.b xs) = c.unwrap_or.ensures ∙ ap (λ o. unwrap_or o (length xs)) place ∙ place_or_end c.args.b xs in
    let rest : xs ≡ drop c.args.from s = rest_is s c.args.from c.min.result c.min.ensures in
    rw found (rw rest)
