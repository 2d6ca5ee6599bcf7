-- `verb_in` meets its contract: what is found by the names is found by their bytes.
use Rattle.std.proofs.Common.{rules, ◌≡◌, List, ℕ, Bor, ap, ◌∙◌}
use Rattle.std.proofs.lemmas.Iterator.{YieldsList-from_slice}
use Rattle.std.proofs.lemmas.Iterator.Search.{find_from_yields_List}
use Rattle.std.specs.Option.{option_map}
use borrow.Author.Tests.{tests}
use Rattle.script.specs.declared.verb.Verb.{Verb}
use Rattle.script.proofs.VerbLaws.{by_bytes, part_of_now}
use Rattle.script.specs.Words.{same}
use Rattle.script.proofs.verb.verb_in.Goals as goal

pub returns : goal.returns
returns c =
    let mapped : c.map.result ≡ option_map (λ r. r.now.1) c.find.result = search rules in
    mapped
    ∙ part_of_now {A = Bor (List ℕ) × Verb} (λ e. e.1) c.find.result
    ∙ ap (option_map (λ e. e.1)) (find_from_yields_List {v = λ r. r.now} (λ e. same e.0.now c.args.word.now) _ _ c.find.result c.find.ensures.ran (YieldsList-from_slice c.args.table.now c.iter.ensures.rest) (λ x b q k. search (rules, tests)))
    ∙ by_bytes {X = Bor (List ℕ)} (λ r. r.now) c.args.word.now c.args.table.now
