-- `are_hits_form` meets its contract: what holds of each place holds of all.
use Rattle.std.proofs.Common.{rules, refl, ◌∙◌}
use Rattle.std.proofs.lemmas.Iterator.{YieldsList-from_range}
use Rattle.std.proofs.lemmas.Iterator.Search.{all_from_yields_List}
use Rattle.host_message.proofs.RangeLaws.{all_in_range}
use Rattle.host_message.specs.Hits.{hit_form}
use Rattle.host_message.proofs.hits.are_hits_form.Goals as goal

pub returns : goal.returns
returns c = all_from_yields_List (hit_form c.args.hits) _ _ c.all.result c.all.ensures.ran (YieldsList-from_range 0 16 16 refl refl) (λ x b q k. search rules) ∙ all_in_range (hit_form c.args.hits) 16
