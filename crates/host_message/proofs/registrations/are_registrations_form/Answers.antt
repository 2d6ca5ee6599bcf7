-- `are_registrations_form` meets its contract: what holds of each place holds of all.
use Rattle.std.proofs.Common.{rules, refl, ◌∙◌}
use Rattle.std.proofs.lemmas.Iterator.{YieldsList-from_range}
use Rattle.std.proofs.lemmas.Iterator.Search.{all_from_yields_List}
use Rattle.host_message.proofs.RangeLaws.{all_in_range}
use Rattle.host_message.specs.Registrations.{entry_form}
use Rattle.host_message.proofs.registrations.are_registrations_form.Goals as goal

pub returns : goal.returns
returns c = all_from_yields_List (entry_form c.args.numbers) _ _ c.all.result c.all.ensures.ran (YieldsList-from_range 0 64 64 refl refl) (λ x b q k. search rules) ∙ all_in_range (entry_form c.args.numbers) 64
