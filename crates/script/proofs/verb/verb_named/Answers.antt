-- `verb_named` meets its contract: the table's names are the definition's.
use Rattle.script.specs.Verbs.{verb_named}
use Rattle.script.proofs.verb.verb_named.Goals as goal

pub returns : goal.returns
unfolding verb_named
returns c = c.verb_in.ensures
