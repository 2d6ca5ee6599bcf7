-- `mix` meets its contract: a reduced state mixes as the state itself.
use Rattle.answer_text.specs.Digests.{mix}
use Rattle.answer_text.proofs.DigestLaws.{mix_reduced}
use Rattle.answer_text.proofs.digest.mix.Goals as goal

pub returns : goal.returns
unfolding mix
returns g c = mix_reduced c.args.state g.row.FACTOR c.args.part g.row.MODULUS
