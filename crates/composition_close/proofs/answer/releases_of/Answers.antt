-- Three pushes, by the cases of what the panel had.
use Rattle.composition_close.proofs.ReportLaws.{listed}
use Rattle.composition_close.proofs.answer.releases_of.Goals as goal

pub returns : goal.returns
returns c = rw (c.push_if.ensures, c.push_if-captured.ensures, c.push_if-composed.ensures, c.new.ensures) (listed c.args.had_ime c.args.had_capture c.args.had_focus)
