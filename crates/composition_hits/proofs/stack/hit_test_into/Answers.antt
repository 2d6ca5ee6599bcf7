-- `hit_test_into` meets its contract: an accepted test writes the hits, and a refused one writes nothing.
use mathlib.Core.Path.{sym, ◌∙◌}
use Rattle.view_panels.proofs.PanelLaws.{standing_gathered}
use Rattle.composition_hits.specs.HitTest.{view_hits, hit_numbers, hit_test, buffer_after}
use Rattle.composition_hits.proofs.BufferLaws.{written_none}
use Rattle.composition_hits.proofs.TestLaws.{accepted_long}
use Rattle.composition_hits.proofs.stack.hit_test_into.Goals as goal

pub returns-in_err-hit_test_refusal-clause-written : goal.returns-in_err-hit_test_refusal-clause-written
unfolding buffer_after hit_numbers
returns-in_err-hit_test_refusal-clause-written c = rw (sym c.in_err-hit_test_refusal.ensures) (written_none _)

pub returns-clause-answer : goal.returns-clause-answer
unfolding hit_test hit_numbers view_hits
returns-clause-answer c = rw (sym c.in_ok-hit_test_refusal.ensures, c.fill.ensures.place, c.gather-panels.ensures, c.layers_of.ensures, standing_gathered)

pub returns-clause-written : goal.returns-clause-written
unfolding buffer_after hit_numbers view_hits
returns-clause-written c = rw (sym c.in_ok-hit_test_refusal.ensures) (c.fill.ensures.filled ∙ rw (c.gather-panels.ensures, c.layers_of.ensures, standing_gathered))
