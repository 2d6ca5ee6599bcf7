-- `hit_test_stack` meets its contract: the front part of the whole buffer is the numbers of the hits.
use mathlib.Core.Path.{sym, ap}
use lib.ListN.{length}
use Rattle.composition_hits.specs.HitTest.{hit_test, buffer_after}
use Rattle.composition_hits.proofs.BufferLaws.{front_written}
use Rattle.composition_hits.proofs.TestLaws.{accepted_is, refused_is}
use Rattle.composition_hits.proofs.stack.hit_test_stack.Goals as goal

pub slice_bounds-result-end : goal.slice_bounds-result-end
unfolding hit_test buffer_after
slice_bounds-result-end c =
    let e = c.in-Ok.ensures in
    rw ((accepted_is _ _ _ e.answer).1, e.written) (sym (ap length (front_written _ _)))

pub returns-in-Ok-clause-accepted : goal.returns-in-Ok-clause-accepted
unfolding hit_test
returns-in-Ok-clause-accepted c = (accepted_is _ _ _ c.in-Ok.ensures.answer).0

pub returns-in-Ok-clause-front : goal.returns-in-Ok-clause-front
unfolding hit_test buffer_after
returns-in-Ok-clause-front c = let e = c.in-Ok.ensures in rw ((accepted_is _ _ _ e.answer).1, e.written) (front_written _ _)

pub returns-in-Err-clause-refused : goal.returns-in-Err-clause-refused
unfolding hit_test
returns-in-Err-clause-refused c = refused_is _ _ _ c.in-Err.ensures.answer
