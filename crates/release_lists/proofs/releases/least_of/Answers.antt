-- After i turns it is the least panel of the first press and of i presses behind it.
use Rattle.std.proofs.Common.{◌+◌, ◌∷◌, take, subst, sym}
use Rattle.release_lists.specs.Releases.{IsLeast}
use Rattle.release_lists.proofs.ReleaseLaws.{least_start, least_turn}
use Rattle.maps.specs.Bindings.{no_binding}
use Rattle.release_lists.proofs.releases.least_of.Goals as goal

pub loop-press-preserved : goal.loop-press-preserved
loop-press-preserved c =
    let l = c.loop-press in
    subst (λ h. IsLeast h (c.args.first ∷ take (l.press-index + 1) c.args.rest.now)) (sym c.lesser-least.ensures)
    (least_turn c.args.first c.args.rest.now l.press-index no_binding c.loop-press-test.true l.least l.invariant)
