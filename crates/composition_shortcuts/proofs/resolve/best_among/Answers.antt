-- `best_among` meets its contract: a turn considers one registration more.
use mathlib.Core.Path.{◌≡◌, refl, sym, ◌∙◌}
use native.Mathlib.Omega.{arith}
use Prim.Native.Nat.{◌<◌}
use lib.ListN.{length, take}
use lib.Seq.{take-length}
use Rattle.composition_shortcuts.specs.Greatest.{greatest}
use Rattle.composition_shortcuts.proofs.CandidateLaws.{turn_considered, turn_skipped}
use Rattle.composition_shortcuts.proofs.resolve.best_among.Goals as goal
use Rattle.composition_shortcuts.proofs.resolve.best_among.Goals.{then-shares_bit, else-shares_bit}

pub loop-entry-init : goal.loop-entry-init
unfolding greatest
loop-entry-init c = refl

pub loop-entry-preserved : goal.loop-entry-preserved
loop-entry-preserved c =
    let l = c.loop-entry in
    let a = c.args in
    let stored = c.entries-entry-items.result.now in
    let within : l.entry-index < length stored = omega arith in
    elim c.if-shares_bit.branch [
      | then-shares_bit w ↦ w.best-is ∙ w.consider-best.ensures (take l.entry-index stored) l.invariant ∙ turn_considered a.views a.surfaces a.view a.class_mask stored l.entry-index _ within
      | else-shares_bit w ↦ w.best-is ∙ l.invariant ∙ turn_skipped a.views a.surfaces a.view a.class_mask stored l.entry-index _ within (sym c.shares_bit.ensures ∙ w.if-shares_bit.false)
    ]
