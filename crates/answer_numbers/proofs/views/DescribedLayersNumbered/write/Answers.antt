-- `write` meets its contract: each turn writes one layer more, and its descriptor.
use Rattle.std.proofs.Common.{arith, ap, ◌∙◌, ◌≡◌, length}
use lib.Seq.{take-length}
use Rattle.lists.specs.Tables.{entries_of}
use Rattle.answer_numbers.specs.Numbers.{plain, each}
use Rattle.answer_numbers.specs.Writers.{written}
use Rattle.answer_numbers.specs.Views.{described_numbers}
use Rattle.answer_numbers.proofs.WriteLaws.{place_written, written_both}
use Rattle.answer_numbers.proofs.views.DescribedLayersNumbered.write.Goals as goal

pub loop-layer-init : goal.loop-layer-init
unfolding each
loop-layer-init c = c.write.ensures

pub loop-layer-preserved : goal.loop-layer-preserved
loop-layer-preserved c =
    place_written (described_numbers c.args.self.now.surfaces.now) _ c.loop-layer.layer-index _ (plain _) _ c.loop-layer-test.true c.loop-layer.invariant
    (rw c.descriptor.ensures at c.write-in-loop-layer-2.ensures ∙ ap (written _) c.write-in-loop-layer.ensures ∙ written_both _ _ _)
