-- `write` meets its contract: after some turns the count and the first layers are written.
use Rattle.std.proofs.Common.{◌∷◌, ◌≡◌, length, take}
use Rattle.answer_numbers.specs.Numbers.{plain, each}
use Rattle.answer_numbers.specs.Writers.{written}
use Rattle.answer_numbers.specs.Views.{described_numbers}
use Rattle.answer_numbers.proofs.views.DescribedLayersNumbered.write.Given as goal

abbrev pub invariant-loop-layer : goal.invariant-loop-layer
invariant-loop-layer l =
    l.to ≡ written (plain (length l.layers) ∷ each (described_numbers l.self.surfaces.now) (take l.layer-index l.layers)) l.fn.to
