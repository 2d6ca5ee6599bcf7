-- The layers below, the panel and the layers above are the insertion.
use Rattle.std.proofs.Common.{◌≡◌, ◌<◌, ◌∙◌, sym, ap, arith, length, rules}
use Rattle.std.specs.List.{fold}
use Rattle.std.proofs.lemmas.Grind.{common_steps}
use borrow.Author.Tests.{lt-ltb}
use Rattle.lists.specs.Tables.{entries_of, pushed_within}
use Rattle.lists.proofs.InsertLaws.{inserted_is}
use Rattle.records.specs.Layers.{layers, itself, layer_lt}
use Rattle.records.proofs.LayerLaws.{insert_fits}
use Rattle.records.proofs.layers.layers_with.Goals as goal

pub returns : goal.returns
returns c =
    let a = c.args in
    let l = entries_of layers a.layers in
    let lt = layer_lt a.records.now in
    let room : length l < 16 = omega (arith, c.count.ensures, c.if-count-ge16.false) in
    let below = c.retain-below.ensures (λ at. lt at a.surface) (search rules) in
    let above = c.retain-above.ensures (λ at. lt a.surface at) (search rules) in
    let all : c.extend.result ≡ fold (pushed_within layers) c.push_within.result (entries_of layers c.retain-above.result) = grind (arith, common_steps) in
    inserted_is layers itself lt a.surface l (omega (arith, insert_fits a.records.now a.surface l)) below c.push_within.ensures above all
    ∙ rw (lt-ltb _ 16 room)
