-- `layers_from` meets its contract: after i turns the first i layers stand.
use Rattle.std.proofs.Common.{◌≡◌, ◌<◌, get_or}
use Rattle.slices.specs.Parts.{least}
use Rattle.state_slices.specs.ViewNumbers.{layer_at, layers_from}
use Rattle.records.specs.Layers.{layers}
use Rattle.slices.proofs.ValueLaws.{filled_none, filled_more, table_made, least_le}
use native.Mathlib.Omega.{arith}
use Rattle.state_slices.proofs.views.layers_from.Goals as goal

pub loop-i-init : goal.loop-i-init
loop-i-init c = filled_none (layer_at c.args.b.now) 16 layers.blank

pub loop-i-preserved : goal.loop-i-preserved
loop-i-preserved c =
    let l = c.loop-i in
    let below : l.i < 16 = omega (arith, c.loop-i-test.true, c.least-i-end.ensures, least_le (get_or c.args.b.now 15 0) 16) in
    filled_more (layer_at c.args.b.now) 16 layers.blank l.items l.i _ below l.invariant c.handle_of.ensures

pub returns : goal.returns
unfolding layers_from
returns c =
    let l = c.loop-i in
    let end : l.i ≡ least (get_or c.args.b.now 15 0) 16 = omega (arith, l.auto.i-end, c.loop-i-test.false, c.least-i-end.ensures) in
    table_made layers (layer_at c.args.b.now) (get_or c.args.b.now 15 0) l.items l.i l.invariant end
