-- `captures_from` meets its contract: after i turns the first i captures stand.
use Rattle.std.proofs.Common.{◌≡◌, ◌<◌, get_or}
use Rattle.slices.specs.Parts.{least}
use Rattle.state_slices.specs.ViewNumbers.{capture_at, captures_from}
use Rattle.maps.specs.Captures.{captures}
use Rattle.slices.proofs.ValueLaws.{filled_none, filled_more, table_made, least_le}
use native.Mathlib.Omega.{arith}
use Rattle.state_slices.proofs.views.captures_from.Goals as goal

pub loop-i-init : goal.loop-i-init
loop-i-init c = filled_none (capture_at c.args.m.now) 32 captures.blank

pub loop-i-preserved : goal.loop-i-preserved
loop-i-preserved c =
    let l = c.loop-i in
    let below : l.i < 32 = omega (arith, c.loop-i-test.true, c.least-i-end.ensures, least_le (get_or c.args.m.now 9 0) 32) in
    filled_more (capture_at c.args.m.now) 32 captures.blank l.items l.i _ below l.invariant c.capture_from.ensures

pub returns : goal.returns
unfolding captures_from
returns c =
    let l = c.loop-i in
    let end : l.i ≡ least (get_or c.args.m.now 9 0) 32 = omega (arith, l.auto.i-end, c.loop-i-test.false, c.least-i-end.ensures) in
    table_made captures (capture_at c.args.m.now) (get_or c.args.m.now 9 0) l.items l.i l.invariant end
