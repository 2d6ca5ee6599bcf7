-- What is left to close makes of the work so far what the whole makes of its start.
use Rattle.std.proofs.Common.{◌≡◌, ◌+◌, ◌<◌, ◌≤◌, ◌∙◌, List, reverse, length, ap, sym, arith, rules}
use Rattle.lists.proofs.TableLaws.{few}
use Rattle.handles.specs.declared.GenerationalHandle.{GenerationalHandle}
use Rattle.records.specs.Layers.{layers}
use Rattle.composition_close.specs.Shutdown.{layers_closed}
use Rattle.composition_close.proofs.ShutdownLaws.{closed_count, closed_top, closed_none}
use Rattle.composition_close.proofs.shutdown.close_layers.Goals as goal

pub close_layer-done-requires : goal.close_layer-done-requires
close_layer-done-requires c =
    let cases = c.in-Some.ensures {u = tt} in
    omega (arith, c.loop-top.invariant.1, cases.cases.1, c.requires, few layers c.args.panels (search rules))

pub loop-top-preserved : goal.loop-top-preserved
loop-top-preserved c =
    let cases = c.in-Some.ensures {u = tt} in
    let l = c.loop-top in
    let next = c.close_layer-done in (
      l.invariant.0 ∙ closed_top l.rest.now c.in-Some.below.now c.in-Some.top.now l.done next.result cases.cases.0 next.ensures,
      omega (arith, l.invariant.1, cases.cases.1, closed_count c.in-Some.top.now l.done next.result next.ensures),
    )

pub returns : goal.returns
returns c =
    let none = c.in_default.ensures {u = tt} in
    let l = c.loop-top in (
      sym (l.invariant.0 ∙ closed_none l.rest.now l.done none.cases),
      omega (arith, l.invariant.1, none.cases, few layers c.args.panels (search rules)),
    )
