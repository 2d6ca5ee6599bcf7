-- `walk_layers` meets its contract: what is left of the panels answers as the whole, after what is delivered already.
use Rattle.std.specs.Prelude.{Some}
use Rattle.std.proofs.Common.{rules}
use native.Mathlib.Omega.{arith}
use Prim.Native.Nat.{◌<◌, ◌-◌}
use mathlib.Core.Path.{sym, ap, ◌∙◌}
use lib.ListN.{length}
use Rattle.lists.specs.Tables.{entries_of}
use Rattle.lists.proofs.TableLaws.{few}
use Rattle.records.specs.Layers.{layers as state_layers}
use Rattle.records.specs.Traces.{hits as state_hits}
use Rattle.view_panels.specs.Panels.{Panel}
use Rattle.view_panels.proofs.PanelLaws.{no_panel, standing_length, standing_here}
use Rattle.composition_arbitration.specs.Layers.{verdict_of, consumes}
use Rattle.composition_arbitration.proofs.WalkLaws.{start, turn, stop, done}
use Rattle.composition_arbitration.proofs.walk.walk_layers.Goals as goal

pub loop-i-init : goal.loop-i-init
loop-i-init c =
    let p = c.args.panels in
    let whole = few state_layers p.layers (search rules) in
    (omega (arith, c.count-i.ensures), whole, rw (c.count-i.ensures, sym (standing_length p)) (start _ _ _ (rw (standing_length p) whole) c.new-deliveries.ensures))

pub returns-then-is_consumed : goal.returns-then-is_consumed
returns-then-is_consumed c =
    let a = c.args in
    let k = c.loop-i in
    let within : k.i - 1 < length (entries_of state_layers a.panels.layers) = omega arith in
    let here = standing_here a.panels (k.i - 1) within in
    let told = c.verdict_of-verdict.ensures in
    let at = verdict_of a.choice (entries_of state_hits a.hits) in
    let asked = ap (λ (p : Panel). consumes (at p)) here ∙ sym (ap consumes told) ∙ sym c.is_consumed.ensures in
    (λ j. record { deliveries = c.deliver-deliveries.result; consumed_by = Some (sym here j).surface })
    ∙ stop at _ _ _ k.invariant.2 (omega arith) no_panel _ (c.deliver-deliveries.ensures ∙ rw (told, here)) (asked ∙ c.if-is_consumed.true)

pub loop-i-preserved : goal.loop-i-preserved
loop-i-preserved c =
    let a = c.args in
    let k = c.loop-i in
    let within : k.i - 1 < length (entries_of state_layers a.panels.layers) = omega arith in
    let here = standing_here a.panels (k.i - 1) within in
    let told = c.verdict_of-verdict.ensures in
    let at = verdict_of a.choice (entries_of state_hits a.hits) in
    let asked = ap (λ (p : Panel). consumes (at p)) here ∙ sym (ap consumes told) ∙ sym c.is_consumed.ensures in
    (omega arith, k.invariant.1, turn at _ _ _ k.invariant.2 (omega arith) no_panel _ (c.deliver-deliveries.ensures ∙ rw (told, here)) (asked ∙ c.if-is_consumed.false))

pub returns : goal.returns
returns c = done _ _ _ _ c.loop-i.invariant.2 (omega arith)
