-- `list_hits` meets its contract: after each turn the table holds the hits of the panels passed, from the top.
use Rattle.std.proofs.Common.{◌<◌, ◌-◌, ◌∙◌, sym, ap, arith, length, rules}
use Rattle.lists.specs.Tables.{entries_of}
use Rattle.lists.proofs.TableLaws.{few}
use Rattle.records.specs.Layers.{layers}
use Rattle.view_panels.proofs.PanelLaws.{no_panel, standing_length, standing_here}
use Rattle.composition_hits.specs.HitTest.{is_panel_hit}
use Rattle.composition_hits.proofs.TableLaws.{start, turn_yes, turn_no}
use Rattle.composition_hits.proofs.table.list_hits.Goals as goal

pub loop-i-init : goal.loop-i-init
loop-i-init c =
    let p = c.args.panels in
    let whole = few layers p.layers (search rules) in
    (omega (arith, c.count-i.ensures), whole, rw (c.count-i.ensures, sym (standing_length p)) (start _ _ _ (rw (standing_length p) whole) c.new-hits.ensures))

pub loop-i-preserved-then-is_record_hit : goal.loop-i-preserved-then-is_record_hit
loop-i-preserved-then-is_record_hit c =
    let p = c.args.panels in
    let k = c.loop-i in
    let within : k.i - 1 < length (entries_of layers p.layers) = omega arith in
    let here = standing_here p (k.i - 1) within in
    let tested = ap (is_panel_hit c.args.point) here ∙ sym c.is_record_hit.ensures in
    (omega arith, k.invariant.1, turn_yes _ _ _ _ k.invariant.2 (omega arith) no_panel (tested ∙ c.if-is_record_hit.true) (c.push_in_place.ensures ∙ rw here))

pub loop-i-preserved : goal.loop-i-preserved
loop-i-preserved c =
    let p = c.args.panels in
    let k = c.loop-i in
    let within : k.i - 1 < length (entries_of layers p.layers) = omega arith in
    let here = standing_here p (k.i - 1) within in
    let tested = ap (is_panel_hit c.args.point) here ∙ sym c.is_record_hit.ensures in
    (omega arith, k.invariant.1, turn_no _ _ _ _ k.invariant.2 (omega arith) no_panel (tested ∙ c.if-is_record_hit.false))
