-- `device_captures` meets its contract: after i turns the list holds the captures of the first i slots, at most 32 for each.
use Rattle.std.proofs.Common.{sym, ap, ◌∙◌, arith, rules}
use Rattle.lists.specs.Tables.{packed}
use Rattle.lists.proofs.BelowLaws.{iter_none}
use Rattle.lists.proofs.TableLaws.{entries_packed, few as few_in}
use Rattle.maps.specs.Captures.{captures, PointerCaptures}
use Rattle.maps.specs.declared.captures.Capture.{Capture}
use Rattle.release_lists.specs.Captures.{capture_list}
use Rattle.composition_input.specs.Captures.{taken_at}
use Rattle.composition_input.proofs.CaptureListLaws.{gathered_fits, gathered_turn, slots_few}
use Rattle.composition_input.proofs.captures.device_captures.Goals as goal

pub loop-i-init : goal.loop-i-init
loop-i-init c = (c.new-list.ensures ∙ ap (packed capture_list) (sym (iter_none _ _)), rw iter_none (omega arith))

pub loop-i-preserved : goal.loop-i-preserved
loop-i-preserved c =
    let a = c.args in
    let l = c.loop-i in
    let taken = taken_at a.views a.device.value a.device.generation in
    let held = few_in {E = Capture} {T = PointerCaptures} captures c.taken_at.result (search rules) in
    let few = rw (c.taken_at.ensures, entries_packed captures (taken l.i)) at held in (
      gathered_turn taken l.i l.list _ _ l.invariant.0 c.taken_at.ensures (omega (arith, few, l.invariant.1, c.loop-i-test.true, c.loop-i.auto.i-end, c.slots-i-end.ensures, slots_few a.views)) c.extended-list.ensures,
      gathered_fits taken l.i l.invariant.1 few,
    )
