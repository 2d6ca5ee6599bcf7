-- `write_arena` meets its contract: each turn writes one slot more, with its value if it is filled.
use Rattle.std.proofs.Common.{arith, Bool, true, false, cond, List, [], ◌++◌, ap, sym, ◌≡◌, ◌∙◌, append_assoc}
use Rattle.handles.specs.declared.arena.Slot.{Slot}
use Rattle.answer_numbers.specs.declared.writer.Writer.{Writer}
use Rattle.answer_numbers.specs.Arenas.{slot_head, slot_numbers}
use Rattle.answer_numbers.specs.Numbers.{Number, plain, each, indices}
use Rattle.answer_numbers.specs.Writers.{written}
use Rattle.answer_numbers.proofs.EachLaws.{indices_long}
use Rattle.answer_numbers.proofs.WriteLaws.{written_both, index_written}
use Rattle.answer_numbers.proofs.arenas.write_arena.Goals as goal
use Rattle.answer_numbers.proofs.arenas.write_arena.Goals.{then-slot, else-slot}

module _ (value : List Number) (slot : Slot) (v : Writer) {t : Writer} where
  filled : {u : Writer} → slot.filled ≡ true → t ≡ written (slot_head slot) v → u ≡ written value t → u ≡ written (slot_numbers value slot) v
  filled f p q = q ∙ ap (written value) p ∙ written_both (slot_head slot) value v ∙ ap (λ (b : Bool). written (slot_head slot ++ cond b value []) v) (sym f)

  empty : slot.filled ≡ false → t ≡ written (slot_head slot) v → t ≡ written (slot_numbers value slot) v
  empty f p = p ∙ ap (λ (b : Bool). written (slot_head slot ++ cond b value []) v) (sym f)

pub loop-i-init : goal.loop-i-init
unfolding each indices
loop-i-init g c = c.write.ensures

pub loop-i-preserved : goal.loop-i-preserved
loop-i-preserved g c =
    let value = g.V.SlotValues.value c.args.values.now c.loop-i.i in
    index_written _ c.loop-i.i (plain _) _ c.loop-i.invariant
    (rw (sym c.slot_at-slot.ensures)
    (elim c.if-slot.branch [
      | then-slot w ↦ w.to-is ∙ filled value c.slot_at-slot.result c.loop-i.to w.if-slot.true c.write-in-loop-i.ensures w.write_value.ensures
      | else-slot w ↦ w.to-is ∙ empty value c.slot_at-slot.result c.loop-i.to w.if-slot.false c.write-in-loop-i.ensures
    ]))

pub returns : goal.returns
returns g c =
    let last : c.loop-i.i ≡ c.used_places-used.result = omega arith in
    simp (c.write-2.ensures, c.write_list.ensures, c.front.ensures, rw last at c.loop-i.invariant, c.used_places-used.ensures, indices_long, written_both, append_assoc)
