-- What a turn does is what the test says of its entry, and all entries have room.
use Rattle.std.proofs.Common.{◌≡◌, ◌≤◌, length, refl, sym, ◌∙◌, arith, rules}
use lib.Seq.{take-length}
use Rattle.std.proofs.lemmas.Fn.{says_at}
use Rattle.lists.specs.Tables.{table}
use Rattle.lists.proofs.TableLaws.{few, kept_yes, kept_no}
use Rattle.lists.proofs.table.Table.retain.Goals as goal
use Rattle.lists.proofs.table.Table.retain.Goals.{then-passes, else-passes}

pub loop-entry-preserved : goal.loop-entry-preserved
loop-entry-preserved g c = λ test acts.
    let s = table g.row.N g.T.Blank.BLANK in
    let l = c.entries-entry-items.result.now in
    let i = c.loop-entry.entry-index in
    let d = c.entry-item.result in
    let before = c.loop-entry.invariant test acts in
    let tested : c.passes.result ≡ test d = acts _ _ (says_at g.F.Fn c.passes.ensures refl) in
    let fits : length l ≤ g.row.N = rw c.entries-entry-items.ensures (few s c.args.self (search rules)) in
    elim c.if-passes.branch [
      | then-passes w ↦ w.kept-is ∙ w.push_in_place.ensures ∙ rw c.entry-item.is (kept_yes s test l i d (search rules) fits before (rw (← c.entry-item.is) (sym tested ∙ w.if-passes.true)))
      | else-passes w ↦ w.kept-is ∙ kept_no s test l i d (search rules) fits before (rw (← c.entry-item.is) (sym tested ∙ w.if-passes.false))
    ]

pub returns : goal.returns
returns g c = λ test acts.
    let l = c.entries-entry-items.result.now in
    let all : c.loop-entry.entry-index ≡ length l = omega arith in
    c.loop-entry.invariant test acts ∙ rw (all, take-length, c.entries-entry-items.ensures)
