-- `list_of` meets its contract: the entries so far are read.
use Rattle.std.proofs.Common.{sym, ap, refl, ◌∙◌, ◌≡◌, arith, []}
use Rattle.std.specs.Prelude.{Some}
use Rattle.lists.specs.Tables.{packed}
use Rattle.script_calls.specs.ListFields.{all_read, listed}
use Rattle.script_calls.proofs.ListLaws.{held, listed_more, listed_none}
use Rattle.script_calls.proofs.list_fields.list_of.Goals as goal

pub loop-k-init : goal.loop-k-init
unfolding packed all_read
loop-k-init g c = λ entry reads. (ap (λ x. Some (record { items = x; len = 0 })) (held g.row.N g.T.Blank.BLANK [] (omega arith)) ∙ ap Some (sym c.new-list.ensures), ap (λ t. t.len) c.new-list.ensures)

pub returns-in_err-entry : goal.returns-in_err-entry
returns-in_err-entry g c = λ entry reads.
    let k = c.loop-k.k in
    c.from_residual.ensures ∙ sym (listed_none entry g.row.N g.T.Blank.BLANK k c.args.n (sym (reads k _ c.loop-k-test.true c.in_err-entry.ensures)) c.loop-k-test.true)

pub loop-k-preserved : goal.loop-k-preserved
loop-k-preserved g c = λ entry reads.
    let k = c.loop-k.k in
    let before = c.loop-k.invariant entry reads in
    let more = listed_more entry g.row.N g.T.Blank.BLANK k c.loop-k.list c.in_ok-entry.entry before.0 before.1 (sym (reads k _ c.loop-k-test.true c.in_ok-entry.ensures)) in
    (rw c.with_item.ensures more, refl)
