-- `write_group` meets its contract: each turn writes one entry more, if it is of the group.
use Rattle.std.proofs.Common.{rules, arith, true, false, ℕ, ap, ◌∙◌, ◌≡◌, eqb, length, ◌∷◌, []}
use Rattle.answer_numbers.specs.Numbers.{plain, each}
use Rattle.answer_numbers.specs.Writers.{written}
use Rattle.answer_numbers.proofs.EachLaws.{filter_kept}
use Rattle.answer_numbers.proofs.WriteLaws.{left_out, put_in, kept_written}
use Rattle.answer_numbers.proofs.numbered.write_group.Goals as goal
use Rattle.answer_numbers.proofs.numbered.write_group.Goals.{then-group, else-group}

pub loop-e-init : goal.loop-e-init
unfolding each
loop-e-init g c =
    c.write.ensures
    ∙ ap (λ (n : ℕ). written (plain n ∷ []) c.args.to.now) (c.group_count.ensures ∙ ap length (filter_kept (λ e. eqb (g.E.Grouped.group e) c.args.group) c.args.entries.now))

pub loop-e-preserved : goal.loop-e-preserved
loop-e-preserved g c =
    let l = c.args.entries.now in
    let i = c.loop-e.e-index in
    elim c.if-group.branch [
      | then-group w ↦
          let yes : eqb (g.E.Grouped.group c.e-item.result) c.args.group ≡ true = search rules in
          w.to-is ∙ put_in (λ e. eqb (g.E.Grouped.group e) c.args.group) g.E.Numbered.numbers l i (plain _) _ c.loop-e-test.true c.e-item.is yes c.loop-e.invariant w.write-then-group.ensures
      | else-group w ↦
          let no : eqb (g.E.Grouped.group c.e-item.result) c.args.group ≡ false = search rules in
          w.to-is ∙ left_out (λ e. eqb (g.E.Grouped.group e) c.args.group) g.E.Numbered.numbers l i (plain _) _ c.loop-e-test.true c.e-item.is no c.loop-e.invariant
    ]

pub returns : goal.returns
returns g c =
    let last : c.loop-e.e-index ≡ length c.args.entries.now = omega arith in
    kept_written (λ e. eqb (g.E.Grouped.group e) c.args.group) g.E.Numbered.numbers c.args.entries.now (plain _) _ (rw last at c.loop-e.invariant)
