-- `write_list` meets its contract: each turn writes one entry more.
use Rattle.answer_numbers.specs.Numbers.{plain, each}
use Rattle.answer_numbers.proofs.WriteLaws.{entry_written}
use Rattle.answer_numbers.proofs.numbered.write_list.Goals as goal

pub loop-e-init : goal.loop-e-init
unfolding each
loop-e-init g c = c.write.ensures

pub loop-e-preserved : goal.loop-e-preserved
loop-e-preserved g c =
    entry_written g.E.Numbered.numbers c.args.entries.now c.loop-e.e-index (plain _) _ c.loop-e-test.true c.e-item.is c.loop-e.invariant c.write-in-loop-e.ensures
