-- The run of the loop is that of the iterator, and its items are those taken.
use Rattle.std.proofs.Common.{◌≡◌}
use Rattle.std.specs.List.{fold}
use Rattle.lists.specs.Tables.{table, pushed_within}
use Rattle.lists.proofs.RunLaws.{whole_run}
use Rattle.lists.proofs.table.Table.extend.Goals as goal

pub returns : goal.returns
returns g c = record {
  runs = whole_run g.I.Iterator.next_gives c.args.items c.loop-item.item-iterator c.next.new.self
      c.loop-item.yielded (rw (← c.into_iter-item-iterator.ensures.into_iter_gives) c.loop-item.yielded_by) c.in-None.ensures.steps
      (λ xs. c.loop-item.next ≡ fold (pushed_within (table g.row.N g.T.Blank.BLANK)) c.args.self xs) c.loop-item.invariant;
}
