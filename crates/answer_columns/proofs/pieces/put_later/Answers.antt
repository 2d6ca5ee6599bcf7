-- `put_later` meets its contract: each turn puts a comma and one entry more.
use Rattle.std.proofs.Common.{sym}
use Rattle.answer_columns.specs.Pieces.{later_pieces}
use Rattle.answer_columns.proofs.LineLaws.{entry_put, extended_none}
use Rattle.answer_columns.proofs.pieces.put_later.Goals as goal

pub loop-entry-init : goal.loop-entry-init
unfolding later_pieces
loop-entry-init g c = sym (extended_none c.args.line.now)

pub loop-entry-preserved : goal.loop-entry-preserved
loop-entry-preserved g c =
    entry_put g.E.Pieces.pieces c.args.entries.now c.loop-entry.entry-index _ c.loop-entry-test.true c.entry-item.is c.loop-entry.invariant c.byte.ensures c.put.ensures
