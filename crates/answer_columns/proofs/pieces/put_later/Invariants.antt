-- `put_later` meets its contract: after some turns the first entries are put.
use Rattle.std.proofs.Common.{◌≡◌, take}
use Rattle.answer_columns.specs.Lines.{extended}
use Rattle.answer_columns.specs.Pieces.{later_pieces}
use Rattle.answer_columns.proofs.pieces.put_later.Given as goal

abbrev pub invariant-loop-entry : goal.invariant-loop-entry
invariant-loop-entry g l = l.line ≡ extended (later_pieces g.E.Pieces.pieces (take l.entry-index l.entries)) l.fn.line
