-- What holds of the columns of every answer.
use Rattle.std.specs.Prelude.{ℕ, ◌+◌, ◌≤◌, false, ◌≡◌, length, is_ok}
use mathlib.Core.List.{List, ◌++◌, flatten}
use Rattle.answer_text.specs.Put.{put}
use Rattle.input_events.specs.RouterErrors.{router_number_of}
use Rattle.calls.specs.declared.call.Call.{Call}
use Rattle.calls.specs.declared.call.Lists.{Lists}
use Rattle.counter.specs.declared.step.Counter.{Counter}
use Rattle.counter.specs.Step.{stepped}
use Rattle.answer_columns.specs.Pieces.{put_all, text_then, space_pieces, none_pieces}
use Rattle.answer_columns.specs.Columns.{number_pieces, column_pieces}

pub record ColumnClaims : Type 0 where
  -- where there is room for all of them, pieces are put as one text
  pub one_text : (pieces : List (List ℕ)) (buf : List ℕ) (at : ℕ) → at + length (flatten pieces) ≤ length buf
      → put_all pieces (buf, at) ≡ put (flatten pieces) (buf, at)
  -- so from the front of a buffer on they stand whole, and behind them what stood there
  pub whole_text : (pieces : List (List ℕ)) (buf : List ℕ) → length (flatten pieces) ≤ length buf
      → put_all pieces (buf, 0) ≡ text_then (flatten pieces) buf
  -- a refused call has `-` in columns 4 to 6
  pub refused_blank : (k : Counter) (call : Call) (l : Lists) (calls revision : ℕ)
      → is_ok (stepped k call l).answer.outcome ≡ false
      → column_pieces calls revision (stepped k call l).answer
      ≡ number_pieces calls (router_number_of (stepped k call l).answer.outcome) revision ++ none_pieces ++ space_pieces
      ++ none_pieces ++ space_pieces ++ none_pieces
