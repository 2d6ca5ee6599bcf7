-- Every answer line fits its buffer: each kind of line is one text, and none is longer than 419,862 bytes.
use Rattle.std.specs.Prelude.{ℕ, ◌≤◌, Bool, List, ◌≡◌, length}
use Rattle.calls.specs.declared.call.Call.{Call}
use Rattle.calls.specs.declared.call.Lists.{Lists}
use Rattle.counter.specs.declared.step.Counter.{Counter}
use Rattle.counter.specs.Step.{stepped}
use Rattle.answer_columns.specs.Pieces.{put_all, text_then}
use Rattle.answer_line.specs.Line.{answer_taken, plain_pieces, no_call_pieces, state_taken, router_state_taken, end_pieces}
use Rattle.line_lengths.specs.Lengths.{StateLengths}
use Rattle.line_lengths.specs.Texts.{answer_pieces, state_pieces, router_state_pieces, line_text}

-- columns put into a buffer, and the end of their line behind them, are the whole text of the line
abbrev pub Whole : (List ℕ → List ℕ × ℕ) → List (List ℕ) → Counter → Bool → Type 0
Whole columns pieces k shown =
    (buf : List ℕ) → 524288 ≤ length buf → put_all (end_pieces k shown) (columns buf)
    ≡ text_then (line_text pieces k shown) buf

-- of every counter whose arrays have their lengths, whatever the numbers in it: no piece is left out
pub record LineLengthClaims : Type 0 where
  -- an answer of `step`
  pub answered : (k : Counter) → StateLengths k → (call : Call) (l : Lists) (calls : ℕ) (shown : Bool)
      → let x = stepped k call l in
      Whole (answer_taken calls call x.answer x.counter) (answer_pieces calls call x.answer x.counter)
      x.counter shown
  -- a call that shows its number alone, and a line that is no call
  pub plain : (k : Counter) (calls number revision : ℕ) (shown : Bool)
      → Whole (λ buf. put_all (plain_pieces calls number revision) (buf, 0))
      (plain_pieces calls number revision) k shown
  pub no_call : (k : Counter) (calls revision : ℕ) (shown : Bool)
      → Whole (λ buf. put_all (no_call_pieces calls revision) (buf, 0)) (no_call_pieces calls revision) k shown
  -- the dumps
  pub state : (k : Counter) → StateLengths k → (calls : ℕ) (shown : Bool)
      → Whole (state_taken calls k.registry) (state_pieces calls k.registry) k shown
  pub router_state : (k : Counter) → StateLengths k → (calls revision : ℕ) (shown : Bool)
      → Whole (router_state_taken calls revision k.router) (router_state_pieces calls revision k.router) k shown
