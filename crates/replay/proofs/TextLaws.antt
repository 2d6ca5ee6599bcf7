-- A line is answered by its whole text, by the claims of each kind of line: its pieces all fit the buffer.
use Prim.Native.Nat.{ℕ, ◌≤◌}
use mathlib.Core.Bool.{Bool}
use mathlib.Core.List.{List}
use mathlib.Core.Path.{◌≡◌, ap, ◌∙◌}
use lib.ListN.{length}
use Rattle.lists.proofs.ListLaws.{by_test}
use Rattle.counter.specs.declared.step.Counter.{Counter}
use Rattle.script.specs.Lines.{line_of, is_skipped}
use Rattle.script.specs.declared.line.Line.{Line}
use Rattle.script.specs.declared.fault.LineFault.{LineFault}
use Rattle.std.specs.Prelude.{Option, None, Some, Result}
use Rattle.script_calls.specs.declared.script_call.ScriptCall.{ScriptCall}
use Rattle.script_calls.specs.declared.script_call.ScriptCall.TheVariants.{Session as OfSession, Step}
use Rattle.script_calls.specs.declared.script_call.SessionCall.{SessionCall}
use Rattle.script_calls.specs.declared.script_call.SessionCall.TheVariants.{Digest, New, Router, State, RouterState}
use Rattle.answer_columns.specs.Pieces.{text_then}
use Rattle.line_lengths.specs.Lengths.{StateLengths}
use Rattle.line_lengths.proofs.LineLaws.{claims}
use Rattle.replay.specs.Lines.{asked_by, answered_line}
use Rattle.replay.specs.Sessions.{next_call, finished, answered_step, answered_plain, answered_no_call, answered_session, answered_as}
use Rattle.replay.specs.Starts.{started_registry, started_router}
use Rattle.replay.specs.declared.session.Answered.{Answered}
use Rattle.replay.specs.declared.session.Session.{Session}
use Rattle.replay.specs.Replay.{line_answered}
use Rattle.replay.specs.Texts.{plain_text, session_text, asked_text, called_text, answer_text}

-- the buffer after an answer, and the place behind it
abbrev pub place_in : List ℕ × Answered → List ℕ × ℕ
place_in x = (x.0, x.1.at)

module _ (calls : ℕ) (shown : Bool) (buf : List ℕ) (room : 524288 ≤ length buf) where
  plain_whole : (shown : Bool) (number : ℕ) (c : Counter)
      → place_in (answered_plain calls shown number c buf) ≡ text_then (plain_text calls shown number c) buf
  unfolding answered_plain finished
  plain_whole shown number c = claims.plain c calls number c.registry.revision shown buf room

  session_whole : (c : Counter) → StateLengths c → (asked : SessionCall)
      → place_in (answered_session calls shown c asked buf) ≡ text_then (session_text calls shown c asked) buf
  unfolding answered_session session_text finished
  session_whole c x (Digest on) = plain_whole on 0 c
  session_whole c x (New start) = let s = started_registry c start in plain_whole shown s.number s.counter
  session_whole c x (Router limit) = let s = started_router c limit in plain_whole shown s.number s.counter
  session_whole c x State = claims.state c x calls shown buf room
  session_whole c x RouterState = claims.router_state c x calls c.registry.revision shown buf room

  asked_whole : (c : Counter) → StateLengths c → (asked : Option ScriptCall)
      → place_in (answered_as calls shown c asked buf) ≡ text_then (asked_text calls shown c asked) buf
  unfolding answered_as answered_no_call answered_step asked_text finished
  asked_whole c x None = claims.no_call c calls c.registry.revision shown buf room
  asked_whole c x (Some (OfSession asked)) = session_whole c x asked
  asked_whole c x (Some (Step call lists)) = claims.answered c x call lists calls shown buf room

called_whole : (s : Session) → StateLengths s.counter → (line : Result Line LineFault) (buf : List ℕ) → 524288 ≤ length buf
    → place_in (answered_line s line buf) ≡ text_then (called_text s line) buf
unfolding answered_line called_text
called_whole s x line buf room = asked_whole (next_call s.calls) s.are_digests_shown buf room s.counter x (asked_by line)

line_whole : (s : Session) → StateLengths s.counter → (l buf : List ℕ) → 524288 ≤ length buf
    → place_in (line_answered s l buf) ≡ text_then (answer_text s l) buf
unfolding line_answered answer_text
line_whole s x l buf room =
    by_test (is_skipped l) (λ t. rw t) (λ t. rw t (called_whole s x (line_of l) buf room))

-- what the line of a session that a program holds leaves in its buffer is its whole text
pub answered_whole : (s : Session) → StateLengths s.counter → (l buf : List ℕ) → 524288 ≤ length buf
    → {x : List ℕ × Answered} → x ≡ line_answered s l buf → place_in x ≡ text_then (answer_text s l) buf
answered_whole s x l buf room e = ap place_in e ∙ line_whole s x l buf room
