-- The replay format, Answer line: the whole text that a line of a script is answered with.
use Rattle.std.specs.Prelude.{ℕ, Bool, cond, List, [], Option, None, Some, Result}
use Rattle.counter.specs.Step.{stepped}
use Rattle.counter.specs.declared.step.Counter.{Counter}
use Rattle.script.specs.Lines.{line_of, is_skipped}
use Rattle.replay.specs.Lines.{asked_by}
use Rattle.script.specs.declared.fault.LineFault.{LineFault}
use Rattle.script.specs.declared.line.Line.{Line}
use Rattle.script_calls.specs.declared.script_call.ScriptCall.{ScriptCall}
use Rattle.script_calls.specs.declared.script_call.ScriptCall.TheVariants.{Session as OfSession, Step}
use Rattle.script_calls.specs.declared.script_call.SessionCall.{SessionCall}
use Rattle.script_calls.specs.declared.script_call.SessionCall.TheVariants.{Digest, New, Router, State, RouterState}
use Rattle.answer_line.specs.Line.{plain_pieces, no_call_pieces}
use Rattle.line_lengths.specs.Texts.{answer_pieces, state_pieces, router_state_pieces, line_text}
use Rattle.replay.specs.Sessions.{next_call}
use Rattle.replay.specs.Starts.{started_registry, started_router}
use Rattle.replay.specs.declared.session.Session.{Session}
use Rattle.replay.specs.declared.starts.Started.{Started}

-- a call that shows its number alone
abbrev pub plain_text : ℕ → Bool → ℕ → Counter → List ℕ
plain_text calls shown number c = line_text (plain_pieces calls number c.registry.revision) c shown

-- a start shows its number, for the counter after it
abbrev pub start_text : ℕ → Bool → Started → List ℕ
start_text calls shown x = plain_text calls shown x.number x.counter

-- `digest` holds from its own line on; `state` and `router_state` show the whole dump
unfoldable pub session_text : ℕ → Bool → Counter → SessionCall → List ℕ
session_text calls shown c (Digest on) = plain_text calls on 0 c
session_text calls shown c (New start) = start_text calls shown (started_registry c start)
session_text calls shown c (Router limit) = start_text calls shown (started_router c limit)
session_text calls shown c State = line_text (state_pieces calls c.registry) c shown
session_text calls shown c RouterState = line_text (router_state_pieces calls c.registry.revision c.router) c shown

-- a line that is no call, a call of the session, and one on the counter, which goes through `step`
unfoldable pub asked_text : ℕ → Bool → Counter → Option ScriptCall → List ℕ
asked_text calls shown c None = line_text (no_call_pieces calls c.registry.revision) c shown
asked_text calls shown c (Some (OfSession asked)) = session_text calls shown c asked
asked_text calls shown c (Some (Step call lists)) =
    let x = stepped c call lists in
    line_text (answer_pieces calls call x.answer x.counter) x.counter shown

unfoldable pub called_text : Session → Result Line LineFault → List ℕ
called_text s line = asked_text (next_call s.calls) s.are_digests_shown s.counter (asked_by line)

-- the text that the bytes of a line are answered with: none where the line is skipped
unfoldable pub answer_text : Session → List ℕ → List ℕ
answer_text s l = cond (is_skipped l) [] (called_text s (line_of l))
