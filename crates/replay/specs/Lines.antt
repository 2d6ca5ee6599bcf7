-- The replay format: a line that is not skipped is read as a call, made, and answered.
use Rattle.std.specs.Prelude.{List, ℕ, Option, Result}
use Rattle.std.specs.Option.{option_and_then}
use Rattle.std.specs.Result.{result_ok}
use Rattle.script.specs.declared.fault.LineFault.{LineFault}
use Rattle.script.specs.declared.line.Line.{Line}
use Rattle.script_calls.specs.Calls.{call_of}
use Rattle.script_calls.specs.declared.script_call.ScriptCall.{ScriptCall}
use Rattle.replay.specs.declared.session.Answered.{Answered}
use Rattle.replay.specs.declared.session.Session.{Session}
use Rattle.replay.specs.Sessions.{next_call, answered_as}

-- the call that was read, where a line is one
abbrev pub asked_by : Result Line LineFault → Option ScriptCall
asked_by line = option_and_then call_of (result_ok line)

unfoldable pub answered_line : Session → Result Line LineFault → List ℕ → List ℕ × Answered
answered_line s line buf =
    answered_as (next_call s.calls) s.are_digests_shown s.counter (asked_by line) buf
