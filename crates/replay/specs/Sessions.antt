-- The replay format: one line answered, and the session after it. The call count goes on; every line that is not
-- skipped is a call.
use Rattle.std.specs.Prelude.{ℕ, ◌+◌, Bool, cond, List, ltb, Option, None, Some}
use Rattle.lists.specs.Numbers.{max_u64}
use Rattle.answer_columns.specs.Pieces.{put_all}
use Rattle.answer_line.specs.Line.{answer_taken, plain_pieces, no_call_pieces, state_taken, router_state_taken, end_pieces}
use Rattle.calls.specs.declared.call.Call.{Call}
use Rattle.calls.specs.declared.call.Lists.{Lists}
use Rattle.counter.specs.declared.step.Counter.{Counter}
use Rattle.counter.specs.Step.{stepped}
use Rattle.script_calls.specs.declared.script_call.ScriptCall.{ScriptCall}
use Rattle.script_calls.specs.declared.script_call.ScriptCall.TheVariants.{Session as OfSession, Step}
use Rattle.script_calls.specs.declared.script_call.SessionCall.{SessionCall}
use Rattle.script_calls.specs.declared.script_call.SessionCall.TheVariants.{Digest, New, Router, State, RouterState}
use Rattle.replay.specs.declared.session.Answered.{Answered}
use Rattle.replay.specs.declared.starts.Started.{Started}
use Rattle.replay.specs.Starts.{started_registry, started_router}

-- the count of calls stays at its end
abbrev pub next_call : ℕ → ℕ
next_call n = cond (ltb n max_u64) (n + 1) n

-- the end of the line is put, and the session goes on with the counter
unfoldable pub finished : ℕ → Bool → Counter → List ℕ × ℕ → List ℕ × Answered
finished calls shown c s =
    let t = put_all (end_pieces c shown) s in
    (t.0, record { session = record { calls = calls; are_digests_shown = shown; counter = c }; at = t.1 })

-- a call on the counter goes through `step`
unfoldable pub answered_step : ℕ → Bool → Counter → Call → Lists → List ℕ → List ℕ × Answered
answered_step calls shown c call lists buf =
    let x = stepped c call lists in
    finished calls shown x.counter (answer_taken calls call x.answer x.counter buf)

-- an answer that shows its number alone
unfoldable pub answered_plain : ℕ → Bool → ℕ → Counter → List ℕ → List ℕ × Answered
answered_plain calls shown number c buf =
    finished calls shown c (put_all (plain_pieces calls number c.registry.revision) (buf, 0))

unfoldable pub answered_no_call : ℕ → Bool → Counter → List ℕ → List ℕ × Answered
answered_no_call calls shown c buf = finished calls shown c (put_all (no_call_pieces calls c.registry.revision)
    (buf, 0))

abbrev pub answered_start : ℕ → Bool → Started → List ℕ → List ℕ × Answered
answered_start calls shown x buf = answered_plain calls shown x.number x.counter buf

-- `digest` holds from its own line on; a start replaces its own of the two; `state` and `router_state` show the dumps
unfoldable pub answered_session : ℕ → Bool → Counter → SessionCall → List ℕ → List ℕ × Answered
answered_session calls shown c (Digest on) buf = answered_plain calls on 0 c buf
answered_session calls shown c (New start) buf = answered_start calls shown (started_registry c start) buf
answered_session calls shown c (Router limit) buf = answered_start calls shown (started_router c limit) buf
answered_session calls shown c State buf = finished calls shown c (state_taken calls c.registry buf)
answered_session calls shown c RouterState buf =
    finished calls shown c (router_state_taken calls c.registry.revision c.router buf)

unfoldable pub answered_as : ℕ → Bool → Counter → Option ScriptCall → List ℕ → List ℕ × Answered
answered_as calls shown c None buf = answered_no_call calls shown c buf
answered_as calls shown c (Some (OfSession asked)) buf = answered_session calls shown c asked buf
answered_as calls shown c (Some (Step call lists)) buf = answered_step calls shown c call lists buf
