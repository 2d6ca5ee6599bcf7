-- The replay format, Lines: what a whole input is answered with, as a fold over its lines.
use Rattle.std.specs.Prelude.{ℕ, false, cond, eqb, take}
use mathlib.Core.List.{List, [], ◌∷◌, ◌++◌, foldl}
use Rattle.script.specs.Lines.{line_of, is_skipped}
use Rattle.replay.specs.declared.session.Answered.{Answered}
use Rattle.replay.specs.declared.session.Session.{Session}
use Rattle.replay.specs.Lines.{answered_line}
use Rattle.replay.specs.Starts.{first_counter}

-- nothing is answered yet, and no digests are shown
unfoldable pub first_session : Session
first_session = record { calls = 0; are_digests_shown = false; counter = first_counter }

-- the bytes of a line as they are answered: an empty line and a comment alter nothing and have no answer
unfoldable pub line_answered : Session → List ℕ → List ℕ → List ℕ × Answered
line_answered s l buf = cond (is_skipped l) (buf, record { session = s; at = 0 }) (answered_line s (line_of l) buf)

-- what an input leaves: the session, the buffer that answers are put into, and all bytes that were answered
pub record Replay : Type 0 where
  pub session : Session
  pub out : List ℕ
  pub written : List ℕ

-- one line more: its answer is the front part of the buffer
unfoldable pub line_replayed : Replay → List ℕ → Replay
line_replayed r l =
    let a = line_answered r.session l r.out in
    record { session = a.1.session; out = a.0; written = r.written ++ take a.1.at a.0 }

-- the lines of bytes behind the start of a line: each line feed (10) ends one, and what stands behind the last is one
-- too
unfoldable pub lines_from : List ℕ → List ℕ → List (List ℕ)
lines_from p [] = p ∷ []
lines_from p (b ∷ l) = cond (eqb b 10) (p ∷ lines_from [] l) (lines_from (p ++ (b ∷ [])) l)

-- the lines of an input
abbrev pub lines_of : List ℕ → List (List ℕ)
lines_of input = lines_from [] input

-- a whole input: its lines in order, each once
unfoldable pub replayed : Replay → List ℕ → Replay
replayed r input = foldl line_replayed r (lines_of input)
