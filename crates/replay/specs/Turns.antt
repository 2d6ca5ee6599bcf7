-- One turn of the program over a chunk, and its turns until the chunk is used up.
use Rattle.std.specs.Prelude.{ℕ, zero, suc, Bool, true, false, cond, List, ◌++◌, ◌≡◌, ltb, length, take}
use Rattle.line_input.specs.LineInput.{line_taken, is_complete, next_place}
use Rattle.replay.specs.declared.session.Session.{Session}
use Rattle.replay.specs.Replay.{Replay, line_replayed}

-- between two turns: what the lines so far left, and the buffer of the next line with how many bytes of it are there
pub record Serving : Type 0 where
  pub replay : Replay
  pub line : List ℕ × ℕ

-- the parts of what is served as one
abbrev pub serving_of : Session → List ℕ → ℕ → List ℕ → List ℕ → Serving
serving_of s line len out written =
    record { replay = record { session = s; out = out; written = written }; line = (line, len) }

-- what a program holds between two turns: all but what was written
pub record Held : Type 0 where
  pub session : Session
  pub line : List ℕ
  pub len : ℕ
  pub out : List ℕ

-- the parts of a program between two turns as one
abbrev pub held_of : Session → List ℕ → ℕ → List ℕ → Held
held_of s line len out = record { session = s; line = line; len = len; out = out }

-- what is held where so much is served
abbrev pub held_in : Serving → Held
held_in v = held_of v.replay.session v.line.0 v.line.1 v.replay.out

-- bytes are taken into the line's buffer: a line that is complete is answered, and the next one starts
unfoldable pub after_bytes : Bool → Replay → List ℕ × ℕ → Serving
after_bytes true r t = record { replay = line_replayed r (take t.1 t.0); line = (t.0, 0) }
after_bytes false r t = record { replay = r; line = t }

-- one turn: the bytes of a chunk from a place to the next line feed, or to the chunk's end
unfoldable pub turned : Serving → List ℕ → ℕ → Serving
turned v chunk from = after_bytes (is_complete chunk from) v.replay (line_taken v.line chunk from)

-- at most n turns over a chunk, from a place on, each where the one before it ended
unfoldable pub turns : ℕ → Serving → List ℕ → ℕ → Serving
turns zero v chunk at = v
turns (suc n) v chunk at = cond (ltb at (length chunk)) (turns n (turned v chunk at) chunk (next_place chunk at)) v

-- a chunk is used up: each turn takes a byte at least
unfoldable pub chunk_served : Serving → List ℕ → Serving
chunk_served v chunk = turns (length chunk) v chunk 0

-- the input is at its end: what is there of a line is a line too
unfoldable pub ended : Serving → Replay
ended v = line_replayed v.replay (take v.line.1 v.line.0)

-- one turn, whatever was written before it: what it adds stands at the front of the answers' buffer
abbrev pub IsTurn : (List ℕ → Serving) → (List ℕ → Serving) → List ℕ → List ℕ → ℕ → Type 0
IsTurn before after front chunk from = (w : List ℕ) → after (w ++ front) ≡ turned (before w) chunk from
