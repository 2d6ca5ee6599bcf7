-- A line taken out of a chunk of bytes.
use Rattle.std.specs.Prelude.{ℕ, ◌+◌, ◌-◌, Bool, cond, List, ltb, length, take, drop}
use Rattle.script.specs.Words.{up_to}
use Rattle.answer_text.specs.Put.{put}

-- the bytes of a chunk from an index to the next line feed (10), or to the chunk's end
abbrev pub line_in : List ℕ → ℕ → List ℕ
line_in chunk from = up_to 10 (drop from chunk)

-- the line with as many of them as it has room for
abbrev pub line_taken : List ℕ × ℕ → List ℕ → ℕ → List ℕ × ℕ
line_taken s chunk from = put (take (length s.0 - s.1) (line_in chunk from)) s

-- whether a line feed ends them
abbrev pub is_complete : List ℕ → ℕ → Bool
is_complete chunk from = ltb (from + length (line_in chunk from)) (length chunk)

-- where the chunk goes on: past the line feed
abbrev pub next_place : List ℕ → ℕ → ℕ
next_place chunk from =
    cond (is_complete chunk from) (from + length (line_in chunk from) + 1) (from + length (line_in chunk from))
