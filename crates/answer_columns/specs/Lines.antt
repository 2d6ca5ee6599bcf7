-- A line that is put piece by piece.
use Rattle.std.specs.Prelude.{ℕ, List}
use Rattle.answer_columns.specs.declared.line.Line.{Line}
use Rattle.answer_columns.specs.Pieces.{put_all}

-- what a line holds: its buffer, and the place behind what is put
abbrev pub held : Line → List ℕ × ℕ
held l = (l.out.now, l.at)

-- the same line, with another buffer and place
abbrev pub holding : Line → List ℕ × ℕ → Line
holding l s = record l { out = record l.out { now = s.0 }; at = s.1 }

-- a line, once pieces are put behind what stands in it, the first first
unfoldable pub extended : List (List ℕ) → Line → Line
extended pieces l = holding l (put_all pieces (held l))
