-- RULES.md, Desk: the table that is written.
use Rattle.std.specs.Prelude.{ℕ, ◌+◌, List, [], ◌∷◌, ◌++◌}
use Rattle.lists.specs.Below.{iter_below}
use Rattle.answer_text.specs.Put.{put}
use Rattle.answer_columns.specs.Pieces.{put_all}
use Rattle.answer_columns.specs.Columns.{column_pieces}
use Rattle.counter.specs.declared.step.Counter.{Counter}
use Rattle.counter.specs.declared.step.Stepped.{Stepped}
use Rattle.counter.specs.Step.{stepped}
use Rattle.desk.specs.declared.opening.Opened.{Opened}
use Rattle.desk.specs.declared.opening.Places.{Places}
use Rattle.desk.specs.Opening.{no_lists, opened}
use Rattle.desk.specs.Steps.{call_of}

-- "The first line names the columns": step answer revision consumer deliveries releases
abbrev pub column_line : List ℕ
column_line =
    115 ∷ 116 ∷ 101 ∷ 112 ∷ 32
    ∷ 97 ∷ 110 ∷ 115 ∷ 119 ∷ 101 ∷ 114 ∷ 32
    ∷ 114 ∷ 101 ∷ 118 ∷ 105 ∷ 115 ∷ 105 ∷ 111 ∷ 110 ∷ 32
    ∷ 99 ∷ 111 ∷ 110 ∷ 115 ∷ 117 ∷ 109 ∷ 101 ∷ 114 ∷ 32
    ∷ 100 ∷ 101 ∷ 108 ∷ 105 ∷ 118 ∷ 101 ∷ 114 ∷ 105 ∷ 101 ∷ 115 ∷ 32
    ∷ 114 ∷ 101 ∷ 108 ∷ 101 ∷ 97 ∷ 115 ∷ 101 ∷ 115 ∷ 10 ∷ []

-- the columns of a step that is taken, and a line feed (10)
abbrev pub line_pieces : ℕ → Stepped → List (List ℕ)
line_pieces number s = column_pieces number s.counter.registry.revision s.answer ++ ((10 ∷ []) ∷ [])

-- a step: the counter after it, and its line behind the lines before
unfoldable pub line_after : Places → ℕ → Counter × (List ℕ × ℕ) → Counter × (List ℕ × ℕ)
line_after p number s =
    let done = stepped s.0 (call_of p number) no_lists in
    (done.counter, put_all (line_pieces number done) s.1)

-- the eight steps, each on the counter that the one before has left
unfoldable pub lines_after : Opened → List ℕ × ℕ → List ℕ × ℕ
lines_after o s = (iter_below (λ i t. line_after o.places (i + 1) t) 8 (o.counter, s)).1

unfoldable pub table_after : List ℕ → List ℕ × ℕ
table_after out = lines_after opened (put column_line (out, 0))
