-- Laws of the table: each step takes the counter that the one before has left, and puts its line behind.
use Prim.Native.Nat.{ℕ, ◌+◌}
use mathlib.Core.List.{List}
use mathlib.Core.Path.{◌≡◌, sym, ap, ◌∙◌}
use Rattle.lists.specs.Below.{iter_below}
use Rattle.lists.proofs.BelowLaws.{iter_none, iter_more}
use Rattle.answer_text.specs.Put.{put}
use Rattle.answer_columns.specs.Lines.{held, holding, extended}
use Rattle.answer_columns.specs.Pieces.{put_all}
use Rattle.answer_columns.specs.declared.line.Line.{Line}
use Rattle.counter.specs.declared.step.Counter.{Counter}
use Rattle.counter.specs.declared.step.Stepped.{Stepped}
use Rattle.counter.specs.Step.{stepped}
use Rattle.calls.specs.declared.call.Call.{Call}
use Rattle.calls.specs.declared.call.Lists.{Lists}
use Rattle.desk.specs.declared.opening.Opened.{Opened}
use Rattle.desk.specs.declared.opening.Places.{Places}
use Rattle.desk.specs.Opening.{no_lists, opened}
use Rattle.desk.specs.Steps.{call_of}
use Rattle.desk.specs.Table.{column_line, line_pieces, line_after, lines_after, table_after}

-- pieces behind a line leave its buffer the same, whatever stands there
pub kept : (pieces : List (List ℕ)) (s : Line) {t u : Line} → t ≡ holding s (held t) → u ≡ extended pieces t → u ≡ holding s (held u)
unfolding extended
kept pieces s {t} before more =
    let state = put_all pieces (held t) in
    more ∙ ap (λ (x : Line). holding x state) before ∙ ap (holding s) (sym (ap held more))

-- and what the line holds is as the pieces say
pub held_more : (pieces : List (List ℕ)) (t : Line) {u : Line} → u ≡ extended pieces t → held u ≡ put_all pieces (held t)
unfolding extended
held_more pieces t more = ap held more

abbrev pub State : Type 0
State = Counter × (List ℕ × ℕ)

module _ (p : Places) where
  -- the lines of the first steps
  abbrev pub lines : ℕ → State → State
  lines n s = iter_below (λ i t. line_after p (i + 1) t) n s

  pub no_line : (s : State) → s ≡ lines 0 s
  no_line s = sym (iter_none (λ i t. line_after p (i + 1) t) s)

  -- a step that is taken is that of the definition
  line : (n : ℕ) (c : Counter) (t : List ℕ × ℕ) (done : Stepped) → done ≡ stepped c (call_of p n) no_lists → ◌≡◌ {A = State} (done.counter, put_all (line_pieces n done) t) (line_after p n (c, t))
  unfolding line_after
  line n c t done is = rw (sym is)

  -- one step more: the counter that it leaves, and its line
  pub next_line : (n : ℕ) (s : State) (c : Counter) (call : Call) (l : Lists) (done : Stepped) {t u : List ℕ × ℕ}
      → ◌≡◌ {A = State} (c, t) (lines n s) → call ≡ call_of p (n + 1) → l ≡ no_lists → done ≡ stepped c call l
      → u ≡ put_all (line_pieces (n + 1) done) t → ◌≡◌ {A = State} (done.counter, u) (lines (n + 1) s)
  next_line n s c call l done {t} before which none taken put_is =
      ap (λ (x : List ℕ × ℕ). (done.counter, x)) put_is
      ∙ line (n + 1) c t done (rw (which, none) at taken)
      ∙ ap (line_after p (n + 1)) before
      ∙ sym (iter_more (λ i t. line_after p (i + 1) t) n s)

pub all_lines : (o : Opened) (s : List ℕ × ℕ) (n : ℕ) {t : State} → n ≡ 8 → t ≡ lines o.places n (o.counter, s) → t.1 ≡ lines_after o s
unfolding lines_after
all_lines o s n end before = ap (λ (x : State). x.1) before ∙ rw end

pub table : (out : List ℕ) (o : Opened) (s : List ℕ × ℕ) {t : List ℕ × ℕ} → o ≡ opened → s ≡ put column_line (out, 0) → t ≡ lines_after o s → t ≡ table_after out
unfolding table_after
table out o s open_is first rest = rest ∙ ap (λ (x : Opened). lines_after x s) open_is ∙ ap (lines_after opened) first
