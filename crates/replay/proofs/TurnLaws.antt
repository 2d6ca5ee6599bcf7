-- One turn by what the calls in it answer: the line that was taken, whether it is complete, and its answer.
use Prim.Native.Nat.{ℕ}
use mathlib.Core.Bool.{Bool, true, false}
use mathlib.Core.List.{List, ◌++◌, append-nil}
use mathlib.Core.Path.{◌≡◌, ap, ◌∙◌}
use lib.ListN.{take}
use Rattle.script.specs.Lines.{line_of, is_skipped}
use Rattle.line_input.specs.LineInput.{line_taken, is_complete}
use Rattle.replay.specs.declared.session.Answered.{Answered}
use Rattle.replay.specs.declared.session.Session.{Session}
use Rattle.replay.specs.Lines.{answered_line}
use Rattle.replay.specs.Replay.{Replay, line_answered, line_replayed}
use Rattle.replay.specs.Turns.{Serving, serving_of, after_bytes, turned, IsTurn}

module _ (s : Session) (l buf : List ℕ) where
  pub answered_skipped : is_skipped l ≡ true → (buf, record { session = s; at = 0 }) ≡ line_answered s l buf
  unfolding line_answered
  answered_skipped t = rw t

  pub answered_asked : is_skipped l ≡ false → answered_line s (line_of l) buf ≡ line_answered s l buf
  unfolding line_answered
  answered_asked t = rw t

module _ (s : Session) (line : List ℕ) (len : ℕ) (out chunk : List ℕ) (from : ℕ) where
  -- what stood before the turn
  abbrev before : List ℕ → Replay
  before w = record { session = s; out = out; written = w }

  -- what stands after an answer
  abbrev answered_to : List ℕ → List ℕ → List ℕ × Answered → Serving
  answered_to w l x = record { replay = record { session = x.1.session; out = x.0; written = w ++ take x.1.at x.0 }; line = (l, 0) }

  module _ (line' : List ℕ) (len' : ℕ) (taken : ◌≡◌ {A = List ℕ × ℕ} (line', len') (line_taken (line, len) chunk from)) where
    by_taken : (w : List ℕ) (b : Bool) → b ≡ is_complete chunk from → after_bytes b (before w) (line', len') ≡ turned (serving_of s line len out w) chunk from
    unfolding turned
    by_taken w b e =
        ap (λ (c : Bool). after_bytes c (before w) (line', len')) e
        ∙ ap (λ (t : List ℕ × ℕ). after_bytes (is_complete chunk from) (before w) t) taken

    pub turn_answered : (out' : List ℕ) (a : Answered) → true ≡ is_complete chunk from → ◌≡◌ {A = List ℕ × Answered} (out', a) (line_answered s (take len' line') out)
        → IsTurn (serving_of s line len out) (serving_of a.session line' 0 out') (take a.at out') chunk from
    unfolding after_bytes line_replayed
    turn_answered out' a e answered w = ap (answered_to w line') answered ∙ by_taken w true e

    pub turn_on : false ≡ is_complete chunk from → IsTurn (serving_of s line len out) (serving_of s line' len' out) (take 0 out) chunk from
    unfolding after_bytes
    turn_on e w = ap (serving_of s line' len' out) (append-nil w) ∙ by_taken w false e
