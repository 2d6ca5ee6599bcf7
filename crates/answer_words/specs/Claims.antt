-- What a host reads is what was answered: an answer's words fit its buffer, and the releases are read back from them.
use Rattle.std.specs.Prelude.{ℕ, ◌≤◌, ◌<◌, List, ◌++◌, ◌≡◌, length, get_or}
use Rattle.lists.specs.Tables.{entries_of}
use Rattle.release_lists.specs.Releases.{releases}
use Rattle.input_events.specs.RouterErrors.{router_number_of}
use Rattle.calls.specs.declared.call.Call.{Call}
use Rattle.calls.specs.declared.call.Lists.{Lists}
use Rattle.counter.specs.declared.answer.Answer.{Answer}
use Rattle.counter.specs.declared.step.Counter.{Counter}
use Rattle.counter.specs.Step.{stepped}
use Rattle.answer_columns.specs.Pieces.{text_then}
use Rattle.answer_words.specs.Answers.{answer_words, bytes_of, answer_placed}
use Rattle.answer_words.specs.Bounds.{most_of, Bounded}
use Rattle.answer_words.specs.Lengths.{All, Lengths}
use Rattle.answer_words.specs.Read.{words_read, releases_read}

-- the words of what `step` answers, for the counter after it
abbrev pub step_words : Counter → Call → Lists → List ℕ
step_words k call l = answer_words call (stepped k call l).answer (stepped k call l).counter

-- the bytes of words at the front of a buffer, what stood behind them, and the place behind them
abbrev pub bytes_then : List ℕ → List ℕ → List ℕ × ℕ
bytes_then words buf = text_then (bytes_of words) buf

pub record WordClaims : Type 0 where
  -- the first word is the answer's number
  pub number : (call : Call) (a : Answer) (k : Counter) → get_or (answer_words call a k) 0 0
      ≡ router_number_of a.outcome
  -- words of 64 bits are read back from their bytes
  pub words_back : (l rest : List ℕ) → All (λ n. n < 18446744073709551616) l
      → words_read (length l) (bytes_of l ++ rest) ≡ l
  -- the releases that an answer lists are read back from its words: each, in their order, and no other
  pub releases_back : (call : Call) (a : Answer) (k : Counter)
      → releases_read (answer_words call a k) ≡ entries_of releases a.report.synthesized_releases
  -- each list of an answer of `step` keeps to its call's bound, whatever the counter and the lists handed in
  pub bounded : (k : Counter) → Lengths k → (call : Call) (l : Lists)
      → Bounded (most_of call) call (stepped k call l).answer (stepped k call l).counter
  -- so every answer of `step` has at most 4,608 words
  pub fits : (k : Counter) → Lengths k → (call : Call) (l : Lists) → length (step_words k call l) ≤ 4608
  -- so in a buffer of 36,864 bytes or more it stands whole: all its words, and behind them what stood there
  pub whole : (k : Counter) → Lengths k → (call : Call) (l : Lists) (buf : List ℕ) → 36864 ≤ length buf
      → answer_placed call (stepped k call l).answer (stepped k call l).counter buf
      ≡ bytes_then (step_words k call l) buf
