-- A writer: its buffer and its sink after numbers.
use Rattle.std.specs.Prelude.{ℕ, List, ℤ}
use Rattle.answer_text.specs.Decimal.{decimal}
use Rattle.answer_text.specs.Digests.{add_number}
use Rattle.answer_text.specs.Put.{put, put_integer}
use Rattle.answer_numbers.specs.declared.sink.Sink.{Sink}
use Rattle.answer_numbers.specs.declared.sink.SinkKind.{SinkKind}
use Rattle.answer_numbers.specs.declared.writer.Writer.{Writer}
use Rattle.answer_numbers.specs.Numbers.{Number, separated, sink_from, sink_after, text_taken, word_taken, numbers_taken}

-- what a writer holds: its buffer and its sink
abbrev pub held : Writer → List ℕ × Sink
held w = (w.out.now, w.sink)

-- the same writer, with another buffer and sink
abbrev pub holding : Writer → List ℕ × Sink → Writer
holding w s = record w { out = record w.out { now = s.0 }; sink = s.1 }

-- a writer, once a comma is put before a number that is not the first
abbrev pub comma_put : Writer → Writer
comma_put w =
    let t = separated w.sink.is_first (w.out.now, w.sink.at) in
    holding w (t.0, sink_after w.sink t.1 w.sink.digest)

-- a writer, once a number is put as text
abbrev pub plain_put : ℕ → Writer → Writer
plain_put n w = holding w (text_taken (put (decimal n)) (held w))

abbrev pub signed_put : ℤ → Writer → Writer
signed_put z w = holding w (text_taken (put_integer z) (held w))

-- a writer, once a number is taken into its digest
abbrev pub plain_added : ℕ → Writer → Writer
plain_added n w = holding w (w.out.now, sink_after w.sink w.sink.at (add_number w.sink.digest n))

-- a writer, once a word is put
abbrev pub word_put : ℕ → Writer → Writer
word_put n w = holding w (word_taken n (held w))

-- a writer, once numbers are written, the first first
unfoldable pub written : List Number → Writer → Writer
written l w = holding w (numbers_taken l (held w))

-- a buffer, and the place after what stands in it
abbrev pub place_of : List ℕ × Sink → List ℕ × ℕ
place_of s = (s.0, s.1.at)

-- numbers from a place on, into a sink of a kind
abbrev pub placed : SinkKind → List Number → List ℕ × ℕ → List ℕ × ℕ
placed kind l s = place_of (numbers_taken l (s.0, sink_from kind s.1))
