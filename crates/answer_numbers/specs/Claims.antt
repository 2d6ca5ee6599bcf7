-- What holds of all numbers that are taken, whatever the sink.
use Rattle.std.specs.Prelude.{ℕ, List, ◌++◌, ◌≡◌, length}
use Rattle.answer_text.specs.Digests.{value_of}
use Rattle.answer_numbers.specs.declared.sink.Sink.{Sink}
use Rattle.answer_numbers.specs.declared.sink.SinkKind.TheVariants.{Digest}
use Rattle.answer_numbers.specs.Numbers.{Number, sink_from, numbers_taken, dump_digest}

pub record NumberClaims : Type 0 where
  -- two lists taken one after the other are the two as one
  pub taken_both : (a b : List Number) (s : List ℕ × Sink) → numbers_taken (a ++ b) s
      ≡ numbers_taken b (numbers_taken a s)
  -- the buffer keeps its length
  pub same_length : (l : List Number) (s : List ℕ × Sink) → length (numbers_taken l s).0 ≡ length s.0
  -- a digest leaves the buffer as it is
  pub digest_leaves : (l : List Number) (s : List ℕ × Sink) → s.1.kind ≡ Digest → (numbers_taken l s).0 ≡ s.0
  -- what a digest sink has taken in is the digest of the dump
  pub digest_taken : (l : List Number) (buf : List ℕ) (at : ℕ)
      → value_of (numbers_taken l (buf, sink_from Digest at)).1.digest ≡ dump_digest l
