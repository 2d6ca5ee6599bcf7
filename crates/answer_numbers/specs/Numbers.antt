-- Numbers taken into a sink: as a column of an answer line, as a dump that is written out, as the digest of a dump, or
-- as words for a host.
use Rattle.std.specs.Prelude.{ℕ, zero, suc, ◌+◌, ◌-◌, ◌/◌, ◌%◌, Bool, true, false, cond, List, [], ◌∷◌, ◌++◌, map, ℤ, pos, negsuc, length}
use Rattle.answer_text.specs.Decimal.{decimal}
use Rattle.answer_text.specs.Digests.{add_number, start_digest, value_of, digest_of}
use Rattle.answer_text.specs.Put.{put, put_integer}
use Rattle.answer_text.specs.declared.digest.Digest.{Digest}
use Rattle.answer_numbers.specs.declared.sink.Sink.{Sink}
use Rattle.answer_numbers.specs.declared.sink.SinkKind.{SinkKind}
use Rattle.answer_numbers.specs.declared.sink.SinkKind.TheVariants as kind

-- a number of an answer, without or with a sign
pub data Number : Type 0 where
  plain : ℕ → Number
  signed : ℤ → Number

-- a flag is 0 or 1
abbrev pub flag : Bool → Number
flag f = plain (cond f 1 0)

-- an i32 moved up by 2^31, so that none is negative
abbrev pub raised : ℤ → ℕ
raised (pos n) = n + 2147483648
raised (negsuc n) = 2147483648 - suc n

-- a number as a dump has it
abbrev pub dumped_number : Number → ℕ
dumped_number (plain n) = n
dumped_number (signed z) = raised z

-- a number as a column has it: a negative one with its sign
abbrev pub put_number : Number → List ℕ × ℕ → List ℕ × ℕ
put_number (plain n) s = put (decimal n) s
put_number (signed z) s = put_integer z s

-- a comma (44) before each number but the first
abbrev pub separated : Bool → List ℕ × ℕ → List ℕ × ℕ
separated true s = s
separated false s = put (44 ∷ []) s

-- a number's bytes, the low byte first
unfoldable pub low_bytes : ℕ → ℕ → List ℕ
low_bytes zero n = []
low_bytes (suc k) n = (n % 256) ∷ low_bytes k (n / 256)

-- a word: eight bytes
abbrev pub word : ℕ → List ℕ
word n = low_bytes 8 n

-- the sink whose text, if it has any, starts at a place
abbrev pub sink_from : SinkKind → ℕ → Sink
sink_from k at = record { kind = k; at = at; is_first = true; digest = start_digest }

-- a sink once a number is taken: the place after it, and the digest
abbrev pub sink_after : Sink → ℕ → Digest → Sink
sink_after sink at d = record { kind = sink.kind; at = at; is_first = false; digest = d }

-- a buffer and a sink, once a text is put after the numbers so far
abbrev pub text_taken : (List ℕ × ℕ → List ℕ × ℕ) → List ℕ × Sink → List ℕ × Sink
text_taken text s =
    let t = text (separated s.1.is_first (s.0, s.1.at)) in
    (t.0, sink_after s.1 t.1 s.1.digest)

-- a buffer and a sink, once a word is put after the numbers so far
abbrev pub word_taken : ℕ → List ℕ × Sink → List ℕ × Sink
word_taken n s =
    let t = put (word n) (s.0, s.1.at) in
    (t.0, sink_after s.1 t.1 s.1.digest)

-- a column and a dump write the number; a digest takes in what a dump would write, and leaves the buffer; words are a
-- dump's numbers, each as eight bytes
abbrev pub taken_as : SinkKind → Number → List ℕ × Sink → List ℕ × Sink
taken_as kind.Column n s = text_taken (put_number n) s
taken_as kind.Dump n s = text_taken (put (decimal (dumped_number n))) s
taken_as kind.Digest n s = (s.0, sink_after s.1 s.1.at (add_number s.1.digest (dumped_number n)))
taken_as kind.Words n s = word_taken (dumped_number n) s

-- a buffer and a sink, once a number is taken
unfoldable pub number_taken : Number → List ℕ × Sink → List ℕ × Sink
number_taken n s = taken_as s.1.kind n s

-- a buffer and a sink, once numbers are taken, the first first
unfoldable pub numbers_taken : List Number → List ℕ × Sink → List ℕ × Sink
numbers_taken [] s = s
numbers_taken (n ∷ l) s = numbers_taken l (number_taken n s)

-- the digest of a dump
abbrev pub dump_digest : List Number → ℕ
dump_digest l = value_of (digest_of (map dumped_number l))

-- the numbers of entries, one entry after the other
unfoldable pub each : {E : Type 0} → (E → List Number) → List E → List Number
each f [] = []
each f (e ∷ l) = f e ++ each f l

-- a list: how many entries, and the numbers of each
abbrev pub list_numbers : {E : Type 0} → (E → List Number) → List E → List Number
list_numbers f l = plain (length l) ∷ each f l

-- the indices below n, rising
unfoldable pub indices : ℕ → List ℕ
indices zero = []
indices (suc n) = indices n ++ (n ∷ [])
