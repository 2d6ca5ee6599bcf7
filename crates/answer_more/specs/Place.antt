-- Numbers, or none, put into a buffer at a place.
use Rattle.std.specs.Prelude.{ℕ, List, [], ◌∷◌, Option, None, Some}
use Rattle.answer_text.specs.Put.{put}
use Rattle.answer_numbers.specs.declared.sink.SinkKind.{SinkKind}
use Rattle.answer_numbers.specs.declared.sink.SinkKind.TheVariants.{Column, Dump, Digest, Words}
use Rattle.answer_numbers.specs.Numbers.{Number}
use Rattle.answer_numbers.specs.Writers.{placed}

-- none is `-` (45) in a text; among words it is nothing, as the call and its number say what follows
abbrev pub none_placed : SinkKind → List ℕ × ℕ → List ℕ × ℕ
none_placed Column s = put (45 ∷ []) s
none_placed Dump s = put (45 ∷ []) s
none_placed Digest s = put (45 ∷ []) s
none_placed Words s = s

-- column 8, or the words behind a host's answer
abbrev pub more_placed : SinkKind → Option (List Number) → List ℕ × ℕ → List ℕ × ℕ
more_placed k None s = none_placed k s
more_placed k (Some l) s = placed k l s
