-- What a line of a script says: a verb, then at most 256 numbers, each after one space; at most 4,096 bytes.
use Rattle.std.specs.Prelude.{ℕ, Bool, true, false, cond, List, [], ◌∷◌, ◌++◌, eqb, ltb, leb, length, get_or, Option, None, Some, Result, Ok, Err}
use Rattle.std.specs.Option.{option_and_then}
use Rattle.lists.specs.Lists.{pad}
use Rattle.lists.specs.declared.table.Table.{Table}
use Rattle.script.specs.declared.fault.LineFault.{LineFault}
use Rattle.script.specs.declared.fault.LineFault.TheVariants.{LongLine, UnknownVerb, MalformedNumber}
use Rattle.script.specs.declared.number.Number.{Number}
use Rattle.script.specs.declared.line.Line.{Line}
use Rattle.script.specs.declared.verb.Verb.{Verb}
use Rattle.script.specs.Words.{first_word, later_words}
use Rattle.script.specs.Numbers.{number_of}
use Rattle.script.specs.Verbs.{verb_named}

-- what stands in an unused place
abbrev pub zero_number : Number
zero_number = record { negative = false; magnitude = 0 }

-- the numbers of a line
abbrev pub Fields : Type 0
Fields = Table Number 256

-- a list of numbers as the fields of a line
abbrev pub fields_of : List Number → Fields
fields_of l = record { items = pad 256 zero_number l; len = length l }

-- one number more, if there is a place for it
abbrev pub with_number : List Number → Option Number → Option (List Number)
with_number l None = None
with_number l (Some n) = cond (ltb (length l) 256) (Some (l ++ (n ∷ []))) None

-- the numbers that were read and those in the words to come: none where a word is no number, or is one too many
unfoldable pub gathered : List Number → List (List ℕ) → Option (List Number)
gathered l [] = Some l
gathered l (w ∷ ws) = option_and_then (λ m. gathered m ws) (with_number l (number_of w))

-- the call of a verb with its numbers
abbrev pub called : Option Verb → Option (List Number) → Result Line LineFault
called None o = Err UnknownVerb
called (Some v) None = Err MalformedNumber
called (Some v) (Some l) = Ok (record { verb = v; fields = fields_of l })

-- the call that a line writes: its first word names the verb, and the others are the numbers
unfoldable pub line_of : List ℕ → Result Line LineFault
line_of b =
    cond (leb (length b) 4096) (called (verb_named (first_word b)) (gathered [] (later_words b))) (Err LongLine)

-- an empty line and a comment, which starts with `#` (35), are passed over
abbrev pub is_skipped : List ℕ → Bool
is_skipped b = cond (eqb (length b) 0) true (eqb (get_or b 0 0) 35)
