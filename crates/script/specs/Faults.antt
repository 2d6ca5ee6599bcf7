-- The replay format, Lines: why a line is read as no verb.
use Rattle.std.specs.Prelude.{ℕ, cond, not, List, [], ◌≡◌, ltb, length, Option, None, Some, is_some, is_ok}
use Rattle.std.specs.Result.{result_err}
use Rattle.script.specs.declared.fault.LineFault.{LineFault}
use Rattle.script.specs.declared.fault.LineFault.TheVariants.{LongLine, UnknownVerb, MalformedNumber}
use Rattle.script.specs.Lines.{gathered, line_of}
use Rattle.script.specs.Verbs.{verb_named}
use Rattle.script.specs.Words.{first_word, later_words}

-- the first of these: over 4,096 bytes, an unknown verb, a word that is no number or is one too many
unfoldable pub fault_of : List ℕ → Option LineFault
fault_of b =
    cond (ltb 4096 (length b)) (Some LongLine)
    (cond (not (is_some (verb_named (first_word b)))) (Some UnknownVerb)
    (cond (not (is_some (gathered [] (later_words b)))) (Some MalformedNumber) None))

pub record FaultClaims : Type 0 where
  -- a line has a fault exactly if it is read as no call
  pub told : (b : List ℕ) → is_some (fault_of b) ≡ not (is_ok (line_of b))
  -- and the fault that it is refused for is the first
  pub first : (b : List ℕ) → result_err (line_of b) ≡ fault_of b
