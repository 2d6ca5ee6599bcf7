-- A line's fault is the first thing that is wrong with it, by cases of its length, its verb and its numbers.
use Rattle.std.proofs.Common.{◌≡◌, ℕ, cond, not, List, [], nat_lt, nat_le, length, arith, refl, sym, ap, ◌∙◌}
use Rattle.std.proofs.lemmas.Bool.Decides.{nat_tests}
use Rattle.std.specs.Prelude.{Option, None, Some, Result, Ok, Err, is_some, is_ok}
use Rattle.std.specs.Result.{result_err}
use Rattle.script.specs.declared.fault.LineFault.{LineFault}
use Rattle.script.specs.declared.fault.LineFault.TheVariants.{LongLine, UnknownVerb, MalformedNumber}
use Rattle.script.specs.declared.line.Line.{Line}
use Rattle.script.specs.declared.number.Number.{Number}
use Rattle.script.specs.declared.verb.Verb.{Verb}
use Rattle.script.specs.Faults.{fault_of}
use Rattle.script.specs.Lines.{called, gathered, line_of}
use Rattle.script.specs.Verbs.{verb_named}
use Rattle.script.specs.Words.{first_word, later_words}

abbrev refused : Option Verb → Option (List Number) → Option LineFault
refused v o = cond (not (is_some v)) (Some UnknownVerb) (cond (not (is_some o)) (Some MalformedNumber) None)

refused_is : (v : Option Verb) (o : Option (List Number)) → result_err (called v o) ≡ refused v o
refused_is None None = refl
refused_is None (Some l) = refl
refused_is (Some v) None = refl
refused_is (Some v) (Some l) = refl

by_length : (n : ℕ) (r : Result Line LineFault) → result_err (cond (nat_le n 4096) r (Err LongLine)) ≡ cond (nat_lt 4096 n) (Some LongLine) (result_err r)
by_length n r = grind (arith, nat_tests)

pub first : (b : List ℕ) → result_err (line_of b) ≡ fault_of b
unfolding fault_of line_of
first b =
    by_length (length b) (called (verb_named (first_word b)) (gathered [] (later_words b)))
    ∙ ap (λ o. cond (nat_lt 4096 (length b)) (Some LongLine) o) (refused_is (verb_named (first_word b)) (gathered [] (later_words b)))

none_ok : {A E : Type 0} (r : Result A E) → is_some (result_err r) ≡ not (is_ok r)
none_ok (Ok x) = refl
none_ok (Err e) = refl

pub told : (b : List ℕ) → is_some (fault_of b) ≡ not (is_ok (line_of b))
told b = ap is_some (sym (first b)) ∙ none_ok (line_of b)
