-- Worked examples of lines: what is a call, and what is none by its form.
use Rattle.std.specs.Prelude.{ℕ, true, false, List, [], ◌∷◌, ◌≡◌, Ok, Err}
use Prim.Native.String.{String}
use Rattle.script.specs.declared.fault.LineFault.{LineFault}
use Rattle.script.specs.declared.fault.LineFault.TheVariants.{UnknownVerb, MalformedNumber}
use Rattle.script.specs.declared.number.Number.{Number}
use Rattle.script.specs.declared.verb.ReadVerb.TheVariants as read
use Rattle.script.specs.declared.verb.SessionVerb.TheVariants as session
use Rattle.script.specs.declared.verb.StepVerb.TheVariants.{Read}
use Rattle.script.specs.declared.verb.Verb.TheVariants.{Session, Step}
use Rattle.script.specs.declared.verb.Verb.{Verb}
use Rattle.script.specs.Texts.{bytes}
use Rattle.script.specs.Lines.{fields_of, line_of, is_skipped}

-- a number of a line, and a negative one
abbrev pub plus : ℕ → Number
plus n = record { negative = false; magnitude = n }

abbrev pub minus : ℕ → Number
minus n = record { negative = true; magnitude = n }

-- the text is the call of a verb with these numbers
abbrev pub Calls : String → Verb → List Number → Type 0
Calls t v l = line_of (bytes t) ≡ Ok (record { verb = v; fields = fields_of l })

-- the text is no call, for this fault
abbrev pub IsRefused : String → LineFault → Type 0
IsRefused t f = line_of (bytes t) ≡ Err f

pub record LineExamples : Type 0 where
  pub one_number : Calls "digest 1" (Session session.Digest) (plus 1 ∷ [])
  pub no_number : Calls "router_state" (Session session.RouterState) []
  pub negative : Calls "inverse_point 65536 0 0 65536 -5 -2147483648 7 8" (Step (Read read.InversePoint))
      (plus 65536 ∷ plus 0 ∷ plus 0 ∷ plus 65536 ∷ minus 5 ∷ minus 2147483648 ∷ plus 7 ∷ plus 8 ∷ [])
  pub largest : Calls "router 18446744073709551615" (Session session.Router) (plus 18446744073709551615 ∷ [])
  pub too_large : IsRefused "router 18446744073709551616" MalformedNumber
  pub leading_zero : IsRefused "router 01" MalformedNumber
  pub minus_zero : IsRefused "router -0" MalformedNumber
  pub plus_sign : IsRefused "router +1" MalformedNumber
  pub two_spaces : IsRefused "router  1" MalformedNumber
  pub space_at_end : IsRefused "router 1 " MalformedNumber
  pub space_at_start : IsRefused " router 1" UnknownVerb
  pub upper_case : IsRefused "Router 1" UnknownVerb
  pub carriage_return : IsRefused "router 1\r" MalformedNumber
  pub tab : IsRefused "router\t1" UnknownVerb
  pub part_of_a_name : IsRefused "rout 1" UnknownVerb
  pub longer_than_a_name : IsRefused "routers 1" UnknownVerb
  pub empty : is_skipped (bytes "") ≡ true
  pub comment : is_skipped (bytes "# router 1") ≡ true
  pub call : is_skipped (bytes "router 1") ≡ false
