-- The numbers of a line are read word by word: those read stand at the front of the fields, and the words to come answer as all of them.
use Rattle.std.proofs.Common.{◌≡◌, ℕ, ◌+◌, ◌≤◌, ◌<◌, List, [], ◌∷◌, ◌++◌, length, take, refl, sym, ap, ◌∙◌, set, replicate, length-set, arith, add-one}
use Rattle.std.specs.Prelude.{Option, None, Some, Err}
use Rattle.std.specs.Option.{option_and_then}
use Rattle.lists.proofs.ListLaws.{push_pad}
use Rattle.lists.specs.Lists.{pad}
use Rattle.lists.specs.Tables.{table, pushed, pushed_within}
use borrow.Author.Tests.{le-leb, lt-leb, le-ltb, lt-ltb}
use lib.Seq.{length-take-le, take-suc-set}
use Rattle.script.specs.Lines.{Fields, zero_number, fields_of, with_number, called, gathered, line_of}
use Rattle.script.specs.Numbers.{number_of}
use Rattle.script.specs.Verbs.{verb_named}
use Rattle.script.specs.Words.{first_word, later_words}
use Rattle.script.specs.declared.fault.LineFault.TheVariants.{LongLine}
use Rattle.script.specs.declared.number.Number.{Number}
use Rattle.script.specs.declared.verb.Verb.{Verb}

-- what holds after each word: the numbers so far, and those in the words to come
pub record Gathering (ws left : List (List ℕ)) (numbers : List Number) (count : ℕ) : Type 0 where
  pub long : length numbers ≡ 256
  pub few : count ≤ 256
  pub padded : numbers ≡ pad 256 zero_number (take count numbers)
  pub answers : gathered [] ws ≡ gathered (take count numbers) left

pub start : (ws : List (List ℕ)) → Gathering ws ws (replicate 256 zero_number) 0
start ws = record { long = refl; few = omega arith; padded = refl; answers = refl }

-- a number put into a table that has room
pub added : (t : Fields) (n : Number) → t.len < 256 → pushed_within (table 256 zero_number) t n ≡ record { items = set t.items t.len n; len = t.len + 1 }
unfolding pushed_within pushed
added t n h = rw (lt-ltb t.len 256 h)

fields_are : (l ns : List Number) (n : ℕ) → ns ≡ pad 256 zero_number l → length l ≡ n → fields_of l ≡ record { items = ns; len = n }
fields_are l ns n p q = rw (p, sym q)

module _ (ws : List (List ℕ)) (numbers : List Number) (count : ℕ) where
  length_read : (left : List (List ℕ)) → Gathering ws left numbers count → length (take count numbers) ≡ count
  length_read left g = length-take-le count numbers (omega (arith, g.long, g.few))

  pub done : (left : List (List ℕ)) → left ≡ [] → Gathering ws left numbers count → gathered [] ws ≡ Some (take count numbers)
  unfolding gathered
  done left e g = g.answers ∙ rw e

  pub fields_read : (left : List (List ℕ)) → Gathering ws left numbers count → fields_of (take count numbers) ≡ record { items = numbers; len = count }
  fields_read left g = fields_are _ numbers count g.padded (length_read left g)

  -- one word more
  module _ (left ahead : List (List ℕ)) (w : List ℕ) (g : Gathering ws left numbers count) (e : left ≡ w ∷ ahead) where
    next : gathered [] ws ≡ option_and_then (λ m. gathered m ahead) (with_number (take count numbers) (number_of w))
    unfolding gathered
    next = g.answers ∙ rw e

    pub no_number : number_of w ≡ None → gathered [] ws ≡ None
    no_number t = next ∙ rw t

    module _ (n : Number) (t : number_of w ≡ Some n) where
      pub too_many : 256 ≤ count → gathered [] ws ≡ None
      too_many h = next ∙ rw (t, length_read left g, le-ltb count 256 h)

      pub turn : count < 256 → Gathering ws ahead (set numbers count n) (count + 1)
      turn h =
          let front : take (count + 1) (set numbers count n) ≡ take count numbers ++ (n ∷ []) = rw add-one (take-suc-set numbers count n (omega (arith, g.long))) in
          record {
            long = length-set numbers count n ∙ g.long;
            few = omega arith;
            padded = ap (λ (ns : List Number). set ns count n) g.padded ∙ ap (λ (k : ℕ). set (pad 256 zero_number (take count numbers)) k n) (sym (length_read left g)) ∙ push_pad 256 zero_number (take count numbers) n (omega (arith, length_read left g)) ∙ ap (pad 256 zero_number) (sym front);
            answers = next ∙ rw (t, length_read left g, lt-ltb count 256 h) (ap (λ (l : List Number). gathered l ahead) (sym front));
          }

-- a line by its length, its verb and its numbers
pub too_long : (b : List ℕ) → 4096 < length b → line_of b ≡ Err LongLine
unfolding line_of
too_long b h = rw (lt-leb _ _ h)

pub called_is : (b : List ℕ) (v : Option Verb) (o : Option (List Number)) → length b ≤ 4096 → verb_named (first_word b) ≡ v → gathered [] (later_words b) ≡ o → line_of b ≡ called v o
unfolding line_of
called_is b v o h p q = rw (le-leb _ _ h, p, q)
