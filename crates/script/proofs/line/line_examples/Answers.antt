-- `line_examples` meets its contract: each example is computed.
use mathlib.Core.Path.{refl}
use Rattle.script.specs.Lines.{gathered, line_of}
use Rattle.script.specs.Numbers.{push_digit, digits_of, magnitude_of, number_of}
use Rattle.script.specs.Verbs.{verb_named}
use Rattle.script.proofs.line.line_examples.Goals as goal

pub returns : goal.returns
unfolding push_digit digits_of magnitude_of number_of verb_named gathered line_of
returns c =
    record {
      one_number = refl;
      no_number = refl;
      negative = refl;
      largest = refl;
      too_large = refl;
      leading_zero = refl;
      minus_zero = refl;
      plus_sign = refl;
      two_spaces = refl;
      space_at_end = refl;
      space_at_start = refl;
      upper_case = refl;
      carriage_return = refl;
      tab = refl;
      part_of_a_name = refl;
      longer_than_a_name = refl;
      empty = refl;
      comment = refl;
      call = refl;
    }
