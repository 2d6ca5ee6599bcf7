-- How a number is written: decimal, with no leading zero, and a minus (45) only before a negative number.
use Rattle.std.specs.Prelude.{ℕ, ◌+◌, ◌*◌, ◌-◌, ◌^◌, Bool, true, false, cond, not, ◌&&◌, eqb, ltb, leb, length, get_or, drop, Option, None, Some}
use Rattle.std.specs.Option.{option_and_then}
use mathlib.Core.List.{List, foldl}
use Rattle.script.specs.declared.number.Number.{Number}

-- a digit is one of `0` (48) to `9` (57)
abbrev pub is_digit : ℕ → Bool
is_digit b = leb 48 b && leb b 57

-- the number with one more digit at its end, if it still fits 64 bits
unfoldable pub push_digit : ℕ → ℕ → Option ℕ
push_digit n b =
    cond (is_digit b && ltb (n * 10 + (b - 48)) (2 ^ 64)) (Some (n * 10 + (b - 48))) None

-- the same behind the digits so far, if they are a number
abbrev pub push_behind : Option ℕ → ℕ → Option ℕ
push_behind m b = option_and_then (λ n. push_digit n b) m

-- the number that a row of digits makes
unfoldable pub digits_of : List ℕ → Option ℕ
digits_of w = foldl push_behind (Some 0) w

-- a word has a first digit, and that is 0 only where it stands alone
abbrev pub is_led : List ℕ → Bool
is_led w = cond (eqb (length w) 0) false (cond (eqb (length w) 1) true (not (eqb (get_or w 0 0) 48)))

-- the number that a word without a sign writes
unfoldable pub magnitude_of : List ℕ → Option ℕ
magnitude_of w = cond (is_led w) (digits_of w) None

-- a number as it stands
abbrev pub plain_of : ℕ → Option Number
plain_of n = Some (record { negative = false; magnitude = n })

-- a number after a minus: none where it is 0
abbrev pub negated_of : ℕ → Option Number
negated_of n = cond (eqb n 0) None (Some (record { negative = true; magnitude = n }))

-- the number that a word writes
unfoldable pub number_of : List ℕ → Option Number
number_of w =
    cond (eqb (get_or w 0 0) 45) (option_and_then negated_of (magnitude_of (drop 1 w)))
    (option_and_then plain_of (magnitude_of w))
