-- A field's number by its range: what it is within the range, and none out of it.
use Rattle.std.specs.Prelude.{ℕ, ◌+◌, Bool, cond, not, ◌&&◌, eqb, leb, ℤ, pos, neg_ℤ, Option, None, Some}
use Rattle.std.specs.Option.{option_map}
use Rattle.script.specs.declared.number.Number.{Number}

-- whether a number is from 0 to most
abbrev pub is_within : ℕ → Number → Bool
is_within most n = not n.negative && leb n.magnitude most

-- a number from 0 to most
abbrev pub unsigned_of : ℕ → Number → Option ℕ
unsigned_of most n = cond (is_within most n) (Some n.magnitude) None

-- a flag: 0 or 1
abbrev pub flag_of : Number → Option Bool
flag_of n = option_map (λ m. eqb m 1) (unsigned_of 1 n)

-- the integer that a number is
abbrev pub integer_of : Number → ℤ
integer_of n = cond n.negative (neg_ℤ (pos n.magnitude)) (pos n.magnitude)

-- a number from -most to most
abbrev pub sized_of : ℕ → Number → Option ℤ
sized_of most n = cond (leb n.magnitude most) (Some (integer_of n)) None

-- whether a number is from -most - 1 to most
abbrev pub is_within_signed : ℕ → Number → Bool
is_within_signed most n = cond n.negative (leb n.magnitude (most + 1)) (leb n.magnitude most)

-- a number from -most - 1 to most
abbrev pub signed_of : ℕ → Number → Option ℤ
signed_of most n = cond (is_within_signed most n) (Some (integer_of n)) None
