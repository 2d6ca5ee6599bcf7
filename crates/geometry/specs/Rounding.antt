-- A float to the nearest `i32`, as RULES.md, Hit test, rounds a quotient. A float m * 2 ^ e is the fraction m * up e /
-- down e.
use Rattle.std.specs.Prelude.{ℕ, ◌+◌, ◌*◌, ◌/◌, Bool, cond, ℤ, pos, negsuc, neg_ℤ, nat_le, Float, Option, None, Some}
use Rattle.std.specs.Float.{nan, inf, fin}
use Rattle.std.specs.Float.Ieee.{up, down}

-- Hit test, "away from zero": a size with its sign, where true is minus
abbrev pub signed : Bool → ℕ → ℤ
signed minus n = cond minus (neg_ℤ (pos n)) (pos n)

-- Hit test, "halves go away from zero": the size num / den to the nearest whole number, a half upwards
abbrev pub nearest : ℕ → ℕ → ℕ
nearest num den = (num * 2 + den) / (den * 2)

-- Hit test, "outside the i32 range": the range holds ± num / den from -2147483648 to 2147483647
abbrev pub in_i32_range : Bool → ℕ → ℕ → Bool
in_i32_range minus num den = cond minus (nat_le num (2147483648 * den)) (nat_le num (2147483647 * den))

-- Hit test, "tested before rounding; halves go away from zero": what is not finite has no nearest number either
abbrev pub round_i32 : Float → Option ℤ
round_i32 nan = None
round_i32 (inf minus) = None
round_i32 (fin minus m e) =
    cond (in_i32_range minus (m * up e) (down e)) (Some (signed minus (nearest (m * up e) (down e)))) None

-- Hit test, "halves go away from zero": half of a whole number
abbrev pub half_away : ℤ → ℤ
half_away (pos n) = pos ((n + 1) / 2)
half_away (negsuc n) = neg_ℤ (pos ((n + 2) / 2))
