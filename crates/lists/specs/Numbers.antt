-- Numbers that more than one rule names.
use Rattle.std.specs.Prelude.{ℕ}

-- the largest number of 64 bits: the last revision, and the end of a count that cannot rise
abbrev pub max_u64 : ℕ
max_u64 = 18446744073709551615
