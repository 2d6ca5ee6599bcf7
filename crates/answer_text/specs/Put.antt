-- Text put into a buffer at a place.
use Rattle.std.specs.Prelude.{ℕ, ◌+◌, cond, List, [], ◌∷◌, ◌++◌, leb, ℤ, pos, nat_abs, length, take, drop}
use Rattle.std.specs.Int.Signed.{lt_z}
use Rattle.answer_text.specs.Decimal.{decimal}

-- a text over a part of a buffer, from a place on
abbrev pub over : List ℕ → List ℕ → ℕ → List ℕ
over text buf at = take at buf ++ text ++ drop (at + length text) buf

-- a buffer and a place in it, once a text is put there: with no room for all of it nothing changes
unfoldable pub put : List ℕ → List ℕ × ℕ → List ℕ × ℕ
put text s = cond (leb (s.1 + length text) (length s.0)) (over text s.0 s.1, s.1 + length text) s

-- an integer: `-` (45) before a negative one, and its size
abbrev pub put_integer : ℤ → List ℕ × ℕ → List ℕ × ℕ
put_integer z s = put (decimal (nat_abs z)) (cond (lt_z z (pos 0)) (put (45 ∷ []) s) s)

-- two numbers with a dot (46) between
abbrev pub put_pair : ℕ → ℕ → List ℕ × ℕ → List ℕ × ℕ
put_pair m n s = put (decimal n) (put (46 ∷ []) (put (decimal m) s))
