-- A text in quotes as bytes.
use Prim.Native.Char.{code}
use Rattle.std.specs.Prelude.{ℕ}
use Prim.Native.String.{String, [], ◌∷◌}
use mathlib.Core.List as lists

-- the bytes of a text, each the code of its character
abbrev pub bytes : String → lists.List ℕ
bytes [] = lists.[]
bytes (c ∷ s) = lists.◌∷◌ (code c) (bytes s)
