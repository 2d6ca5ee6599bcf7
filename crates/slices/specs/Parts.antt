-- A list of numbers by its parts and rows, a list by its first values, and a table with a stored count.
use Rattle.std.specs.Prelude.{ℕ, zero, suc, ◌+◌, ◌*◌, cond, List, [], ◌∷◌, ◌++◌, take, drop, ltb}
use Rattle.lists.specs.Lists.{pad}
use Rattle.lists.specs.Tables.{Shape}

-- the first n values of g
unfoldable pub table : {A : Type 0} → (ℕ → A) → ℕ → List A
table g zero = []
table g (suc n) = table g n ++ (g n ∷ [])

-- the numbers from a place on, so many
abbrev pub part : List ℕ → ℕ → ℕ → List ℕ
part ws at n = take n (drop at ws)

abbrev pub least : ℕ → ℕ → ℕ
least k n = cond (ltb k n) k n

-- a table with a stored count, of the values of g, and blanks behind them; a count past the table stays as it is
unfoldable pub table_of : {E T : Type 0} → Shape E T → (ℕ → E) → ℕ → T
table_of s g k = s.make (pad s.size s.blank (table g (least k s.size))) k

-- the i-th row of a size from a place on, read by g
abbrev pub row_at : {A : Type 0} → (List ℕ → A) → ℕ → ℕ → List ℕ → ℕ → A
row_at g base size ws i = g (part ws (base + i * size) size)
