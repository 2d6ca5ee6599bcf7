-- A row put back is that row, and the others are as they were.
use Prim.Native.Nat.{ℕ, suc, ◌+◌, ◌*◌, ◌-◌, ◌≤◌, ◌<◌}
use mathlib.Core.Path.{◌≡◌, sym, ap, ◌∙◌}
use mathlib.Core.List.{List, [], ◌∷◌, ◌++◌}
use lib.Dec.{ltb}
use borrow.Author.Tests.{ltb-true, ltb-false}
use Rattle.lists.proofs.ListLaws.{by_test}
use Rattle.lists.proofs.TableLaws.{entry}
use native.Mathlib.Nat.{suc-mul, mul-le-mul_right}
use native.Mathlib.Numerals.{add-one}
use native.Mathlib.Omega.{arith}
use lib.ListN.{length, take, drop, get_or, length-take, length-drop}
use lib.Seq.{take-suc, ext_get_or}
use borrow.Rule.Slice.PartMut.{put_mid, same_len_mid}
use Rattle.lists.specs.Tables.{Shape, entries_of, packed}
use Rattle.slices.specs.Parts.{part, table, row_at, table_of}
use Rattle.slices.proofs.PartLaws.{part_size, part_same, part_here, get_before, get_after}
use Rattle.slices.proofs.ValueLaws.{table_length, table_more, table_same, table_get, table_packed}

-- a list is its own values
pub as_table : (ws : List ℕ) (n : ℕ) → length ws ≡ n → ws ≡ table (λ i. get_or ws i 0) n
as_table ws n e = ext_get_or 0 ws (table (λ i. get_or ws i 0) n) (e ∙ sym (table_length (λ i. get_or ws i 0) n)) (λ i l. sym (table_get (λ i. get_or ws i 0) n i 0 (omega arith)))

-- a row before another ends before it
row_ends : (i j size : ℕ) → j < i → j * size + size ≤ i * size
row_ends i j size l =
    let step : suc j * size ≡ j * size + size = suc-mul j size in
    let less : suc j * size ≤ i * size = mul-le-mul_right size l in
    omega arith

module _ (ws b : List ℕ) (at e : ℕ) (up : at ≤ e) (within : e ≤ length ws) (fits : length b ≡ e - at) where
  kept_length : length (put_mid at (e - at) ws b) ≡ length ws
  kept_length = same_len_mid at (e - at) ws b (fits ∙ sym (mid_is))
    where
      mid_is : length (take (e - at) (drop at ws)) ≡ e - at
      mid_is = simp (length-take, length-drop) (omega arith)

  pub part_before : (base size : ℕ) → base + size ≤ at → part (put_mid at (e - at) ws b) base size ≡ part ws base size
  part_before base size l = part_same (put_mid at (e - at) ws b) ws base size kept_length (λ i m. get_before ws b at e up within fits (base + i) (omega arith))

  pub part_after : (base size : ℕ) → e ≤ base → part (put_mid at (e - at) ws b) base size ≡ part ws base size
  part_after base size l = part_same (put_mid at (e - at) ws b) ws base size kept_length (λ i m. get_after ws b at e up within fits (base + i) (omega arith))

  pub put_length : length (put_mid at (e - at) ws b) ≡ length ws
  put_length = kept_length

module _ {A : Type 0} (g : List ℕ → A) (base size : ℕ) (ws b : List ℕ) (i : ℕ) (fits : length b ≡ size) (within : base + i * size + size ≤ length ws) where
  abbrev start : ℕ
  start = base + i * size

  abbrev put : List ℕ
  put = put_mid start (start + size - start) ws b

  sized : length b ≡ start + size - start
  sized = let e : start + size - start ≡ size = omega arith in fits ∙ sym e

  pub row_here : row_at g base size put i ≡ g b
  row_here = ap g (part_here ws b start (start + size) (omega arith) within sized size fits)

  pub row_other : (j : ℕ) → (j ≡ i → ⊥) → row_at g base size put j ≡ row_at g base size ws j
  row_other j n = ap g (by_test (ltb j i)
      (λ t. let l : j < i = ltb-true j i t in part_before ws b start (start + size) (omega arith) within sized (base + j * size) size (omega (arith, row_ends i j size l)))
      (λ t. let l : i < j = let m : i ≤ j = ltb-false j i t in omega arith in part_after ws b start (start + size) (omega arith) within sized (base + j * size) size (omega (arith, row_ends j i size l))))

  pub row_length : length put ≡ length ws
  row_length = put_length ws b start (start + size) (omega arith) within sized

  -- what stands before the rows
  pub row_front : (j : ℕ) → j < base → get_or put j 0 ≡ get_or ws j 0
  row_front j l = get_before ws b start (start + size) (omega arith) within sized j (omega arith)

  -- one turn of a loop that writes rows
  pub rows_more : table (row_at g base size put) (i + 1) ≡ table (row_at g base size ws) i ++ (g b ∷ [])
  rows_more = table_more (row_at g base size put) i ∙ (λ k. table_same (row_at g base size put) (row_at g base size ws) i (λ j l. row_other j (λ e. omega arith)) k ++ (row_here k ∷ []))

-- one turn of a loop that writes the entries of a table as rows
module _ {E T : Type 0} (s : Shape E T) (t : T) (g : List ℕ → E) (base size : ℕ) (ws b : List ℕ) (i : ℕ) (d : E) where
  pub rows_turn : length b ≡ size → base + i * size + size ≤ length ws → g b ≡ get_or (s.all t) i d → i < length (entries_of s t)
      → table (row_at g base size ws) i ≡ take i (entries_of s t)
      → table (row_at g base size (put_mid (base + i * size) (base + i * size + size - (base + i * size)) ws b)) (i + 1) ≡ take (i + 1) (entries_of s t)
  rows_turn fits within x l h =
      rows_more g base size ws b i fits within
      ∙ (λ k. h k ++ ((x ∙ sym (entry s t i d l)) k ∷ []))
      ∙ sym (take-suc (entries_of s t) i d l) ∙ ap (λ (n : ℕ). take n (entries_of s t)) (sym (add-one i))

-- the length of a part that is lent
pub part_length : (ws : List ℕ) (at n : ℕ) → at + n ≤ length ws → length (take (at + n - at) (drop at ws)) ≡ n
part_length ws at n l = simp (length-take, length-drop) (omega arith)

-- a table that was written row by row
module _ {E T : Type 0} (s : Shape E T) (g : ℕ → E) where
  pub table_back : (t : T) (k : ℕ) → t ≡ packed s (entries_of s t) → k ≤ s.size → table g k ≡ entries_of s t → table_of s g k ≡ t
  table_back t k whole l e = table_packed s g k l ∙ ap (packed s) e ∙ sym whole

-- a row that was lent and read
pub row_read : {A : Type 0} (g : List ℕ → A) (ws : List ℕ) (base size i : ℕ) (x : A) → x ≡ g (take (base + i * size + size - (base + i * size)) (drop (base + i * size) ws)) → x ≡ row_at g base size ws i
row_read g ws base size i x h = h ∙ ap (λ (n : ℕ). g (take n (drop (base + i * size) ws))) (part_size (base + i * size) size)
