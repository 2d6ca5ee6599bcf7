-- A list by its first values: its length, its reads, one value more, and a table that holds it.
use Prim.Native.Nat.{ℕ, zero, suc, ◌+◌, ◌-◌, ◌≤◌, ◌<◌}
use mathlib.Core.Path.{◌≡◌, refl, sym, ap, ◌∙◌}
use mathlib.Core.List.{List, [], ◌∷◌, ◌++◌, append-nil}
use native.Mathlib.Numerals.{add-one}
use native.Mathlib.Omega.{arith}
use lib.ListN.{length, take, get_or, set, replicate, length-append}
use lib.Seq.{take_all}
use lib.Dec.{ltb}
use borrow.Author.Tests.{ltb-true, ltb-false}
use Rattle.lists.specs.Lists.{pad}
use Rattle.lists.specs.Tables.{Shape, entries_of, packed}
use Rattle.lists.proofs.ListLaws.{push_pad, take_pad, length_pad, by_test, past_get}
use Rattle.lists.proofs.TableLaws.{entries_packed}
use Rattle.slices.specs.Parts.{table, least, table_of}

pub least_below : (k n : ℕ) → k ≤ n → least k n ≡ k
least_below k n l = by_test (ltb k n) (λ t. rw t) (λ t. rw t (omega (arith, ltb-false, t)))

pub least_le : (k n : ℕ) → least k n ≤ n
least_le k n = by_test (ltb k n) (λ t. rw t (omega (arith, ltb-true k n t))) (λ t. rw t (omega arith))

module _ {A : Type 0} where
  pub table_length : (g : ℕ → A) (n : ℕ) → length (table g n) ≡ n
  unfolding table
  table_length g zero = refl
  table_length g (suc n) = length-append (table g n) (g n ∷ []) ∙ ap (λ (m : ℕ). m + 1) (table_length g n) ∙ add-one n

  pub table_more : (g : ℕ → A) (n : ℕ) → table g (n + 1) ≡ table g n ++ (g n ∷ [])
  unfolding table
  table_more g n = ap (table g) (add-one n)

  pub table_same : (g h : ℕ → A) (n : ℕ) → ((i : ℕ) → i < n → g i ≡ h i) → table g n ≡ table h n
  unfolding table
  table_same g h zero e = refl
  table_same g h (suc n) e = λ j. table_same g h n (λ i l. e i (omega arith)) j ++ (e n (omega arith) j ∷ [])

  -- from the front
  pub table_front : (g : ℕ → A) (n : ℕ) → table g (suc n) ≡ g 0 ∷ table (λ i. g (suc i)) n
  unfolding table
  table_front g zero = refl
  table_front g (suc n) = ap (λ (l : List A). l ++ (g (suc n) ∷ [])) (table_front g n)

  pub table_get : (g : ℕ → A) (n i : ℕ) (d : A) → i < n → get_or (table g n) i d ≡ g i
  table_get g zero i d l = absurd (omega arith)
  table_get g (suc n) zero d l = ap (λ (m : List A). get_or m 0 d) (table_front g n)
  table_get g (suc n) (suc i) d l = ap (λ (m : List A). get_or m (suc i) d) (table_front g n) ∙ table_get (λ j. g (suc j)) n i d (omega arith)

  pub table_past : (g : ℕ → A) (n i : ℕ) (d : A) → n ≤ i → d ≡ get_or (table g n) i d
  table_past g n i d l = past_get (table g n) i n d (table_length g n) l

  -- one turn of a loop that fills an array
  pub filled_more : (g : ℕ → A) (size : ℕ) (z : A) (items : List A) (i : ℕ) (x : A) → i < size → items ≡ pad size z (table g i) → x ≡ g i → set items i x ≡ pad size z (table g (i + 1))
  filled_more g size z items i x l e is =
      (λ j. set (e j) (sym (table_length g i) j) (is j))
      ∙ push_pad size z (table g i) (g i) (rw (table_length g i) l)
      ∙ ap (pad size z) (sym (table_more g i))

  -- the array before the first turn
  pub filled_none : (g : ℕ → A) (size : ℕ) (z : A) → replicate size z ≡ pad size z (table g 0)
  unfolding table
  filled_none g size z = let e : size ≡ size - 0 = omega arith in ap (λ (n : ℕ). replicate n z) e

module _ {E T : Type 0} (s : Shape E T) (g : ℕ → E) where
  -- the table after the last turn
  pub table_made : (k : ℕ) (items : List E) (i : ℕ) → items ≡ pad s.size s.blank (table g i) → i ≡ least k s.size → s.make items k ≡ table_of s g k
  unfolding table_of
  table_made k items i e is = ap (λ (l : List E). s.make l k) (e ∙ ap (λ (n : ℕ). pad s.size s.blank (table g n)) is)

  -- a count within the table
  pub table_packed : (k : ℕ) → k ≤ s.size → table_of s g k ≡ packed s (table g k)
  unfolding table_of packed
  table_packed k l = λ j. s.make (pad s.size s.blank (table g (least_below k s.size l j))) (sym (table_length g k) j)

  -- the entries that it shows
  pub table_entries : (k : ℕ) → k ≤ s.size → entries_of s (table_of s g k) ≡ table g k
  table_entries k l = ap (entries_of s) (table_packed k l) ∙ entries_packed s (table g k)

  -- the same for any count
  pub table_shown : (k : ℕ) → entries_of s (table_of s g k) ≡ table g (least k s.size)
  unfolding entries_of table_of
  table_shown k =
      let l : List E = pad s.size s.blank (table g (least k s.size)) in
      (λ i. take (s.len_make l k i) (s.all_make l k i))
      ∙ by_test (ltb k s.size)
      (λ t. rw t (ap (λ (n : ℕ). take n (pad s.size s.blank (table g k))) (sym (table_length g k)) ∙ take_pad s.size s.blank (table g k)))
      (λ t. rw t (
      let n : length (table g s.size) ≡ s.size = table_length g s.size in
      let z : s.size - length (table g s.size) ≡ 0 = omega arith in
      take_all k _ (let m : length (pad s.size s.blank (table g s.size)) ≡ s.size = length_pad s.size s.blank (table g s.size) (omega arith) in omega (arith, ltb-false k s.size t))
      ∙ ap (λ (c : ℕ). table g s.size ++ replicate c s.blank) z ∙ append-nil (table g s.size)))
