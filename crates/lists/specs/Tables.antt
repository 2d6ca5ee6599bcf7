-- A table: an array of a fixed length, of which the first `len` places hold its entries. One form for every kind of
-- entry.
use Rattle.std.specs.Prelude.{ℕ, ◌+◌, cond, ◌≡◌, refl, List, ltb, length, take, set}
use Rattle.lists.specs.Lists.{pad}
use Rattle.lists.specs.declared.table.Table.{Table}

-- how a struct T is a table of entries E: its number of places, what stands in an unused place, and its two fields
pub record Shape (E T : Type 0) : Type 0 where
  pub size : ℕ
  pub blank : E
  pub make : List E → ℕ → T
  pub all : T → List E
  pub len : T → ℕ
  pub all_make : (l : List E) (n : ℕ) → all (make l n) ≡ l
  pub len_make : (l : List E) (n : ℕ) → len (make l n) ≡ n

module _ {E T : Type 0} (s : Shape E T) where
  -- the entries of a table
  unfoldable pub entries_of : T → List E
  entries_of t = take (s.len t) (s.all t)

  -- the table that holds a list, and blanks after it
  unfoldable pub packed : List E → T
  packed l = s.make (pad s.size s.blank l) (length l)

  -- the table with an entry put at its end
  unfoldable pub pushed : T → E → T
  pushed t e = s.make (set (s.all t) (s.len t) e) (s.len t + 1)

  -- the same where a place is left; a full table stays as it is
  unfoldable pub pushed_within : T → E → T
  pushed_within t e = cond (ltb (s.len t) s.size) (pushed t e) t

-- the table of n places of an entry type, with its blank entry
abbrev pub table : {E : Type 0} (n : ℕ) → E → Shape E (Table E n)
table n blank = record {
  size = n;
  blank = blank;
  make = λ l k. record { items = l; len = k };
  all = λ t. t.items;
  len = λ t. t.len;
  all_make = λ l k. refl;
  len_make = λ l k. refl;
}
