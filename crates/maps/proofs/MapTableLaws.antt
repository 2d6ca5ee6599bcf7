-- The one order of keys is a strict order, so the laws of maps hold at every kind of entry, and what a map accepts fits.
use Prim.Native.Nat.{ℕ, ◌+◌, ◌≤◌}
use mathlib.Core.List.{List, [], ◌∷◌, ◌++◌, append_assoc}
use mathlib.Core.Path.{◌≡◌, refl, ap, ◌∙◌}
use mathlib.Core.Bool.{true, ◌||◌}
use Rattle.std.specs.Prelude.{Option, None, Some}
use native.Mathlib.Omega.{arith}
use borrow.Author.Tests.{ltb-true}
use lib.ListN.{length, length-append}
use lib.Dec.{ltb}
use Rattle.std.specs.List.{fold}
use Rattle.lists.specs.Lists.{keep}
use Rattle.lists.specs.Tables.{Shape, table, entries_of, packed, pushed_within}
use Rattle.lists.specs.declared.table.Table.{Table}
use Rattle.maps.specs.declared.sorted_map.SortedMap.{SortedMap}
use Rattle.lists.specs.Orders.{Ordered}
use Rattle.lists.specs.Maps.{insert}
use Rattle.lists.specs.MapClaims.{MapClaims}
use Rattle.lists.proofs.OrderLaws.{quad, through}
use Rattle.lists.proofs.MapLaws as map
use Rattle.lists.proofs.TableLaws.{few, within_packed, all_within, entries_packed}
use Rattle.maps.specs.declared.keys.MapKey.{MapKey}
use Rattle.maps.specs.Keys.{map_key, parts, key_lt, key_same}
use Rattle.maps.specs.MapTables.{is_some, map_table, found, accepts, inserted}

one_key : (a b : MapKey) → parts a ≡ parts b → a ≡ b
one_key a b e = ap (λ (k : ℕ × (ℕ × (ℕ × ℕ))). map_key k.0 k.1.0 k.1.1.0 k.1.1.1) e

pub keys : Ordered key_lt key_same
keys = through parts one_key quad

-- the laws of maps, at every kind of entry whose key is a `MapKey`
pub claims : {E : Type 0} (key : E → MapKey) → MapClaims key key_lt key_same
claims key = map.claims key keys

module _ {E T : Type 0} (s : Shape E T) (key : E → MapKey) (t : T) where
  -- what is accepted fits
  pub accepted_fits : (e : E) → length (entries_of s t) ≤ s.size → accepts s key e t ≡ true → length (insert key key_lt e (entries_of s t)) ≤ s.size
  accepted_fits e few a = go (found s key (key e) t) refl a
    where
      go : (f : Option E) → found s key (key e) t ≡ f → (is_some f || ltb (length (entries_of s t)) s.size) ≡ true → length (insert key key_lt e (entries_of s t)) ≤ s.size
      go (Some f) q h = omega (arith, map.insert_fits_found key keys e f (entries_of s t) q)
      go None q h = omega (arith, map.insert_fits key keys e (entries_of s t), ltb-true (length (entries_of s t)) s.size h)

abbrev the_map : {E : Type 0} {n : ℕ} → Table E n → SortedMap E n
the_map t = record { table = t }

-- the entries below the key, the entry and those above it, put one after the other
module _ {E : Type 0} (n : ℕ) (blank : E) (key : E → MapKey) (e : E) (m : SortedMap E n) where
  abbrev low : List E
  low = keep (λ f. key_lt (key f) (key e)) (entries_of (map_table n blank) m)

  abbrev high : List E
  high = keep (λ f. key_lt (key e) (key f)) (entries_of (map_table n blank) m)

  pub placed : length m.table.items ≡ n → accepts (map_table n blank) key e m ≡ true → {below above : SortedMap E n} {put all : Table E n}
      → below ≡ packed (map_table n blank) low → put ≡ pushed_within (table n blank) below.table e
      → above ≡ packed (map_table n blank) high → all ≡ fold (pushed_within (table n blank)) put (entries_of (map_table n blank) above)
      → record { table = all } ≡ inserted (map_table n blank) key e m
  unfolding packed
  placed long taken b p a r =
      let fits : length (low ++ (e ∷ high)) ≤ n = accepted_fits (map_table n blank) key m e (few (map_table n blank) m long) taken in
      let room : length low + 1 + length high ≤ n = omega (arith, simp length-append at fits) in
      let start = ap (λ (x : SortedMap E n). x.table) b in
      let mid = p ∙ ap (λ (x : Table E n). pushed_within (table n blank) x e) start ∙ within_packed (table n blank) low e (omega arith) in
      let rest = ap (entries_of (map_table n blank)) a ∙ entries_packed (map_table n blank) high in
      let fold_is = all_within (table n blank) (low ++ (e ∷ [])) high (simp length-append (omega arith)) in
      let whole = ap (packed (table n blank)) (append_assoc low (e ∷ []) high) in
      ap (λ (x : Table E n). the_map x) (r ∙ rw (mid, rest) (fold_is ∙ whole))
