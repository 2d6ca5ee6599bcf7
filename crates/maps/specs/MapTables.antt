-- A map in a table of any shape: what each call on it answers, over its entries.
use Rattle.std.specs.Prelude.{ℕ, refl, Bool, true, false, cond, ◌||◌, length, ltb, Option, None, Some}
use Rattle.lists.specs.Lists.{keep}
use Rattle.lists.specs.Tables.{Shape, entries_of, packed}
use Rattle.lists.specs.Maps.{insert, rising, lookup, remove}
use Rattle.maps.specs.declared.keys.MapKey.{MapKey}
use Rattle.maps.specs.declared.sorted_map.SortedMap.{SortedMap}
use Rattle.maps.specs.Keys.{key_lt, key_same}

abbrev pub is_some : {E : Type 0} → Option E → Bool
is_some None = false
is_some (Some e) = true

-- the map of n places of an entry type, with its blank entry
abbrev pub map_table : {E : Type 0} (n : ℕ) → E → Shape E (SortedMap E n)
map_table n blank = record {
  size = n;
  blank = blank;
  make = λ l k. record { table = record { items = l; len = k } };
  all = λ t. t.table.items;
  len = λ t. t.table.len;
  all_make = λ l k. refl;
  len_make = λ l k. refl;
}

module _ {E T : Type 0} (s : Shape E T) where
  -- the entries that pass a test, in their order
  abbrev pub retained : (E → Bool) → T → T
  retained p t = packed s (keep p (entries_of s t))

  module _ (key : E → MapKey) where
    -- the entry with a key
    abbrev pub found : MapKey → T → Option E
    found k t = lookup key key_same k (entries_of s t)

    -- the map without the entry with a key
    abbrev pub removed : MapKey → T → T
    removed k t = packed s (remove key key_same k (entries_of s t))

    -- RULES.md, Port limits: an entry is taken exactly if its key is there already or a place is left
    abbrev pub accepts : E → T → Bool
    accepts e t = is_some (found (key e) t) || ltb (length (entries_of s t)) s.size

    -- the map with an entry in its place, instead of the one with its key
    abbrev pub inserted : E → T → T
    inserted e t = packed s (insert key key_lt e (entries_of s t))

    -- the map with the entry where it is accepted, and else none
    abbrev pub insertion : E → T → Option T
    insertion e t = cond (accepts e t) (Some (inserted e t)) None

    -- RULES.md, Damage: whether map keys strictly rise
    abbrev pub keys_rise : T → Bool
    keys_rise t = rising key key_lt (entries_of s t)
