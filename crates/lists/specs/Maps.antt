-- A map as the list of its entries. `key` gives an entry's key; `lt` and `same` are the tests of two keys.
use Rattle.std.specs.Prelude.{Bool, true, not, ◌&&◌, List, [], ◌∷◌, ◌++◌}
use Rattle.std.specs.Prelude.{Option}
use Rattle.lists.specs.Lists.{keep, first}

module _ {E K : Type 0} (key : E → K) (lt : K → K → Bool) where
  -- the entry in its place: after those with lesser keys, instead of the one with its key, before those with greater
  -- keys
  abbrev pub insert : E → List E → List E
  insert e l = keep (λ f. lt (key f) (key e)) l ++ (e ∷ keep (λ f. lt (key e) (key f)) l)

  abbrev pub rising_from : E → List E → Bool
  rising_from e [] = true
  rising_from e (f ∷ l) = lt (key e) (key f) && rising_from f l

  -- RULES.md, Damage: whether map keys strictly rise, each less than the next
  abbrev pub rising : List E → Bool
  rising [] = true
  rising (e ∷ l) = rising_from e l

module _ {E K : Type 0} (key : E → K) (same : K → K → Bool) where
  -- the entry with a key
  abbrev pub lookup : K → List E → Option E
  lookup k l = first (λ e. same k (key e)) l

  -- the map without the entry with a key
  abbrev pub remove : K → List E → List E
  remove k l = keep (λ e. not (same k (key e))) l
