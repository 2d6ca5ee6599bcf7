-- The greatest of a list, under an order by a test.
use Rattle.std.specs.Prelude.{Bool, not, List, Option}
use Rattle.lists.specs.Lists.{first, all}

module _ {E : Type 0} (lt : E → E → Bool) where
  -- no element of the list is greater
  abbrev pub is_unbeaten : List E → E → Bool
  is_unbeaten l e = all (λ f. not (lt e f)) l

  -- the first element that none is greater than
  unfoldable pub greatest : List E → Option E
  greatest l = first (is_unbeaten l) l
