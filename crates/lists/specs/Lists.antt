-- Lists by a test, and a list in an array of a fixed length.
use denote.Ref.{Bor}
use Rattle.std.specs.Fn.{Shared, FnReturnsAt}
use Rattle.std.specs.Prelude.{ℕ, ◌-◌, ◌≡◌, Bool, cond, List, ◌++◌, length, replicate, Option, None, Some}
-- the elements that pass a test, in their order; whether each does; and the first that does
pub use Rattle.std.specs.List.{filter as keep, list_all as all, find as first}

module _ {E : Type 0} where
  -- what a search finds, if it passes the test
  abbrev pub passed : (E → Bool) → Option E → Option E
  passed p None = None
  passed p (Some e) = cond (p e) (Some e) None

  -- the list at the front of an array of n, and z in the rest
  abbrev pub pad : ℕ → E → List E → List E
  pad n z l = l ++ replicate (n - length l) z

-- a closure answers as a test does, at a `&` to each value
abbrev pub AnswersAs : {F E : Type 0} → Shared F (Bor E × Unit {0}) Bool → F → (E → Bool) → Type 0
AnswersAs {F} {E} g f test = (x : E) (r : Bool) → FnReturnsAt g f x r → r ≡ test x
