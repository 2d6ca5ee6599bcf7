-- RULES.md, Hit test: a lent buffer of 64-bit numbers, index then generation; the rest is untouched.
use Rattle.std.specs.Prelude.{ℕ, ◌+◌, Bool, true, false, List, [], ◌∷◌, ◌++◌, length, take, drop}
use Rattle.handles.specs.declared.GenerationalHandle.{GenerationalHandle}

-- a handle is two numbers, index then generation
abbrev pub numbers_of : List GenerationalHandle → List ℕ
numbers_of [] = []
numbers_of (h ∷ l) = h.index ∷ h.generation ∷ numbers_of l

-- the numbers of a panel that is hit, and none of one that is not
abbrev pub numbers_if : Bool → GenerationalHandle → List ℕ
numbers_if true h = numbers_of (h ∷ [])
numbers_if false h = []

-- a list with others written over it from a place on
unfoldable pub over : List ℕ → ℕ → List ℕ → List ℕ
over old at new = take at old ++ (new ++ drop (at + length new) old)

-- a list with others written over its front; the rest is as it was
unfoldable pub written : List ℕ → List ℕ → List ℕ
written old new = new ++ drop (length new) old
