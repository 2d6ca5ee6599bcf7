-- A table's entries below a new one, the new one and the entries above it, put one after the other, are the insertion.
use Rattle.std.proofs.Common.{◌≡◌, ℕ, ◌+◌, ◌≤◌, Bool, List, [], ◌∷◌, ◌++◌, length, ap, ◌∙◌, arith}
use mathlib.Core.List.{append_assoc}
use lib.ListN.{length-append}
use Rattle.std.specs.List.{fold}
use Rattle.lists.specs.Lists.{keep}
use Rattle.lists.specs.Tables.{Shape, entries_of, packed, pushed_within}
use Rattle.lists.specs.Maps.{insert}
use Rattle.lists.proofs.TableLaws.{within_packed, all_within, entries_packed}

module _ {E K T : Type 0} (s : Shape E T) (key : E → K) (lt : K → K → Bool) (e : E) (l : List E) where
  abbrev low : List E
  low = keep (λ f. lt (key f) (key e)) l

  abbrev high : List E
  high = keep (λ f. lt (key e) (key f)) l

  pub inserted_is : length (insert key lt e l) ≤ s.size → {below above put all : T} → below ≡ packed s low → put ≡ pushed_within s below e
      → above ≡ packed s high → all ≡ fold (pushed_within s) put (entries_of s above) → all ≡ packed s (insert key lt e l)
  inserted_is fits b p a r =
      let room : length low + 1 + length high ≤ s.size = omega (arith, simp length-append at fits) in
      let mid = p ∙ ap (λ (x : T). pushed_within s x e) b ∙ within_packed s low e (omega arith) in
      let rest = ap (entries_of s) a ∙ entries_packed s high in
      let fold_is = all_within s (low ++ (e ∷ [])) high (simp length-append (omega arith)) in
      r ∙ rw (mid, rest) (fold_is ∙ ap (packed s) (append_assoc low (e ∷ []) high))
