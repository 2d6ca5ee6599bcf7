-- What holds of the entry at each index of a list holds of all its entries.
use Prim.Native.Nat.{ℕ, zero, suc, ◌<◌}
use mathlib.Core.List.{List, [], ◌∷◌}
use native.Mathlib.Omega.{arith}
use lib.ListN.{length, get_or}
use Rattle.answer_words.specs.Lengths.{All}

pub all_by : {E : Type 0} (P : E → Type 0) (l : List E) (d : E) → ((i : ℕ) → i < length l → P (get_or l i d)) → All P l
all_by P [] d f = tt
all_by P (e ∷ l) d f = (f 0 (omega arith), all_by P l d (λ i h. f (suc i) (omega (arith, h))))
