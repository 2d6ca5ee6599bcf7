-- The numbers of the entries of a list, one entry more, and of those that pass a test; and the indices below a number.
use Prim.Native.Nat.{ℕ, zero, suc, ◌+◌, ◌<◌}
use mathlib.Core.Bool.{Bool, cond}
use mathlib.Core.List.{List, [], ◌∷◌, ◌++◌, append_assoc, append-nil}
use mathlib.Core.Path.{◌≡◌, refl, sym, ap, ◌∙◌}
use native.Mathlib.Numerals.{add-one}
use lib.ListN.{length, take, get_or, length-append}
use lib.Seq.{take-suc}
use Rattle.std.specs.List.{filter}
use Rattle.lists.specs.Lists.{keep}
use Rattle.lists.proofs.ListLaws.{by_test}
use Rattle.answer_numbers.specs.Numbers.{Number, each, indices}

module _ {E : Type 0} (f : E → List Number) where
  pub each_append : (a b : List E) → each f (a ++ b) ≡ each f a ++ each f b
  unfolding each
  each_append [] b = refl
  each_append (e ∷ a) b = ap (λ (r : List Number). f e ++ r) (each_append a b) ∙ sym (append_assoc (f e) (each f a) (each f b))

  pub each_more : (l : List E) (i : ℕ) (d : E) → i < length l → each f (take (i + 1) l) ≡ each f (take i l) ++ f (get_or l i d)
  unfolding each
  each_more l i d h = rw (add-one, take-suc l i d h, each_append (take i l) (get_or l i d ∷ []), append-nil)

-- ---- the indices below n
pub indices_long : (n : ℕ) → length (indices n) ≡ n
unfolding indices
indices_long zero = refl
indices_long (suc n) = length-append (indices n) (n ∷ []) ∙ ap (λ (m : ℕ). m + 1) (indices_long n) ∙ add-one n

pub each_index : (f : ℕ → List Number) (n : ℕ) → each f (indices (n + 1)) ≡ each f (indices n) ++ f n
unfolding indices each
each_index f n = rw (add-one, each_append f (indices n) (n ∷ []), append-nil)

-- ---- the entries that pass a test
module _ {E : Type 0} (p : E → Bool) (f : E → List Number) where
  -- the numbers of an entry, if it passes
  abbrev pub if_passes : E → List Number
  if_passes e = cond (p e) (f e) []

  pub each_kept : (l : List E) → each if_passes l ≡ each f (keep p l)
  unfolding each
  each_kept [] = refl
  each_kept (e ∷ l) = by_test (p e) (λ t. rw (t, each_kept l)) (λ t. rw (t, each_kept l))

pub filter_kept : {E : Type 0} (p : E → Bool) (l : List E) → filter p l ≡ keep p l
filter_kept p [] = refl
filter_kept p (e ∷ l) = by_test (p e) (λ t. rw (t, filter_kept p l)) (λ t. rw (t, filter_kept p l))
