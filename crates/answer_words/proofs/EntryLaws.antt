-- What holds of each entry of a list, and how many numbers the entries take: by induction on the list.
use Prim.Native.Nat.{ℕ, zero, suc, ◌+◌, ◌*◌, ◌≤◌}
use mathlib.Core.Bool.{Bool, true, false, cond}
use mathlib.Core.List.{List, [], ◌∷◌, ◌++◌}
use mathlib.Core.Path.{◌≡◌, ◌∙◌}
use native.Mathlib.Nat.{mul-le-mul_left}
use native.Mathlib.Omega.{arith}
use lib.ListN.{length, take, get_or, set, replicate, length-append}
use Rattle.lists.specs.Below.{iter_below}
use Rattle.lists.specs.Tables.{Shape, entries_of, packed}
use Rattle.lists.proofs.TableLaws.{entries_packed}
use Rattle.answer_numbers.specs.Numbers.{Number, each, list_numbers}
use Rattle.answer_words.specs.Lengths.{All}
use Rattle.std.specs.Prelude.{Result, Ok, Err}
use Rattle.std.specs.Result.{result_and, result_unwrap_or}

module _ {E : Type 0} (P : E → Type 0) where
  pub all_given : ((e : E) → P e) → (l : List E) → All P l
  all_given f [] = tt
  all_given f (e ∷ l) = (f e, all_given f l)

  pub all_get : (l : List E) (i : ℕ) (d : E) → All P l → P d → P (get_or l i d)
  all_get [] i d x y = y
  all_get (e ∷ l) zero d x y = x.0
  all_get (e ∷ l) (suc i) d x y = all_get l i d x.1 y

  pub all_take : (n : ℕ) (l : List E) → All P l → All P (take n l)
  all_take zero l x = tt
  all_take (suc n) [] x = tt
  all_take (suc n) (e ∷ l) x = (x.0, all_take n l x.1)

  pub all_set : (l : List E) (i : ℕ) (e : E) → All P l → P e → All P (set l i e)
  all_set [] i e x y = tt
  all_set (h ∷ l) zero e x y = (y, x.1)
  all_set (h ∷ l) (suc i) e x y = (x.0, all_set l i e x.1 y)

  pub all_same : (n : ℕ) (e : E) → P e → All P (replicate n e)
  all_same zero e y = tt
  all_same (suc n) e y = (y, all_same n e y)

  pub all_more : (Q : E → Type 0) → ((e : E) → P e → Q e) → (l : List E) → All P l → All Q l
  all_more Q f [] x = tt
  all_more Q f (e ∷ l) x = (f e x.0, all_more Q f l x.1)

-- ---- the numbers of entries
module _ {E : Type 0} (f : E → List Number) (c : ℕ) where
  pub each_long : ((e : E) → length (f e) ≡ c) → (l : List E) → length (each f l) ≡ c * length l
  unfolding each
  each_long h [] = omega arith
  each_long h (e ∷ l) = length-append (f e) (each f l) ∙ omega (arith, h e, each_long h l)

  each_few : (l : List E) → All (λ e. length (f e) ≤ c) l → length (each f l) ≤ c * length l
  unfolding each
  each_few [] x = omega arith
  each_few (e ∷ l) x = simp length-append (omega (arith, x.0, each_few l x.1))

  -- a list of at most n entries of at most c numbers each
  pub list_few : (n : ℕ) (l : List E) → length l ≤ n → All (λ e. length (f e) ≤ c) l
      → length (list_numbers f l) ≤ 1 + c * n
  list_few n l h x = omega (arith, each_few l x, mul-le-mul_left c h)

  pub list_fixed : (n : ℕ) (l : List E) → length l ≤ n → ((e : E) → length (f e) ≤ c)
      → length (list_numbers f l) ≤ 1 + c * n
  list_fixed n l h x = list_few n l h (all_given (λ e. length (f e) ≤ c) x l)

-- ---- how many entries
module _ {E T : Type 0} (s : Shape E T) where
  -- a table that holds a list has as many
  pub packed_few : (l : List E) (n : ℕ) → length l ≤ n → length (entries_of s (packed s l)) ≤ n
  packed_few l n h = rw (entries_packed s l) h

-- what an answer has, which is blank where it is refused
pub given_few : {T E : Type 0} (P : T → Type 0) (o : Result (Unit {0}) E) (v blank : T) → P v → P blank → P (result_unwrap_or (result_and o (Ok v)) blank)
given_few P (Ok _) v blank h k = h
given_few P (Err e) v blank h k = k

-- a list that stands if a test holds
pub few_if : {E : Type 0} (b : Bool) (l : List E) (n : ℕ) → length l ≤ n → length (cond b l []) ≤ n
few_if true l n h = h
few_if false l n h = omega arith

-- a list put together from those of the indices below n, each of at most c
pub below_few : {E : Type 0} (f : ℕ → List E) (c : ℕ) → ((i : ℕ) → length (f i) ≤ c)
    → (n : ℕ) → length (iter_below (λ i l. l ++ f i) n []) ≤ c * n
unfolding iter_below
below_few f c h zero = omega arith
below_few f c h (suc n) = simp length-append (omega (arith, h n, below_few f c h n))
