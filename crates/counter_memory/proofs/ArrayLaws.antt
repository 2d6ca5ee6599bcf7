-- An array whose entries a function made, one at each index, from those of another array: it is the map of that array.
use Rattle.std.proofs.Common.{◌≡◌, refl, sym, subst, ℕ, zero, suc, ◌+◌, ◌<◌, List, [], ◌∷◌, length, map, get_or}
use Rattle.std.specs.Fn.{Called, Mut}
use Rattle.std.specs.Array.{IsFromFnResultFrom}
use native.Mathlib.Omega.{arith}

-- what each call answers, where a call leaves the function as it was
module _ {F B : Type 0} {g : Mut F (ℕ × Unit {0}) B} {f : F} (R : ℕ → B → Type 0)
    (goes : (i : ℕ) (y : B) (q : F) → Called g f (i, tt) y q → (q ≡ f) × R i y) where
  pub each_made : (n i k j : ℕ) (ys : List B) (e : B) → IsFromFnResultFrom g f ys i n → k < n → j ≡ i + k → R j (get_or ys j e)
  each_made zero i k j ys e m below at = absurd (omega (arith, below))
  each_made (suc n) i zero j ys e m below at =
      let here : i ≡ j = omega (arith, at) in
      subst (λ (j : ℕ). R j (get_or ys j e)) here (subst (R i) (sym (m.2.1 e)) (goes i m.1 m.0 m.3).1)
  each_made (suc n) i (suc k) j ys e m below at =
      let rest = subst (λ (q : F). IsFromFnResultFrom g q ys (i + 1) n) (goes i m.1 m.0 m.3).0 m.4 in
      each_made n (i + 1) k j ys e rest (omega (arith, below)) (omega (arith, at))

pub each_map : {A B : Type 0} (f : A → B) (xs : List A) (ys : List B) → length ys ≡ length xs
    → ((i : ℕ) (d : A) (e : B) → i < length xs → get_or ys i e ≡ f (get_or xs i d)) → ys ≡ map f xs
each_map f [] [] long at = refl
each_map f [] (y ∷ ys) long at = absurd (omega (arith, long))
each_map f (x ∷ xs) [] long at = absurd (omega (arith, long))
each_map f (x ∷ xs) (y ∷ ys) long at =
    let tail : ys ≡ map f xs = each_map f xs ys (omega (arith, long)) (λ i d e below. at (suc i) d e (omega (arith, below))) in
    rw (at 0 x y (omega arith), tail)
