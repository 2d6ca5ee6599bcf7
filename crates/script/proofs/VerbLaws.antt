-- What a table has for a name follows from its names' bytes alone.
use Rattle.std.proofs.Common.{◌≡◌, ℕ, List, [], ◌∷◌, map, refl, Bor}
use Rattle.std.specs.List.{find}
use Rattle.std.specs.Option.{option_map}
use Rattle.std.specs.Prelude.{cond, Bool, true, false, Option, None, Some}
use Rattle.script.specs.Words.{same}

module _ {X V : Type 0} (f : X → List ℕ) (w : List ℕ) where
  pub by_bytes : (t : List (X × V)) → option_map (λ e. e.1) (find (λ e. same (f e.0) w) t) ≡ option_map (λ e. e.1) (find (λ e. same e.0 w) (map {B = List ℕ × V} (λ e. (f e.0, e.1)) t))
  by_bytes [] = refl
  by_bytes (e ∷ t) = step (same (f e.0) w) e _ _ (by_bytes t)
    where
      step : (b : Bool) (e : X × V) (o : Option (X × V)) (p : Option (List ℕ × V)) → option_map (λ e. e.1) o ≡ option_map (λ e. e.1) p
          → option_map (λ e. e.1) (cond b (Some e) o) ≡ option_map (λ e. e.1) (cond b (Some (f e.0, e.1)) p)
      step true e o p h = refl
      step false e o p h = h

-- a part of what a reference points to
pub part_of_now : {A B : Type 0} (g : A → B) (o : Option (Bor A)) → option_map (λ r. g r.now) o ≡ option_map g (option_map (λ r. r.now) o)
part_of_now g None = refl
part_of_now g (Some r) = refl
