-- What holds of each number of a range holds of all below its end.
use Rattle.std.proofs.Common.{◌≡◌, ℕ, zero, suc, ◌+◌, Bool, true, false, refl, sym, ap, ◌∙◌, add-zero, zero-add, arith}
use Rattle.std.specs.Prelude.{◌&&◌}
use Rattle.std.specs.List.{list_all, range_with_len}
use Rattle.lists.specs.Below.{all_below}

and_assoc : (a b c : Bool) → (a && (b && c)) ≡ ((a && b) && c)
and_assoc true b c = refl
and_assoc false b c = refl

and_true : (a : Bool) → (a && true) ≡ (true && a)
and_true true = refl
and_true false = refl

-- one number more at the end
all_last : (p : ℕ → Bool) (n a : ℕ) → list_all p (range_with_len a (suc n)) ≡ (list_all p (range_with_len a n) && p (a + n))
all_last p zero a = and_true (p a) ∙ ap (λ k. p k) (sym (add-zero a))
all_last p (suc n) a =
    let e : a + 1 + n ≡ a + suc n = omega arith in
    ap (λ b. p a && b) (all_last p n (a + 1)) ∙ and_assoc (p a) (list_all p (range_with_len (a + 1) n)) (p (a + 1 + n)) ∙ ap (λ k. (p a && list_all p (range_with_len (a + 1) n)) && p k) e

pub all_in_range : (p : ℕ → Bool) (n : ℕ) → list_all p (range_with_len 0 n) ≡ all_below p n
unfolding all_below
all_in_range p zero = refl
all_in_range p (suc n) = all_last p n 0 ∙ ap (λ k. list_all p (range_with_len 0 n) && p k) (zero-add n) ∙ ap (λ b. b && p n) (all_in_range p n)
