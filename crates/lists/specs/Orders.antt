-- Strict orders by a test: of numbers, and of pairs by the first part and then the second.
use Rattle.std.specs.Prelude.{ℕ, ◌≡◌, Bool, true, false, cond, ◌&&◌, ltb, eqb, ℤ, pos, negsuc}

-- what makes a test of two keys a strict order, with the test that two keys are the same
pub record Ordered {K : Type 0} (lt same : K → K → Bool) : Type 0 where
  pub same_refl : (k : K) → same k k ≡ true
  pub same_eq : (a b : K) → same a b ≡ true → a ≡ b
  pub irrefl : (k : K) → lt k k ≡ false
  pub trans : (a b c : K) → lt a b ≡ true → lt b c ≡ true → lt a c ≡ true
  pub connex : (a b : K) → same a b ≡ false → lt a b ≡ false → lt b a ≡ true

module _ {A B : Type 0} where
  abbrev pub lex_lt : (A → A → Bool) → (A → A → Bool) → (B → B → Bool) → A × B → A × B → Bool
  lex_lt same_a lt_a lt_b x y = cond (same_a x.0 y.0) (lt_b x.1 y.1) (lt_a x.0 y.0)

  -- the same order, by two tests of the first part
  abbrev pub lex_both : (A → A → Bool) → (B → B → Bool) → A × B → A × B → Bool
  lex_both lt_a lt_b x y = cond (lt_a x.0 y.0) true (cond (lt_a y.0 x.0) false (lt_b x.1 y.1))

  abbrev pub both_same : (A → A → Bool) → (B → B → Bool) → A × B → A × B → Bool
  both_same same_a same_b x y = same_a x.0 y.0 && same_b x.1 y.1

-- two whole numbers are the same
abbrev pub same_z : ℤ → ℤ → Bool
same_z (pos a) (pos b) = eqb a b
same_z (pos a) (negsuc b) = false
same_z (negsuc a) (pos b) = false
same_z (negsuc a) (negsuc b) = eqb a b

-- two numbers, three and four, the first part first
abbrev pub pair_lt : ℕ × ℕ → ℕ × ℕ → Bool
pair_lt = lex_lt eqb ltb ltb

abbrev pub pair_same : ℕ × ℕ → ℕ × ℕ → Bool
pair_same = both_same eqb eqb

abbrev pub triple_lt : ℕ × (ℕ × ℕ) → ℕ × (ℕ × ℕ) → Bool
triple_lt = lex_lt eqb ltb pair_lt

abbrev pub triple_same : ℕ × (ℕ × ℕ) → ℕ × (ℕ × ℕ) → Bool
triple_same = both_same eqb pair_same

abbrev pub quad_lt : ℕ × (ℕ × (ℕ × ℕ)) → ℕ × (ℕ × (ℕ × ℕ)) → Bool
quad_lt = lex_lt eqb ltb triple_lt

abbrev pub quad_same : ℕ × (ℕ × (ℕ × ℕ)) → ℕ × (ℕ × (ℕ × ℕ)) → Bool
quad_same = both_same eqb triple_same
