-- What is written in decimal is read back as the same number.
use Rattle.std.specs.Prelude.{ℕ, ◌^◌, ◌<◌, Some, true, false, ◌∷◌, ◌≡◌}
use Rattle.script.specs.Numbers.{number_of}
use Rattle.answer_text.specs.Decimal.{decimal}

pub record RoundTripClaims : Type 0 where
  pub read_back : (n : ℕ) → n < 2 ^ 64 → number_of (decimal n)
      ≡ Some (record { negative = false; magnitude = n })
  -- with a minus (45) before it
  pub read_back_negative : (n : ℕ) → 0 < n → n < 2 ^ 64 → number_of (45 ∷ decimal n)
      ≡ Some (record { negative = true; magnitude = n })
