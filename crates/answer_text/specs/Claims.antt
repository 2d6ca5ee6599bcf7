-- What holds of all text that is put: pieces put one after the other are one text, and numbers are told apart by their
-- digits.
use Rattle.std.specs.Prelude.{ℕ, ◌+◌, ◌^◌, ◌≤◌, ◌<◌, List, ◌++◌, ◌≡◌, length}
use Rattle.answer_text.specs.Decimal.{decimal_in, decimal}
use Rattle.answer_text.specs.Put.{put}

pub record TextClaims : Type 0 where
  -- where both have room, two texts put one after the other are the two as one
  pub put_both : (a b buf : List ℕ) (at : ℕ) → at + (length a + length b) ≤ length buf → put b (put a (buf, at))
      ≡ put (a ++ b) (buf, at)
  -- two numbers with the same digits are the same
  pub decimal_same : (m n : ℕ) → decimal m ≡ decimal n → m ≡ n
  -- a number has at most 20 digits
  pub decimal_short : (n : ℕ) → length (decimal n) ≤ 20
  -- below 10^20, and so of 64 bits, these are all digits of the number: as many steps as it may ever need make no other
  pub decimal_all : (n : ℕ) → n < 10 ^ 20 → decimal n ≡ decimal_in n n
