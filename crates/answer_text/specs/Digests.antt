-- The digest of a list of numbers.
use Rattle.std.specs.Prelude.{ℕ, ◌+◌, ◌*◌, ◌/◌, ◌%◌, ◌≡◌}
use mathlib.Core.List.{List, [], ◌∷◌, ◌++◌, foldl}
use Rattle.answer_text.specs.declared.digest.Digest.{Digest}

-- one part taken into a remainder
unfoldable pub mix : ℕ → ℕ → ℕ → ℕ → ℕ
mix factor modulus n part = (n * factor + part + 1) % modulus

-- the first remainder's step, and the second's
abbrev pub mix_a : ℕ → ℕ → ℕ
mix_a = mix 1_000_003 4_294_967_291

abbrev pub mix_b : ℕ → ℕ → ℕ
mix_b = mix 998_244_353 4_294_967_279

-- one part taken into both
abbrev pub add_part : Digest → ℕ → Digest
add_part d part = record { a = mix_a d.a part; b = mix_b d.b part }

-- a number is taken in by its lower half and then its upper
abbrev pub add_number : Digest → ℕ → Digest
add_number d n = add_part (add_part d (n % 4294967296)) (n / 4294967296)

-- the digest of no numbers
abbrev pub start_digest : Digest
start_digest = record { a = 7; b = 11 }

-- the digest as one number: a × 2^32 + b, each reduced first
abbrev pub value_of : Digest → ℕ
value_of d = d.a % 4294967291 * 4294967296 + d.b % 4294967279

-- the digest of a list of numbers
unfoldable pub digest_of : List ℕ → Digest
digest_of l = foldl add_number start_digest l

pub record DigestClaims : Type 0 where
  -- one number more at the end of the list
  pub digest_next : (l : List ℕ) (n : ℕ) → digest_of (l ++ (n ∷ [])) ≡ add_number (digest_of l) n
  -- in a digest both remainders are reduced, so its value is a × 2^32 + b
  pub value_plain : (l : List ℕ) → value_of (digest_of l) ≡ (digest_of l).a * 4294967296 + (digest_of l).b
  -- the worked examples of the format
  pub of_none : value_of (digest_of []) ≡ 30064771083
  pub of_zero : value_of (digest_of (0 ∷ [])) ≡ 15209694793061548300
  pub of_one : value_of (digest_of (1 ∷ [])) ≡ 15213989774240694541
  pub of_largest : value_of (digest_of (18446744073709551615 ∷ [])) ≡ 15226874729757065584
  pub of_three : value_of (digest_of (1 ∷ 2 ∷ 3 ∷ [])) ≡ 3439785248268844631
