-- Laws of the digest: a reduced state mixes as the state itself, and both remainders of a digest are reduced.
use Prim.Native.Nat.{ℕ, ◌+◌, ◌*◌, ◌/◌, ◌%◌, ◌<◌}
use mathlib.Core.List.{List, [], ◌∷◌, foldl, foldl-append}
use mathlib.Core.Path.{◌≡◌, refl, sym, ap, ◌∙◌}
use native.Mathlib.Nat.{div-add-mod', add-mul, mul_right_comm, add_assoc, mul-add-mod_self_right, mod-lt, mod-eq_of_lt}
use lib.Dec.{lit<}
use Rattle.answer_text.specs.declared.digest.Digest.{Digest}
use Rattle.answer_text.specs.Digests.{mix, add_number, start_digest, value_of, digest_of, DigestClaims}

reduced : (s f p m : ℕ) → (s % m * f + p) % m ≡ (s * f + p) % m
reduced s f p m =
    sym
    (ap (λ (k : ℕ). (k * f + p) % m) (sym (div-add-mod' s m))
    ∙ ap (λ (k : ℕ). (k + p) % m) (add-mul (s / m * m) (s % m) f)
    ∙ ap (λ (k : ℕ). (k + s % m * f + p) % m) (mul_right_comm (s / m) m f)
    ∙ ap (λ (k : ℕ). k % m) (add_assoc (s / m * f * m) (s % m * f) p)
    ∙ mul-add-mod_self_right (s / m * f) m (s % m * f + p))

-- a state, and the state reduced first
pub mix_reduced : (s f p m : ℕ) → (s % m * f + p + 1) % m ≡ (s * f + p + 1) % m
mix_reduced s f p m =
    ap (λ (k : ℕ). k % m) (add_assoc (s % m * f) p 1)
    ∙ reduced s f (p + 1) m
    ∙ ap (λ (k : ℕ). k % m) (sym (add_assoc (s * f) p 1))

-- ---- what `add` makes is reduced
Reduced : Digest → Type 0
Reduced d = (d.a < 4294967291) × (d.b < 4294967279)

add_reduced : (d : Digest) (n : ℕ) → Reduced (add_number d n)
unfolding mix Reduced
add_reduced d n = (mod-lt _ (lit< tt), mod-lt _ (lit< tt))

fold_reduced : (l : List ℕ) (d : Digest) → Reduced d → Reduced (foldl add_number d l)
fold_reduced [] d h = h
fold_reduced (n ∷ l) d h = fold_reduced l (add_number d n) (add_reduced d n)

value_of_reduced : (d : Digest) → Reduced d → value_of d ≡ d.a * 4294967296 + d.b
unfolding Reduced
value_of_reduced d h = rw (mod-eq_of_lt h.0, mod-eq_of_lt h.1)

pub claims : DigestClaims
unfolding digest_of mix Reduced
claims = record {
  digest_next = λ l n. foldl-append add_number start_digest l (n ∷ []);
  value_plain = λ l. value_of_reduced (digest_of l) (fold_reduced l start_digest (lit< tt, lit< tt));
  of_none = refl;
  of_zero = refl;
  of_one = refl;
  of_largest = refl;
  of_three = refl;
}
