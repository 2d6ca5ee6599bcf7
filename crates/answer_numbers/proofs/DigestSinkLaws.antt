-- A digest sink takes in what a dump would write and leaves the buffer; with that, the claims about all numbers.
use Prim.Native.Nat.{ℕ}
use mathlib.Core.List.{List, [], ◌∷◌, map, foldl}
use mathlib.Core.Path.{◌≡◌, refl, sym, ap, ◌∙◌}
use Rattle.answer_text.specs.Digests.{add_number, value_of, digest_of}
use Rattle.answer_numbers.specs.declared.sink.Sink.{Sink}
use Rattle.answer_numbers.specs.declared.sink.SinkKind.{SinkKind}
use Rattle.answer_numbers.specs.declared.sink.SinkKind.TheVariants as kind
use Rattle.answer_numbers.specs.Numbers.{Number, dumped_number, sink_from, sink_after, taken_as, number_taken, numbers_taken, dump_digest}
use Rattle.answer_numbers.specs.Claims.{NumberClaims}
use Rattle.answer_numbers.proofs.TakeLaws.{taken_both, all_long}

-- one number in a digest sink
abbrev added : Number → List ℕ × Sink → List ℕ × Sink
added n s = (s.0, sink_after s.1 s.1.at (add_number s.1.digest (dumped_number n)))

added_is : (n : Number) (s : List ℕ × Sink) → s.1.kind ≡ kind.Digest → number_taken n s ≡ added n s
unfolding number_taken
added_is n s e = ap (λ (k : SinkKind). taken_as k n s) e

leaves : (l : List Number) (s : List ℕ × Sink) → s.1.kind ≡ kind.Digest → (numbers_taken l s).0 ≡ s.0
unfolding numbers_taken
leaves [] s e = refl
leaves (n ∷ l) s e = ap (λ (t : List ℕ × Sink). (numbers_taken l t).0) (added_is n s e) ∙ leaves l (added n s) e

takes : (l : List Number) (s : List ℕ × Sink) → s.1.kind ≡ kind.Digest → (numbers_taken l s).1.digest ≡ foldl add_number s.1.digest (map dumped_number l)
unfolding numbers_taken
takes [] s e = refl
takes (n ∷ l) s e = ap (λ (t : List ℕ × Sink). (numbers_taken l t).1.digest) (added_is n s e) ∙ takes l (added n s) e

pub digest_taken : (l : List Number) (buf : List ℕ) (at : ℕ) → value_of (numbers_taken l (buf, sink_from kind.Digest at)).1.digest ≡ dump_digest l
unfolding digest_of
digest_taken l buf at = ap value_of (takes l (buf, sink_from kind.Digest at) refl)

pub claims : NumberClaims
claims = record {
  taken_both = λ a b s. sym (taken_both a b s);
  same_length = all_long;
  digest_leaves = leaves;
  digest_taken = digest_taken;
}
