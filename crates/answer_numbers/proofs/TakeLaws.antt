-- Laws of numbers taken into a sink: one list after the other, and the length of the buffer.
use Prim.Native.Nat.{ℕ, ◌+◌}
use mathlib.Core.Bool.{Bool, true, false, cond}
use mathlib.Core.List.{List, [], ◌∷◌, ◌++◌}
use mathlib.Core.Path.{◌≡◌, refl, ◌∙◌}
use native.Mathlib.Omega.{arith}
use lib.Dec.{leb}
use lib.IntN.{pos, nat_abs}
use lib.ListN.{length, length-append, length-take, length-drop}
use lib.Signed.{lt_z}
use borrow.Author.Tests.{leb-true}
use Rattle.lists.proofs.ListLaws.{by_test}
use Rattle.answer_text.specs.Decimal.{decimal}
use Rattle.answer_text.specs.Put.{put}
use Rattle.answer_numbers.specs.declared.sink.Sink.{Sink}
use Rattle.answer_numbers.specs.declared.sink.SinkKind.{SinkKind}
use Rattle.answer_numbers.specs.declared.sink.SinkKind.TheVariants as kind
use Rattle.answer_numbers.specs.Numbers.{Number, plain, signed, dumped_number, put_number, separated, word, taken_as, number_taken, numbers_taken}

-- two lists one after the other are the two as one
pub taken_both : (a b : List Number) (s : List ℕ × Sink) → numbers_taken b (numbers_taken a s) ≡ numbers_taken (a ++ b) s
unfolding numbers_taken
taken_both [] b s = refl
taken_both (n ∷ a) b s = taken_both a b (number_taken n s)

-- ---- the buffer keeps its length
put_long : (text : List ℕ) (s : List ℕ × ℕ) → length (put text s).0 ≡ length s.0
unfolding put
put_long text s =
    by_test (leb (s.1 + length text) (length s.0))
    (λ t. rw t (simp (length-append, length-take, length-drop) (omega (arith, leb-true (s.1 + length text) (length s.0) t))))
    (λ t. rw t)

separated_long : (f : Bool) (s : List ℕ × ℕ) → length (separated f s).0 ≡ length s.0
separated_long true s = refl
separated_long false s = put_long (44 ∷ []) s

number_long : (n : Number) (s : List ℕ × ℕ) → length (put_number n s).0 ≡ length s.0
number_long (plain n) s = put_long (decimal n) s
number_long (signed z) s =
    put_long (decimal (nat_abs z)) (cond (lt_z z (pos 0)) (put (45 ∷ []) s) s)
    ∙ by_test (lt_z z (pos 0)) (λ t. rw t (put_long (45 ∷ []) s)) (λ t. rw t)

taken_long : (k : SinkKind) (n : Number) (s : List ℕ × Sink) → length (taken_as k n s).0 ≡ length s.0
taken_long kind.Column n s = number_long n (separated s.1.is_first (s.0, s.1.at)) ∙ separated_long s.1.is_first (s.0, s.1.at)
taken_long kind.Dump n s = put_long (decimal (dumped_number n)) (separated s.1.is_first (s.0, s.1.at)) ∙ separated_long s.1.is_first (s.0, s.1.at)
taken_long kind.Digest n s = refl
taken_long kind.Words n s = put_long (word (dumped_number n)) (s.0, s.1.at)

pub all_long : (l : List Number) (s : List ℕ × Sink) → length (numbers_taken l s).0 ≡ length s.0
unfolding numbers_taken number_taken
all_long [] s = refl
all_long (n ∷ l) s = all_long l (number_taken n s) ∙ taken_long s.1.kind n s
