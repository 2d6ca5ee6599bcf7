-- The claims of text that is put: two pieces by the laws of a copy, and numbers by reading their digits back.
use Prim.Native.Nat.{ℕ, zero, suc, ◌+◌, ◌*◌, ◌-◌, ◌/◌, ◌≤◌}
use mathlib.Core.List.{List, ◌++◌, append_assoc, foldl, foldl-append}
use mathlib.Core.Path.{◌≡◌, sym, ap, ◌∙◌}
use native.Mathlib.Nat.{le_refl, add_assoc}
use native.Mathlib.Omega.{arith}
use lib.Dec.{ltb}
use lib.ListN.{length, take, drop, length-append}
use lib.Seq.{paste, length-paste, take-paste, drop-paste, take-length, drop-drop}
use borrow.Author.Tests.{le-leb}
use Rattle.lists.proofs.ListLaws.{by_test}
use Rattle.answer_text.specs.Decimal.{decimal_in, decimal}
use Rattle.answer_text.specs.Put.{over, put}
use Rattle.answer_text.specs.Claims.{TextClaims}
use Rattle.answer_text.proofs.DecimalLaws.{decimal_short, decimal_all}
use Rattle.answer_text.proofs.PutLaws.{put_yes}

-- ---- two pieces
module _ (a b buf : List ℕ) (at : ℕ) (room : at + (length a + length b) ≤ length buf) where
  over_paste : over a buf at ≡ paste buf at a (length a)
  over_paste = rw (take-length a)

  same_long : length (over a buf at) ≡ length buf
  same_long = ap length over_paste ∙ length-paste buf at a (length a) (omega arith) (le_refl (length a))

  front : take (at + length a) (over a buf at) ≡ take at buf ++ a
  front = ap (take (at + length a)) over_paste ∙ take-paste buf at a (length a) (omega arith) (le_refl (length a)) ∙ rw (take-length a)

  back : drop (at + length a + length b) (over a buf at) ≡ drop (at + length a + length b) buf
  back =
      sym (drop-drop (length b) (at + length a) (over a buf at))
      ∙ ap (drop (length b)) (ap (drop (at + length a)) over_paste ∙ drop-paste buf at a (length a) (omega arith) (le_refl (length a)))
      ∙ drop-drop (length b) (at + length a) buf

  both_long : length (a ++ b) ≡ length a + length b
  both_long = length-append a b

  both_over : over b (over a buf at) (at + length a) ≡ over (a ++ b) buf at
  both_over =
      ap (λ (l : List ℕ). l ++ b ++ drop (at + length a + length b) (over a buf at)) front
      ∙ ap (λ (l : List ℕ). take at buf ++ a ++ b ++ l) back
      ∙ ap (λ (l : List ℕ). l ++ drop (at + length a + length b) buf) (append_assoc (take at buf) a b)
      ∙ ap (λ (n : ℕ). take at buf ++ (a ++ b) ++ drop n buf) (add_assoc at (length a) (length b) ∙ ap (λ (n : ℕ). at + n) (sym both_long))

  put_both : put b (put a (buf, at)) ≡ put (a ++ b) (buf, at)
  put_both =
      ap (put b) (put_yes a buf at (le-leb (at + length a) (length buf) (omega arith)))
      ∙ put_yes b (over a buf at) (at + length a) (le-leb (at + length a + length b) (length (over a buf at)) (omega (arith, same_long)))
      ∙ ap (λ (l : List ℕ). (l, at + length a + length b)) both_over
      ∙ ap (λ (n : ℕ). (over (a ++ b) buf at, n)) (add_assoc at (length a) (length b) ∙ ap (λ (n : ℕ). at + n) (sym both_long))
      ∙ sym (put_yes (a ++ b) buf at (le-leb (at + length (a ++ b)) (length buf) (omega (arith, both_long))))

-- ---- the number that digits make
value_of : List ℕ → ℕ
value_of l = foldl (λ (n d : ℕ). n * 10 + (d - 48)) 0 l

-- whatever the steps: what is left after them stands as one digit
value_is : (f n : ℕ) → value_of (decimal_in f n) ≡ n
unfolding value_of decimal_in
value_is zero n = omega arith
value_is (suc f) n =
    by_test (ltb n 10)
    (λ t. rw t (omega arith))
    (λ t. rw (t, foldl-append, value_is f (n / 10)) (omega arith))

pub claims : TextClaims
unfolding decimal
claims = record {
  put_both = put_both;
  decimal_same = λ m n e. sym (value_is 19 m) ∙ ap value_of e ∙ value_is 19 n;
  decimal_short = decimal_short;
  decimal_all = decimal_all;
}
