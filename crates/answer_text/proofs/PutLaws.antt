-- Laws of text put into a buffer: with room it stands there, and digits are put from the last to the first.
use Prim.Native.Nat.{ℕ, zero, suc, ◌+◌, ◌-◌, ◌/◌, ◌%◌, ◌≤◌, ◌<◌}
use mathlib.Core.Bool.{true, false}
use mathlib.Core.List.{List, [], ◌∷◌, ◌++◌, append_assoc}
use mathlib.Core.Path.{◌≡◌, refl, sym, ap, ◌∙◌}
use native.Mathlib.Nat.{add-zero, add-suc, le_refl}
use native.Mathlib.Omega.{arith}
use lib.Dec.{leb}
use lib.ListN.{length, take, drop, set, length-set, take-append-drop}
use lib.Seq.{append_snoc, drop-cons, drop-set-lt, get_or-set_same, lt-length-set, take-set-le, take-take}
use Rattle.answer_text.specs.Decimal.{last_digits}
use Rattle.answer_text.specs.Put.{over, put}

module _ (text buf : List ℕ) (at : ℕ) where
  pub put_yes : leb (at + length text) (length buf) ≡ true → put text (buf, at) ≡ (over text buf at, at + length text)
  unfolding put
  put_yes t = rw t

  pub put_no : leb (at + length text) (length buf) ≡ false → put text (buf, at) ≡ (buf, at)
  unfolding put
  put_no t = rw t

-- ---- digits, from the last to the first
drop_set_same : (l : List ℕ) (i a : ℕ) → i < length l → drop i (set l i a) ≡ a ∷ drop (suc i) l
drop_set_same l i a h = drop-cons (set l i a) i 0 (lt-length-set l i a h) ∙ rw (get_or-set_same l i a 0 h, drop-set-lt (suc i) l i a (le_refl (suc i)))

-- j digits of the rest are still to be put before those that stand in the buffer
pub record Spelling (at n k : ℕ) (old buf : List ℕ) (j rest : ℕ) : Type 0 where
  pub long : length buf ≡ length old
  pub few : j ≤ k
  pub front : take (at + j) buf ≡ take (at + j) old
  pub back : last_digits j rest ++ drop (at + j) buf ≡ last_digits k n ++ drop (at + k) old

module _ (at n k : ℕ) (old buf : List ℕ) where
  pub spell_start : Spelling at n k old old k n
  spell_start = record { long = refl; few = le_refl k; front = refl; back = refl }

  turn : (i rest : ℕ) → at + k ≤ length old → Spelling at n k old buf (suc i) rest → Spelling at n k old (set buf (at + i) (48 + rest % 10)) i (rest / 10)
  unfolding last_digits
  turn i rest room s =
      let within : at + i < length buf = omega (arith, s.long, s.few) in
      let less : at + i ≤ at + suc i = omega arith in
      record {
        long = length-set buf (at + i) (48 + rest % 10) ∙ s.long;
        few = omega (arith, s.few);
        front = take-set-le (at + i) buf (at + i) (48 + rest % 10) (le_refl (at + i)) ∙ sym (take-take (at + i) (at + suc i) buf less) ∙ ap (take (at + i)) s.front ∙ take-take (at + i) (at + suc i) old less;
        back =
            ap (λ (l : List ℕ). last_digits i (rest / 10) ++ l) (drop_set_same buf (at + i) (48 + rest % 10) within)
            ∙ sym (append_snoc (last_digits i (rest / 10)) (48 + rest % 10) (drop (suc (at + i)) buf))
            ∙ ap (λ (m : ℕ). last_digits i (rest / 10) ++ ((48 + rest % 10) ∷ []) ++ drop m buf) (sym (add-suc at i))
            ∙ s.back;
      }

  pub spell_turn : (j rest : ℕ) → at + k ≤ length old → 0 < j → Spelling at n k old buf j rest → Spelling at n k old (set buf (at + (j - 1)) (48 + rest % 10)) (j - 1) (rest / 10)
  spell_turn j rest room h s = turn (j - 1) rest room (rw (one_less j h) at s)
    where
      one_less : (j : ℕ) → 0 < j → j ≡ suc (j - 1)
      one_less j h = omega arith

  pub spell_done : (j rest : ℕ) → j ≤ 0 → Spelling at n k old buf j rest → buf ≡ take at old ++ last_digits k n ++ drop (at + k) old
  unfolding last_digits
  spell_done zero rest h s =
      sym (take-append-drop (at + 0) buf)
      ∙ ap (λ (l : List ℕ). l ++ drop (at + 0) buf) s.front
      ∙ ap (λ (l : List ℕ). take (at + 0) old ++ l) s.back
      ∙ sym (append_assoc (take (at + 0) old) (last_digits k n) (drop (at + k) old))
      ∙ ap (λ (m : ℕ). take m old ++ last_digits k n ++ drop (at + k) old) (add-zero at)
  spell_done (suc j) rest h s = absurd (none j h)
    where
      none : (j : ℕ) → suc j ≤ 0 → ⊥
      none j h = omega arith
