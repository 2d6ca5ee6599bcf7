-- A line's buffer holds the line so far, cut where the buffer ends: what is taken in goes on so, and the line reads the same.
use Prim.Native.Nat.{ℕ, zero, suc, ◌+◌, ◌-◌, ◌≤◌, ◌<◌}
use mathlib.Core.Bool.{Bool, true, false, cond}
use mathlib.Core.List.{List, [], ◌∷◌, ◌++◌}
use mathlib.Core.Path.{◌≡◌, refl, sym, ap, ◌∙◌}
use native.Mathlib.Omega.{arith}
use lib.Dec.{leb, eqb}
use lib.ListN.{length, take, drop, length-append, length-take, length-drop}
use lib.Seq.{take_all, take-append_seam, length-take-le}
use borrow.Author.Tests.{le-leb, lt-leb, leb-true, leb-false, ne_eqb}
use Rattle.lists.proofs.ListLaws.{by_test}
use Rattle.script.specs.Lines.{line_of, is_skipped}
use Rattle.answer_text.specs.Put.{put}
use Rattle.answer_text.proofs.PutLaws.{put_yes}
use Rattle.replay.specs.Replay.{Replay, line_answered, line_replayed}

-- the first bytes of the buffer are the line so far, as much of it as there is room for
pub record Holds (s : List ℕ × ℕ) (p : List ℕ) : Type 0 where
  pub count : s.1 ≡ length (take (length s.0) p)
  pub bytes : take s.1 s.0 ≡ take (length s.0) p

take_nil : (n : ℕ) → take {A = ℕ} n [] ≡ []
take_nil zero = refl
take_nil (suc n) = refl

pub holds_none : (line : List ℕ) → Holds (line, 0) []
holds_none line = record { count = ap length (sym (take_nil (length line))); bytes = sym (take_nil (length line)) }

-- what is cut of two texts as one
cut : (n : ℕ) (p s : List ℕ) → take n p ++ take (n - length (take n p)) s ≡ take n (p ++ s)
cut zero p s = refl
cut (suc n) [] s = ap (λ (k : ℕ). take k s) (less_none n)
  where
    less_none : (n : ℕ) → suc n - 0 ≡ suc n
    less_none n = omega arith
cut (suc n) (x ∷ p) s =
    let less : suc n - suc (length (take n p)) ≡ n - length (take n p) = omega arith in
    rw less (ap (λ (l : List ℕ). x ∷ l) (cut n p s))

module _ (line : List ℕ) (n : ℕ) (p s : List ℕ) (h : Holds (line, n) p) where
  abbrev text : List ℕ
  text = take (length line - n) s

  room : n + length text ≤ length line
  room = omega (arith, h.count, length-take (length line) p, length-take (length line - n) s)

  abbrev front : List ℕ
  front = take n line ++ text

  front_long : length front ≡ n + length text
  front_long = length-append (take n line) text ∙ ap (λ (k : ℕ). k + length text) (length-take-le n line (omega (arith, room)))

  put_is : put text (line, n) ≡ (front ++ drop (n + length text) line, n + length text)
  put_is = put_yes text line n (le-leb (n + length text) (length line) room)

  pub put_long : length (put text (line, n)).0 ≡ length line
  put_long = rw put_is (omega (arith, length-append front (drop (n + length text) line), front_long, length-drop (n + length text) line, room))

  front_is : front ≡ take (length line) (p ++ s)
  front_is =
      ap (λ (l : List ℕ). l ++ text) h.bytes
      ∙ ap (λ (k : ℕ). take (length line) p ++ take (length line - k) s) h.count
      ∙ cut (length line) p s

  put_front : take (put text (line, n)).1 (put text (line, n)).0 ≡ front
  put_front =
      ap (λ (t : List ℕ × ℕ). take t.1 t.0) put_is
      ∙ ap (λ (k : ℕ). take k (front ++ drop (n + length text) line)) (sym front_long)
      ∙ take-append_seam front (drop (n + length text) line)

  pub holds_more : Holds (put text (line, n)) (p ++ s)
  holds_more = record {
    count = ap (λ (t : List ℕ × ℕ). t.1) put_is ∙ sym front_long ∙ ap length (front_is ∙ ap (λ (k : ℕ). take k (p ++ s)) (sym put_long));
    bytes = put_front ∙ front_is ∙ ap (λ (k : ℕ). take k (p ++ s)) (sym put_long);
  }

-- ---- a buffer of more than 4,096 bytes reads as the whole line
cut_skipped : (n : ℕ) (p : List ℕ) → 0 < n → is_skipped (take n p) ≡ is_skipped p
cut_skipped zero p h = absurd (none h)
  where
    none : 0 < 0 → ⊥
    none h = omega arith
cut_skipped (suc n) [] h = refl
cut_skipped (suc n) (x ∷ p) h = ap (λ (b : Bool). cond b true (eqb x 35)) (some (length (take n p)) ∙ sym (some (length p)))
  where
    more : (k : ℕ) → suc k ≡ 0 → ⊥
    more k e = omega arith

    some : (k : ℕ) → eqb (suc k) 0 ≡ false
    some k = ne_eqb (suc k) 0 (more k)

cut_line : (n : ℕ) (p : List ℕ) → 4097 ≤ n → line_of (take n p) ≡ line_of p
unfolding line_of
cut_line n p h =
    by_test (leb (length p) n)
    (λ t. rw (take_all n p (leb-true (length p) n t)))
    (λ t. rw (lt-leb (length (take n p)) 4096 (omega (arith, length-take-le n p (over_n t))), lt-leb (length p) 4096 (omega (arith, leb-false (length p) n t))))
  where
    over_n : leb (length p) n ≡ false → n ≤ length p
    over_n t = omega (arith, leb-false (length p) n t)

pub same_line : (r : Replay) (s : List ℕ × ℕ) (p : List ℕ) → 4097 ≤ length s.0 → Holds s p → line_replayed r (take s.1 s.0) ≡ line_replayed r p
unfolding line_replayed line_answered
same_line r s p long h = rw (h.bytes, cut_skipped (length s.0) p (omega (arith, long)), cut_line (length s.0) p long)
