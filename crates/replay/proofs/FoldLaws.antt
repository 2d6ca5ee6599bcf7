-- The turns over chunks are a fold over the bytes, and that is the fold over the lines: nothing depends on where a chunk ends.
use Prim.Native.Nat.{ℕ, zero, suc, ◌+◌, ◌≤◌, ◌<◌}
use mathlib.Core.Bool.{true, false, cond}
use mathlib.Core.List.{List, [], ◌∷◌, ◌++◌, foldl, foldl-append, append_assoc, append-nil}
use mathlib.Core.Path.{◌≡◌, refl, sym, ap, ◌∙◌}
use native.Mathlib.Omega.{arith}
use lib.Dec.{eqb, ltb}
use lib.ListN.{length, drop, length-drop, drop_of_length-le}
use lib.Seq.{drop-drop}
use borrow.Author.Tests.{eqb-true, ltb-true, ltb-false}
use Rattle.lists.proofs.ListLaws.{by_test}
use Rattle.script.specs.Words.{up_to}
use Rattle.line_input.specs.LineInput.{line_in, line_taken, is_complete, next_place}
use Rattle.line_input.proofs.InputLaws.{advances}
use Rattle.replay.specs.Replay.{Replay, line_replayed, lines_from, replayed}
use Rattle.replay.specs.Turns.{Serving, serving_of, after_bytes, turned, turns, chunk_served, ended}
use Rattle.replay.specs.Claims.{together, ReplayClaims}
use Rattle.replay.proofs.LineLaws.{Holds, holds_none, holds_more, put_long, same_line}

-- one byte more: a line feed ends the line so far, and any other byte goes to it
unfoldable pub byte_taken : Replay × List ℕ → ℕ → Replay × List ℕ
byte_taken s b = cond (eqb b 10) (line_replayed s.0 s.1, []) (s.0, s.1 ++ (b ∷ []))

module _ (r : Replay) (p l : List ℕ) (b : ℕ) where
  byte_feed : eqb b 10 ≡ true → byte_taken (r, p) b ≡ (line_replayed r p, [])
  unfolding byte_taken
  byte_feed t = rw t

  byte_other : eqb b 10 ≡ false → byte_taken (r, p) b ≡ (r, p ++ (b ∷ []))
  unfolding byte_taken
  byte_other t = rw t

  lines_feed : eqb b 10 ≡ true → lines_from p (b ∷ l) ≡ p ∷ lines_from [] l
  unfolding lines_from
  lines_feed t = rw t

  lines_other : eqb b 10 ≡ false → lines_from p (b ∷ l) ≡ lines_from (p ++ (b ∷ [])) l
  unfolding lines_from
  lines_other t = rw t

up_feed : (l : List ℕ) (b : ℕ) → eqb b 10 ≡ true → up_to 10 (b ∷ l) ≡ []
up_feed l b t = rw t

up_other : (l : List ℕ) (b : ℕ) → eqb b 10 ≡ false → up_to 10 (b ∷ l) ≡ b ∷ up_to 10 l
up_other l b t = rw t

-- ---- the fold over the bytes is the fold over the lines
-- the line so far is ended, as at the end of the input
abbrev last_ended : Replay × List ℕ → Replay
last_ended s = line_replayed s.0 s.1

lines_are : (r : Replay) (p input : List ℕ) → last_ended (foldl byte_taken (r, p) input) ≡ foldl line_replayed r (lines_from p input)
unfolding lines_from
lines_are r p [] = refl
lines_are r p (b ∷ l) =
    by_test (eqb b 10)
    (λ t.
    ap (λ (q : Replay × List ℕ). last_ended (foldl byte_taken q l)) (byte_feed r p l b t)
    ∙ lines_are (line_replayed r p) [] l
    ∙ ap (foldl line_replayed r) (sym (lines_feed r p l b t)))
    (λ t.
    ap (λ (q : Replay × List ℕ). last_ended (foldl byte_taken q l)) (byte_other r p l b t)
    ∙ lines_are r (p ++ (b ∷ [])) l
    ∙ ap (foldl line_replayed r) (sym (lines_other r p l b t)))

-- ---- a chunk up to its next line feed
up_to_taken : (r : Replay) (p l : List ℕ) → foldl byte_taken (r, p) (up_to 10 l) ≡ (r, p ++ up_to 10 l)
up_to_taken r p [] = ap (λ (q : List ℕ). (r, q)) (sym (append-nil p))
up_to_taken r p (b ∷ l) =
    by_test (eqb b 10)
    (λ t.
    ap (foldl byte_taken (r, p)) (up_feed l b t)
    ∙ ap (λ (q : List ℕ). (r, q)) (sym (append-nil p) ∙ ap (λ (k : List ℕ). p ++ k) (sym (up_feed l b t))))
    (λ t.
    ap (foldl byte_taken (r, p)) (up_other l b t)
    ∙ ap (λ (q : Replay × List ℕ). foldl byte_taken q (up_to 10 l)) (byte_other r p l b t)
    ∙ up_to_taken r (p ++ (b ∷ [])) l
    ∙ ap (λ (q : List ℕ). (r, q)) (append_assoc p (b ∷ []) (up_to 10 l) ∙ ap (λ (k : List ℕ). p ++ k) (sym (up_other l b t))))

up_to_split : (l : List ℕ) → length (up_to 10 l) < length l → l ≡ up_to 10 l ++ (10 ∷ drop (suc (length (up_to 10 l))) l)
up_to_split [] h = absurd (none h)
  where
    none : 0 < 0 → ⊥
    none h = omega arith
up_to_split (b ∷ l) h =
    by_test (eqb b 10)
    (λ t. rw t (ap (λ (x : ℕ). x ∷ l) (eqb-true b 10 t)))
    (λ t. rw t (ap (λ (k : List ℕ). b ∷ k) (up_to_split l (less (length (up_to 10 l)) (length l) (ap_less t h)))))
  where
    less : (m n : ℕ) → suc m < suc n → m < n
    less m n h = omega arith

    ap_less : eqb b 10 ≡ false → length (up_to 10 (b ∷ l)) < suc (length l) → suc (length (up_to 10 l)) < suc (length l)
    ap_less t h = omega (arith, ap length (up_other l b t))

up_to_all : (l : List ℕ) → length l ≤ length (up_to 10 l) → up_to 10 l ≡ l
up_to_all [] h = refl
up_to_all (b ∷ l) h =
    by_test (eqb b 10)
    (λ t. absurd (none (length l) (rw t at h)))
    (λ t. rw t (ap (λ (k : List ℕ). b ∷ k) (up_to_all l (less (length l) (length (up_to 10 l)) (rw t at h)))))
  where
    none : (n : ℕ) → suc n ≤ 0 → ⊥
    none n h = omega arith

    less : (m n : ℕ) → suc m ≤ suc n → m ≤ n
    less m n h = omega arith

-- the line so far stands in the buffer, and the bytes to come lead to the goal
pub record Stands (v : Serving) (todo : List ℕ) (goal : Replay × List ℕ) : Type 0 where
  pub pending : List ℕ
  pub long : 4097 ≤ length v.line.0
  pub held : Holds v.line pending
  pub rest : foldl byte_taken (v.replay, pending) todo ≡ goal

module _ (v : Serving) (chunk : List ℕ) (from : ℕ) (goal : Replay × List ℕ) (h : from < length chunk) (s : Stands v (drop from chunk) goal) where
  abbrev part : List ℕ
  part = line_in chunk from

  taken_long : 4097 ≤ length (line_taken v.line chunk from).0
  taken_long = omega (arith, put_long v.line.0 v.line.1 s.pending part s.held, s.long)

  taken_held : Holds (line_taken v.line chunk from) (s.pending ++ part)
  taken_held = holds_more v.line.0 v.line.1 s.pending part s.held

  next_is : (k : ℕ) → drop (suc k) (drop from chunk) ≡ drop (from + k + 1) chunk
  next_is k = drop-drop (suc k) from chunk ∙ ap (λ (n : ℕ). drop n chunk) (one_more k)
    where
      one_more : (k : ℕ) → from + suc k ≡ from + k + 1
      one_more k = omega arith

  line_ends : is_complete chunk from ≡ true → foldl byte_taken (line_replayed v.replay (s.pending ++ part), []) (drop (from + length part + 1) chunk) ≡ goal
  line_ends t =
      let within : length part < length (drop from chunk) = omega (arith, length-drop from chunk, ltb-true (from + length part) (length chunk) t) in
      ap (λ (l : List ℕ). foldl byte_taken (line_replayed v.replay (s.pending ++ part), []) l) (sym (next_is (length part)))
      ∙ ap (λ (q : Replay × List ℕ). foldl byte_taken q (drop (suc (length part)) (drop from chunk))) (sym (byte_feed v.replay (s.pending ++ part) [] 10 refl))
      ∙ ap (λ (q : Replay × List ℕ). foldl byte_taken q (10 ∷ drop (suc (length part)) (drop from chunk))) (sym (up_to_taken v.replay s.pending (drop from chunk)))
      ∙ sym (foldl-append byte_taken (v.replay, s.pending) part (10 ∷ drop (suc (length part)) (drop from chunk)))
      ∙ ap (foldl byte_taken (v.replay, s.pending)) (sym (up_to_split (drop from chunk) within))
      ∙ s.rest

  chunk_ends : is_complete chunk from ≡ false → foldl byte_taken (v.replay, s.pending ++ part) (drop (from + length part) chunk) ≡ goal
  chunk_ends t =
      let past : length chunk ≤ from + length part = ltb-false (from + length part) (length chunk) t in
      ap (foldl byte_taken (v.replay, s.pending ++ part)) (drop_of_length-le chunk past)
      ∙ sym (up_to_taken v.replay s.pending (drop from chunk))
      ∙ ap (foldl byte_taken (v.replay, s.pending)) (up_to_all (drop from chunk) (omega (arith, length-drop from chunk)))
      ∙ s.rest

  pub turn_stands : Stands (turned v chunk from) (drop (next_place chunk from) chunk) goal
  unfolding turned after_bytes
  turn_stands =
      by_test (is_complete chunk from)
      (λ t. rw t (record {
        pending = [];
        long = taken_long;
        held = holds_none (line_taken v.line chunk from).0;
        rest = ap (λ (r : Replay). foldl byte_taken (r, []) (drop (from + length part + 1) chunk)) (same_line v.replay (line_taken v.line chunk from) (s.pending ++ part) taken_long taken_held) ∙ line_ends t;
      }))
      (λ t. rw t (record {
        pending = s.pending ++ part;
        long = taken_long;
        held = taken_held;
        rest = chunk_ends t;
      }))

-- ---- turns until the chunk is used up
module _ (n : ℕ) (v : Serving) (chunk : List ℕ) (at : ℕ) where
  pub turns_more : ltb at (length chunk) ≡ true → turns (suc n) v chunk at ≡ turns n (turned v chunk at) chunk (next_place chunk at)
  unfolding turns
  turns_more t = rw t

  pub turns_done : ltb at (length chunk) ≡ false → turns (suc n) v chunk at ≡ v
  unfolding turns
  turns_done t = rw t

  pub fewer : ltb at (length chunk) ≡ true → length chunk ≤ at + suc n → length chunk ≤ next_place chunk at + n
  fewer t few = omega (arith, advances chunk at (ltb-true at (length chunk) t))

nothing_left : (v : Serving) (chunk : List ℕ) (at : ℕ) (goal : Replay × List ℕ) → length chunk ≤ at → Stands v (drop at chunk) goal → Stands v [] goal
nothing_left v chunk at goal past s = rw (drop_of_length-le chunk past) at s

turns_stand : (n : ℕ) (v : Serving) (chunk : List ℕ) (at : ℕ) (goal : Replay × List ℕ) → length chunk ≤ at + n → Stands v (drop at chunk) goal → Stands (turns n v chunk at) [] goal
unfolding turns
turns_stand zero v chunk at goal few s = none v chunk at goal few s
  where
    none : (v : Serving) (chunk : List ℕ) (at : ℕ) (goal : Replay × List ℕ) → length chunk ≤ at + 0 → Stands v (drop at chunk) goal → Stands (turns 0 v chunk at) [] goal
    none v chunk at goal few s = nothing_left v chunk at goal (omega arith) s
turns_stand (suc n) v chunk at goal few s = more n v chunk at goal few s (turns_stand n (turned v chunk at) chunk (next_place chunk at) goal)
  where
    more : (n : ℕ) (v : Serving) (chunk : List ℕ) (at : ℕ) (goal : Replay × List ℕ) → length chunk ≤ at + suc n → Stands v (drop at chunk) goal
        → (length chunk ≤ next_place chunk at + n → Stands (turned v chunk at) (drop (next_place chunk at) chunk) goal → Stands (turns n (turned v chunk at) chunk (next_place chunk at)) [] goal)
        → Stands (turns (suc n) v chunk at) [] goal
    more n v chunk at goal few s ih =
        by_test (ltb at (length chunk))
        (λ t. rw (turns_more n v chunk at t) (ih (fewer n v chunk at t few) (turn_stands v chunk at goal (ltb-true at (length chunk) t) s)))
        (λ t. rw (turns_done n v chunk at t) (nothing_left v chunk at goal (ltb-false at (length chunk) t) s))

pub chunk_stands : (v : Serving) (chunk : List ℕ) (goal : Replay × List ℕ) → Stands v chunk goal → Stands (chunk_served v chunk) [] goal
unfolding chunk_served
chunk_stands v chunk goal s = turns_stand (length chunk) v chunk 0 goal (omega arith) s

-- the bytes to come after a chunk
pub then_stands : (v : Serving) (a b : List ℕ) (goal : Replay × List ℕ) (s : Stands v (a ++ b) goal) → Stands v a (foldl byte_taken (v.replay, s.pending) a)
then_stands v a b goal s = record { pending = s.pending; long = s.long; held = s.held; rest = refl }

chunks_stand : (chunks : List (List ℕ)) (v : Serving) (goal : Replay × List ℕ) → Stands v (together chunks) goal → Stands (foldl chunk_served v chunks) [] goal
chunks_stand [] v goal s = s
chunks_stand (c ∷ l) v goal s =
    let t = chunk_stands v c (foldl byte_taken (v.replay, s.pending) c) (then_stands v c (together l) goal s) in
    chunks_stand l (chunk_served v c) goal (record {
      pending = t.pending;
      long = t.long;
      held = t.held;
      rest = ap (λ (q : Replay × List ℕ). foldl byte_taken q (together l)) t.rest ∙ sym (foldl-append byte_taken (v.replay, s.pending) c (together l)) ∙ s.rest;
    })

-- ---- the end of the input
end_is : (v : Serving) (goal : Replay × List ℕ) → Stands v [] goal → ended v ≡ line_replayed goal.0 goal.1
unfolding ended
end_is v goal s = same_line v.replay v.line s.pending s.long s.held ∙ ap last_ended s.rest

pub claims : ReplayClaims
unfolding replayed
claims = record {
  every_cutting = λ s line out written chunks long.
      let r : Replay = record { session = s; out = out; written = written } in
      end_is _ (foldl byte_taken (r, []) (together chunks))
      (chunks_stand chunks (serving_of s line 0 out written) (foldl byte_taken (r, []) (together chunks)) (record { pending = []; long = long; held = holds_none line; rest = refl }))
      ∙ lines_are r [] (together chunks);
}
