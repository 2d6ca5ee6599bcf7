-- A loop over a chunk: after each turn the turns that are left lead where those of the whole chunk lead.
use Prim.Native.Nat.{ℕ, zero, suc, ◌+◌, ◌≤◌, ◌<◌}
use mathlib.Core.List.{List, [], ◌++◌}
use mathlib.Core.Path.{◌≡◌, refl, sym, ap, ◌∙◌}
use native.Mathlib.Omega.{arith}
use lib.Dec.{ltb}
use lib.ListN.{length}
use borrow.Author.Tests.{lt-ltb, le-ltb}
use Rattle.lists.proofs.ListLaws.{by_test}
use Rattle.line_input.specs.LineInput.{next_place}
use Rattle.replay.specs.declared.session.Session.{Session}
use Rattle.replay.specs.Turns.{Serving, serving_of, held_of, held_in, turned, turns, chunk_served, IsTurn}
use Rattle.replay.proofs.FoldLaws.{turns_more, turns_done, fewer}

-- where the chunk is used up, no turn is left
no_turn : (n : ℕ) (v : Serving) (chunk : List ℕ) (at : ℕ) → length chunk ≤ at → turns n v chunk at ≡ v
unfolding turns
no_turn zero v chunk at h = refl
no_turn (suc n) v chunk at h = turns_done n v chunk at (le-ltb at (length chunk) h)

-- more turns than the chunk has bytes left make no difference
enough : (n m : ℕ) (v : Serving) (chunk : List ℕ) (at : ℕ) → length chunk ≤ at + n → length chunk ≤ at + m → turns n v chunk at ≡ turns m v chunk at
enough zero m v chunk at f g = none m v chunk at f
  where
    none : (m : ℕ) (v : Serving) (chunk : List ℕ) (at : ℕ) → length chunk ≤ at + 0 → turns 0 v chunk at ≡ turns m v chunk at
    none m v chunk at f = no_turn 0 v chunk at (omega arith) ∙ sym (no_turn m v chunk at (omega arith))
enough (suc n) zero v chunk at f g = none n v chunk at g
  where
    none : (n : ℕ) (v : Serving) (chunk : List ℕ) (at : ℕ) → length chunk ≤ at + 0 → turns (suc n) v chunk at ≡ turns 0 v chunk at
    none n v chunk at g = no_turn (suc n) v chunk at (omega arith) ∙ sym (no_turn 0 v chunk at (omega arith))
enough (suc n) (suc m) v chunk at f g = both n m v chunk at f g (enough n m (turned v chunk at) chunk (next_place chunk at))
  where
    both : (n m : ℕ) (v : Serving) (chunk : List ℕ) (at : ℕ) → length chunk ≤ at + suc n → length chunk ≤ at + suc m
        → (length chunk ≤ next_place chunk at + n → length chunk ≤ next_place chunk at + m
        → turns n (turned v chunk at) chunk (next_place chunk at) ≡ turns m (turned v chunk at) chunk (next_place chunk at))
        → turns (suc n) v chunk at ≡ turns (suc m) v chunk at
    both n m v chunk at f g ih =
        by_test (ltb at (length chunk))
        (λ t. turns_more n v chunk at t ∙ ih (fewer n v chunk at t f) (fewer m v chunk at t g) ∙ sym (turns_more m v chunk at t))
        (λ t. turns_done n v chunk at t ∙ sym (turns_done m v chunk at t))

-- with what was written so far, the turns that are left lead where the whole chunk leads
pub record Leads (start : Serving) (chunk : List ℕ) (s : Session) (line : List ℕ) (len : ℕ) (out : List ℕ) (at : ℕ) : Type 0 where
  pub written : List ℕ
  pub left : (n : ℕ) → length chunk ≤ at + n → turns n (serving_of s line len out written) chunk at ≡ chunk_served start chunk

pub leads_start : (chunk : List ℕ) (s : Session) (line : List ℕ) (len : ℕ) (out : List ℕ) → Leads (serving_of s line len out []) chunk s line len out 0
unfolding chunk_served
leads_start chunk s line len out = record {
  written = [];
  left = λ n h. enough n (length chunk) (serving_of s line len out []) chunk 0 h (omega arith);
}

module _ (start : Serving) (chunk : List ℕ) (s : Session) (line : List ℕ) (len : ℕ) (out : List ℕ) (at : ℕ) (l : Leads start chunk s line len out at) where
  pub leads_turn : (s' : Session) (line' : List ℕ) (len' : ℕ) (out' front : List ℕ) (next : ℕ) → at < length chunk
      → IsTurn (serving_of s line len out) (serving_of s' line' len' out') front chunk at → next ≡ next_place chunk at
      → Leads start chunk s' line' len' out' next
  leads_turn s' line' len' out' front next h turn e = record {
    written = l.written ++ front;
    left = λ n f.
        let k : ℕ = n + length chunk in
        ap (λ (v : Serving). turns n v chunk next) (turn l.written)
        ∙ ap (λ (m : ℕ). turns n (turned (serving_of s line len out l.written) chunk at) chunk m) e
        ∙ enough n k (turned (serving_of s line len out l.written) chunk at) chunk (next_place chunk at) (omega (arith, e, f)) (omega arith)
        ∙ sym (turns_more k (serving_of s line len out l.written) chunk at (lt-ltb at (length chunk) h))
        ∙ l.left (suc k) (omega arith);
  }

  pub leads_done : length chunk ≤ at → held_of s line len out ≡ held_in (chunk_served start chunk)
  leads_done h = ap held_in (sym (no_turn 0 (serving_of s line len out l.written) chunk at h) ∙ l.left 0 (omega arith))
