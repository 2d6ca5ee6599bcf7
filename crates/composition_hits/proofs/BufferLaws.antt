-- A buffer that is written from the front on: what stands after each piece, by the laws of take and drop.
use Prim.Native.Nat.{ℕ, zero, suc, ◌+◌, ◌≤◌}
use mathlib.Core.Path.{◌≡◌, refl, sym, ap, ◌∙◌}
use mathlib.Core.List.{List, [], ◌∷◌, ◌++◌, append_assoc}
use native.Mathlib.Nat.{add-zero}
use native.Mathlib.Omega.{arith}
use lib.ListN.{length, take, drop, set, get_or, length-append, length-drop, take-append-drop}
use lib.Seq.{drop-cons, take-append_seam, set_at, length-take-le, split_at}
use Rattle.composition_hits.specs.Buffer.{over, written}

drop_past : (w d : List ℕ) (k : ℕ) → drop (length w + k) (w ++ d) ≡ drop k d
drop_past [] d k = ap (λ (n : ℕ). drop n d) (let e : 0 + k ≡ k = omega arith in e)
drop_past (x ∷ w) d k = let e : suc (length w) + k ≡ suc (length w + k) = omega arith in rw e (drop_past w d k)

drop_more : (l : List ℕ) (a k : ℕ) → drop k (drop a l) ≡ drop (a + k) l
drop_more l zero k = let e : 0 + k ≡ k = omega arith in rw e
drop_more [] (suc a) k = let e : suc a + k ≡ suc (a + k) = omega arith in rw e (none k)
  where
    none : (k : ℕ) → drop {A = ℕ} k [] ≡ []
    none zero = refl
    none (suc k) = refl
drop_more (x ∷ l) (suc a) k = let e : suc a + k ≡ suc (a + k) = omega arith in rw e (drop_more l a k)

-- two writes, one after the other
pub put_two : (l : List ℕ) (at a b : ℕ) → at + 2 ≤ length l → set (set l at a) (at + 1) b ≡ over l at (a ∷ b ∷ [])
unfolding over
put_two l at a b h =
    let p = take at l in
    let y = get_or l (suc at) 0 in
    let r = drop (suc (suc at)) l in
    let len : length p ≡ at = length-take-le at l (omega arith) in
    let len' : length (p ++ (a ∷ [])) ≡ at + 1 = simp length-append (omega arith) in
    let two : at + 2 ≡ suc (suc at) = omega arith in
    ap (λ (s : List ℕ). set (set s at a) (at + 1) b) (split_at l at 0 (omega arith) ∙ ap (λ (d : List ℕ). p ++ (get_or l at 0 ∷ d)) (drop-cons l (suc at) 0 (omega arith)))
    ∙ ap (λ (s : List ℕ). set s (at + 1) b) (set_at p (get_or l at 0) (y ∷ r) a at len ∙ sym (append_assoc p (a ∷ []) (y ∷ r)))
    ∙ set_at (p ++ (a ∷ [])) y r b (at + 1) len'
    ∙ append_assoc p (a ∷ []) (b ∷ r)
    ∙ ap (λ (n : ℕ). p ++ (a ∷ b ∷ drop n l)) (sym two)

pub over_none : (l : List ℕ) (at : ℕ) → l ≡ over l at []
unfolding over
over_none l at = sym (ap (λ (n : ℕ). take at l ++ drop n l) (add-zero at) ∙ take-append-drop at l)

pub over_more : (old w n : List ℕ) → over (written old w) (length w) n ≡ written old (w ++ n)
unfolding over written
over_more old w n =
    rw (take-append_seam, drop_past w (drop (length w) old) (length n), drop_more old (length w) (length n), length-append, append_assoc)

pub written_none : (old : List ℕ) → old ≡ written old []
unfolding written
written_none old = refl

pub length_written : (old w : List ℕ) → length w ≤ length old → length (written old w) ≡ length old
unfolding written
length_written old w h = simp (length-append, length-drop) (omega arith)

-- the front part of a written buffer
pub front_written : (old w : List ℕ) → take (length w) (written old w) ≡ w
unfolding written
front_written old w = take-append_seam w _
