-- A part of a list that is put back: the part itself, and what lies before and after it.
use Prim.Native.Nat.{ℕ, ◌+◌, ◌-◌, ◌≤◌, ◌<◌}
use mathlib.Core.Path.{◌≡◌, sym, ap, ◌∙◌}
use mathlib.Core.List.{List}
use native.Mathlib.Omega.{arith}
use lib.ListN.{length, take, drop, get_or, length-take, length-drop}
use lib.Seq.{get_or-drop, get_or-take, take_at, drop_at, length-take-le, ext_get_or}
use borrow.Rule.Slice.PartMut.{put_mid, take_put, drop_put}
use Rattle.slices.specs.Parts.{part}

-- how many numbers from a start to an end
pub part_size : (at n : ℕ) → at + n - at ≡ n
part_size at n = omega arith

-- a place of a part
pub part_get : (ws : List ℕ) (base size i : ℕ) → i < size → get_or (part ws base size) i 0 ≡ get_or ws (base + i) 0
part_get ws base size i l = get_or-take size (drop base ws) i 0 l ∙ get_or-drop base ws i 0

-- a part of two lists that agree there
pub part_same : (xs ys : List ℕ) (base size : ℕ) → length xs ≡ length ys → ((i : ℕ) → i < size → get_or xs (base + i) 0 ≡ get_or ys (base + i) 0) → part xs base size ≡ part ys base size
part_same xs ys base size e f =
    ext_get_or 0 (part xs base size) (part ys base size) (simp (length-take, length-drop, e))
    (λ i l. let m : i < size = omega (arith, simp length-take at l) in part_get xs base size i m ∙ f i m ∙ sym (part_get ys base size i m))

module _ (ws b : List ℕ) (at e : ℕ) (up : at ≤ e) (within : e ≤ length ws) (fits : length b ≡ e - at) where
  pub part_here : (n : ℕ) → length b ≡ n → part (put_mid at (e - at) ws b) at n ≡ b
  part_here n f = ap (take n) (drop_at (take at ws) _ at (length-take-le at ws (omega arith))) ∙ take_at b _ n f

  pub get_before : (j : ℕ) → j < at → get_or (put_mid at (e - at) ws b) j 0 ≡ get_or ws j 0
  get_before j l = sym (get_or-take at (put_mid at (e - at) ws b) j 0 l) ∙ ap (λ (x : List ℕ). get_or x j 0) (take_put at (e - at) ws b (omega arith)) ∙ get_or-take at ws j 0 l

  pub get_after : (j : ℕ) → e ≤ j → get_or (put_mid at (e - at) ws b) j 0 ≡ get_or ws j 0
  get_after j l =
      let is : j ≡ e + (j - e) = omega arith in
      ap (λ (i : ℕ). get_or (put_mid at (e - at) ws b) i 0) is
      ∙ sym (get_or-drop e (put_mid at (e - at) ws b) (j - e) 0) ∙ ap (λ (x : List ℕ). get_or x (j - e) 0) (drop_put at e ws b up within fits) ∙ get_or-drop e ws (j - e) 0
      ∙ ap (λ (i : ℕ). get_or ws i 0) (sym is)
