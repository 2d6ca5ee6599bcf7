-- The numbers of the hits, a panel at a time from the top: one turn of the loop writes those of one panel more.
use Prim.Native.Nat.{ℕ, zero, suc, ◌+◌, ◌-◌, ◌≤◌, ◌<◌}
use mathlib.Core.Path.{◌≡◌, refl, ap, ◌∙◌}
use mathlib.Core.Bool.{Bool}
use mathlib.Core.List.{List, [], ◌∷◌, ◌++◌, reverse}
use native.Mathlib.Omega.{arith}
use lib.ListN.{length, drop, get_or, length-append, length-drop, length-reverse}
use lib.Seq.{drop-length}
use Rattle.lists.specs.Lists.{keep}
use Rattle.lists.proofs.ListLaws.{by_test, keep_append, map_append, back_more}
use Rattle.handles.specs.declared.GenerationalHandle.{GenerationalHandle}
use Rattle.view_panels.specs.Panels.{Panel, handles_of}
use Rattle.composition_hits.specs.Buffer.{numbers_of, numbers_if, over, written}
use Rattle.composition_hits.proofs.BufferLaws.{over_more, written_none, length_written}

numbers_append : (a b : List GenerationalHandle) → numbers_of (a ++ b) ≡ numbers_of a ++ numbers_of b
numbers_append [] b = refl
numbers_append (h ∷ a) b = ap (λ (r : List ℕ). h.index ∷ h.generation ∷ r) (numbers_append a b)

-- the panels from `left` on have been passed, from the top
abbrev pub above : List Panel → ℕ → List Panel
above l left = reverse (drop left l)

module _ (p : Panel → Bool) where
  -- the numbers of the panels that pass the test
  abbrev pub found : List Panel → List ℕ
  found l = numbers_of (handles_of (keep p l))

  found_append : (a b : List Panel) → found (a ++ b) ≡ found a ++ found b
  found_append a b =
      ap (λ (x : List Panel). numbers_of (handles_of x)) (keep_append p a b)
      ∙ ap numbers_of (map_append _ (keep p a) (keep p b))
      ∙ numbers_append (handles_of (keep p a)) (handles_of (keep p b))

  found_one : (h : Panel) → found (h ∷ []) ≡ numbers_if (p h) h.surface
  found_one h = by_test (p h) (λ t. rw t) (λ t. rw t)

  found_most : (l : List Panel) → length (found l) ≤ length l + length l
  found_most [] = omega arith
  found_most (h ∷ l) = by_test (p h) (λ t. simp t (omega (arith, found_most l))) (λ t. simp t (omega (arith, found_most l)))

  pub record Filling (l : List Panel) (old buffer : List ℕ) (left place : ℕ) : Type 0 where
    pub within : left ≤ length l
    pub small : length l ≤ 16
    pub room : 32 ≤ length old
    pub place_is : place ≡ length (found (above l left))
    pub buffer_is : buffer ≡ written old (found (above l left))

  pub start : (l : List Panel) (old : List ℕ) → length l ≤ 16 → 32 ≤ length old → Filling l old old (length l) 0
  start l old h r = record {
    within = omega arith;
    small = h;
    room = r;
    place_is = rw drop-length;
    buffer_is = rw drop-length (written_none old);
  }

  module _ (l : List Panel) (old buffer : List ℕ) (left place : ℕ) (f : Filling l old buffer left place) where
    so_far : length (found (above l left)) ≤ (length l - left) + (length l - left)
    so_far = let h = found_most (above l left) in let e : length (above l left) ≡ length l - left = length-reverse (drop left l) ∙ length-drop left l in omega arith

    pub same_long : length buffer ≡ length old
    same_long = ap length f.buffer_is ∙ length_written old (found (above l left)) (omega (arith, so_far, f.small, f.room))

    pub room_for_two : 0 < left → place + 2 ≤ length buffer
    room_for_two z = omega (arith, so_far, same_long, f.small, f.room, f.within, f.place_is)

    pub turn : 0 < left → (d : Panel) (next : List ℕ) (place' : ℕ)
        → let h = get_or l (left - 1) d in
        place' ≡ place + length (numbers_if (p h) h.surface) → next ≡ over buffer place (numbers_if (p h) h.surface) → Filling l old next (left - 1) place'
    turn z d next place' e n =
        let h = get_or l (left - 1) d in
        let more : found (above l (left - 1)) ≡ found (above l left) ++ numbers_if (p h) h.surface =
        ap found (back_more l left d z f.within) ∙ found_append (above l left) (h ∷ []) ∙ ap (λ (x : List ℕ). found (above l left) ++ x) (found_one h) in
        record {
          within = omega (arith, f.within);
          small = f.small;
          room = f.room;
          place_is = e ∙ rw (more, length-append, f.place_is);
          buffer_is = n ∙ rw (f.buffer_is, f.place_is, more) (over_more old (found (above l left)) (numbers_if (p h) h.surface));
        }

  pub end_place : (l : List Panel) (old buffer : List ℕ) (left place : ℕ) → Filling l old buffer left place → left ≤ 0 → place ≡ length (found (reverse l))
  end_place l old buffer zero place f z = f.place_is
  end_place l old buffer (suc k) place f z = absurd (omega arith)

  pub end_buffer : (l : List Panel) (old buffer : List ℕ) (left place : ℕ) → Filling l old buffer left place → left ≤ 0 → buffer ≡ written old (found (reverse l))
  end_buffer l old buffer zero place f z = f.buffer_is
  end_buffer l old buffer (suc k) place f z = absurd (omega arith)
