-- A table as a list, at any shape: a push puts an entry after the list, and one turn of a loop that copies the entries that pass a test.
use Prim.Native.Nat.{ℕ, ◌+◌, ◌≤◌, ◌<◌}
use mathlib.Core.Path.{◌≡◌, sym, ap, ◌∙◌}
use mathlib.Core.Bool.{Bool, true, false}
use mathlib.Core.List.{List, [], ◌∷◌, ◌++◌, append_assoc, append-nil}
use native.Mathlib.Numerals.{add-one}
use native.Mathlib.Omega.{arith}
use borrow.Author.Tests.{lt-ltb}
use lib.ListN.{length, take, get_or, set, length-append, length-take}
use lib.Seq.{get_or-take, take-suc}
use Rattle.std.specs.List.{fold}
use Rattle.std.proofs.lemmas.List.Sums.{fold-append}
use Rattle.lists.specs.Lists.{keep, pad}
use Rattle.lists.specs.Tables.{Shape, entries_of, packed, pushed, pushed_within}
use Rattle.lists.proofs.ListLaws.{keep_yes, keep_no, keep_room, length_keep, take_pad, push_pad}

-- a fold over one entry more
pub fold_next : {E T : Type 0} (f : T → E → T) (t : T) (l : List E) (i : ℕ) (d : E) → i < length l
    → fold f t (take (i + 1) l) ≡ f (fold f t (take i l)) (get_or l i d)
fold_next f t l i d h = rw (add-one, take-suc l i d h) (fold-append f t (take i l) (get_or l i d ∷ []))

module _ {E T : Type 0} (s : Shape E T) where
  pub few : (t : T) → length (s.all t) ≡ s.size → length (entries_of s t) ≤ s.size
  unfolding entries_of
  few t h = simp length-take (omega (arith, h))

  -- how many entries: the count, cut at the number of places
  pub count_below_lem : (t : T) → length (s.all t) ≡ s.size → s.len t < s.size → s.len t ≡ length (entries_of s t)
  unfolding entries_of
  count_below_lem t h l = simp length-take (omega (arith, h))

  pub count_above : (t : T) → length (s.all t) ≡ s.size → s.size ≤ s.len t → s.size ≡ length (entries_of s t)
  unfolding entries_of
  count_above t h l = simp length-take (omega (arith, h))

  -- the entry at a place
  pub entry : (t : T) (i : ℕ) (d : E) → i < length (entries_of s t) → get_or (entries_of s t) i d ≡ get_or (s.all t) i d
  unfolding entries_of
  entry t i d h = get_or-take (s.len t) (s.all t) i d (omega (arith, simp length-take at h))

  pub entries_packed : (l : List E) → entries_of s (packed s l) ≡ l
  unfolding entries_of packed
  entries_packed l = rw (s.all_make (pad s.size s.blank l) (length l), s.len_make (pad s.size s.blank l) (length l)) (take_pad s.size s.blank l)

  pub len_packed : (l : List E) → s.len (packed s l) ≡ length l
  unfolding packed
  len_packed l = s.len_make (pad s.size s.blank l) (length l)

  pub push_packed : (l : List E) (e : E) → length l < s.size → pushed s (packed s l) e ≡ packed s (l ++ (e ∷ []))
  unfolding packed pushed
  push_packed l e h =
      let full : List E = pad s.size s.blank l in
      let a = s.all_make full (length l) in
      let n = s.len_make full (length l) in
      λ j. s.make ((ap (λ (x : List E). set x (s.len (s.make full (length l))) e) a ∙ ap (λ (k : ℕ). set full k e) n ∙ push_pad s.size s.blank l e h) j)
      ((ap (λ (k : ℕ). k + 1) n ∙ sym (length-append l (e ∷ []))) j)

  -- ---- entries put one after the other
  pub within_packed : (l : List E) (e : E) → length l < s.size → pushed_within s (packed s l) e ≡ packed s (l ++ (e ∷ []))
  unfolding pushed_within
  within_packed l e h = rw (len_packed l, lt-ltb (length l) s.size h) (push_packed l e h)

  pub all_within : (own l : List E) → length own + length l ≤ s.size → fold (pushed_within s) (packed s own) l ≡ packed s (own ++ l)
  all_within own [] h = ap (packed s) (sym (append-nil own))
  all_within own (e ∷ l) h =
      let more : length (own ++ (e ∷ [])) + length l ≤ s.size = simp length-append (omega arith) in
      rw (within_packed own e (omega arith), all_within (own ++ (e ∷ [])) l more, append_assoc)

  -- ---- a loop that puts the entries of t that pass p after the list l of a table of the same shape
  module _ (p : E → Bool) (t : T) (i : ℕ) (d : E) (within : i < length (entries_of s t)) where
    test : {b : Bool} → p (get_or (s.all t) i d) ≡ b → p (get_or (entries_of s t) i d) ≡ b
    test h = ap p (entry t i d within) ∙ h

    module _ (l : List E) where
      pub turn_room : p (get_or (s.all t) i d) ≡ true → length l + length (keep p (entries_of s t)) ≤ s.size → length (l ++ keep p (take i (entries_of s t))) < s.size
      turn_room y h = simp length-append (omega (arith, keep_room p (entries_of s t) i d within (test y)))

      pub turn_yes : p (get_or (s.all t) i d) ≡ true → length l + length (keep p (entries_of s t)) ≤ s.size
          → pushed s (packed s (l ++ keep p (take i (entries_of s t)))) (get_or (s.all t) i d) ≡ packed s (l ++ keep p (take (i + 1) (entries_of s t)))
      turn_yes y h = rw (keep_yes p (entries_of s t) i d within (test y), entry t i d within, ← append_assoc) (push_packed _ _ (turn_room y h))

      pub turn_no : p (get_or (s.all t) i d) ≡ false → packed s (l ++ keep p (take i (entries_of s t))) ≡ packed s (l ++ keep p (take (i + 1) (entries_of s t)))
      turn_no y = rw (keep_no p (entries_of s t) i d within (test y))

  -- ---- a loop that keeps the entries of a list that pass p
  module _ (p : E → Bool) (l : List E) (i : ℕ) (d : E) (within : i < length l) (fits : length l ≤ s.size) where
    pub kept_yes : {t : T} → t ≡ packed s (keep p (take i l)) → p (get_or l i d) ≡ true → pushed_within s t (get_or l i d) ≡ packed s (keep p (take (i + 1) l))
    kept_yes e y = rw (e, keep_yes p l i d within y) (within_packed (keep p (take i l)) (get_or l i d) (omega (arith, keep_room p l i d within y, length_keep p l)))

    pub kept_no : {t : T} → t ≡ packed s (keep p (take i l)) → p (get_or l i d) ≡ false → t ≡ packed s (keep p (take (i + 1) l))
    kept_no e n = e ∙ rw (keep_no p l i d within n)
