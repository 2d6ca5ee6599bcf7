-- Laws of the words of a line and of a search for a byte, by induction on the line.
use Rattle.std.proofs.Common.{◌≡◌, ℕ, suc, ◌+◌, ◌-◌, ◌≤◌, List, [], ◌∷◌, length, take, drop, refl, sym, ap, ◌∙◌, nat_eq, nat_le, cond, Bool, true, false, arith, min, length-drop, ◌++◌, get_or, subst, Bor}
use Rattle.std.proofs.lemmas.Bool.Decides.{nat_tests}
use Rattle.std.proofs.lemmas.Fn.{always_returns_same}
use Rattle.std.proofs.lemmas.Grind.{common_steps}
use Rattle.std.proofs.lemmas.List.Splits.{slice_split_none, slice_split_at}
use Rattle.std.specs.Bool.{MatchBool}
use Rattle.std.specs.Fn.{CalledAt, ComputesKey}
use Rattle.std.specs.List.{position_or_len, position, slice_split, onto_first, All, IsFirstMatchOrLen}
use Rattle.std.specs.Slice.Iter.{split_rest, split_done, split_callee, split_steps}
use Rattle.std.specs.declared.slice.Split.{Split}
use denote.Param.Members.{Mut}
use Rattle.std.specs.Option.{unwrap_or}
use Rattle.std.specs.Prelude.{Option, None, Some, nat_lt}
use Rattle.std.proofs.lemmas.List.Recursion.{is_position_or_len}
use borrow.Author.Tests.{leb-true, leb-false}
use lib.ListN.{drop_of_length-le}
use lib.Seq.{take_all}
use Rattle.script.specs.Words.{up_to, first_word, later_words, words_of}

-- the first b stands behind what stands before it
pub up_to_place : (b : ℕ) (l : List ℕ) → length (up_to b l) ≡ position_or_len (λ x. nat_eq x b) l
up_to_place b l = is_position_or_len (λ l. length (up_to b l)) (λ x. nat_eq x b) refl (λ x xs. step (nat_eq x b) x (up_to b xs)) l
  where
    step : (t : Bool) (x : ℕ) (r : List ℕ) → length (cond t [] (x ∷ r)) ≡ cond t 0 (1 + length r)
    step true x r = refl
    step false x r = omega arith

pub up_to_within : (b : ℕ) (l : List ℕ) → length (up_to b l) ≤ length l
up_to_within b [] = omega arith
up_to_within b (x ∷ l) = step (nat_eq x b) (up_to b l) (up_to_within b l)
  where
    step : (t : Bool) (r : List ℕ) → length r ≤ length l → length (cond t [] (x ∷ r)) ≤ suc (length l)
    step true r h = omega arith
    step false r h = omega arith

pub place_or_end : (b : ℕ) (l : List ℕ) → unwrap_or (position (λ x. nat_eq x b) l) (length l) ≡ length (up_to b l)
place_or_end b l = step (length (up_to b l)) (length l) (position_or_len (λ x. nat_eq x b) l) (up_to_place b l) (up_to_within b l)
  where
    step : (k n p : ℕ) → k ≡ p → k ≤ n → unwrap_or (cond (nat_lt p n) (Some p) None) n ≡ k
    step k n p e h = grind (arith, nat_tests)

-- the words of a line are the parts that it is cut into at its spaces
pub words_split : (l : List ℕ) → slice_split (λ b. nat_eq b 32) l ≡ words_of l
words_split [] = refl
words_split (b ∷ l) = step (nat_eq b 32) _ (words_split l)
  where
    step : (t : Bool) (ps : List (List ℕ)) → ps ≡ words_of l → cond t ([] ∷ ps) (onto_first b ps) ≡ cond t [] (b ∷ up_to 32 l) ∷ cond t (first_word l ∷ later_words l) (later_words l)
    step true ps e = rw e
    step false ps e = rw e

-- a part that goes to the end
pub take_rest : (l : List ℕ) (i : ℕ) → take (length l - i) (drop i l) ≡ drop i l
take_rest l i = take_all (length l - i) (drop i l) (omega (arith, length-drop i l))

-- what is left of a text from a place on, cut at its end
pub rest_is : (l : List ℕ) (from k : ℕ) → k ≡ min from (length l) → take (length l - k) (drop k l) ≡ drop from l
rest_is l from k e = take_rest l k ∙ step (nat_le from (length l)) refl
  where
    step : (t : Bool) → nat_le from (length l) ≡ t → drop k l ≡ drop from l
    step true t = let n : k ≡ from = omega (arith, leb-true from (length l) t) in rw n
    step false t =
        let past : length l ≤ k = omega (arith, leb-false from (length l) t) in
        let past' : length l ≤ from = omega (arith, leb-false from (length l) t) in
        rw (drop_of_length-le l past, drop_of_length-le l past')

-- ---- a turn over the parts that a slice is cut into
slice_split_part : {A : Type 0} (p : A → Bool) (xs x rest : List A) (done : Bool)
    → MatchBool done (xs ≡ x) ((y : A) × (xs ≡ x ++ (y ∷ rest))) → IsFirstMatchOrLen p xs (length x)
    → slice_split p xs ≡ x ∷ cond done [] (slice_split p rest)
slice_split_part p xs x rest true e h =
    ap (slice_split p) e ∙ slice_split_none p x (λ k d l. subst (λ ys. p (get_or ys k d) ≡ false) e (h.0 k d (omega arith) l))
slice_split_part p xs x rest false e h =
    let front : All (λ z. p z ≡ false) x = λ k d l. let a = h.0 k d (omega arith) l in let b = e.1 in grind (arith, common_steps) in
    let hit : p e.0 ≡ true = let b = e.1 in let a = h.1 (grind (arith, common_steps)) e.0 in grind (arith, common_steps) in
    ap (slice_split p) e.1 ∙ slice_split_at p x e.0 rest front hit

-- the words that a cut at spaces still gives
abbrev pub words_left : {F : Type 0} → Split ℕ F → List (List ℕ)
words_left s = cond (split_done s) [] (slice_split (λ b. nat_eq b 32) (split_rest s))

module _ {F : Type 0} (g : Mut F (Bor ℕ × Unit {0}) Bool) (s t : Split ℕ F)
    (tests : (x : ℕ) (b : Bool) (q : F) → CalledAt g (split_callee s) x b q → (q ≡ split_callee s) × (b ≡ nat_eq x 32)) where
  pub word_next : (x : Bor (List ℕ)) → split_steps g s (Some x) t → words_left s ≡ x.now ∷ words_left t
  word_next x k =
      let p : ℕ → Bool = λ b. nat_eq b 32 in
      let h : ComputesKey g p (split_callee s) = always_returns_same g (λ a r. r ≡ p a.0.now) (split_callee s) (λ a r q k. let m = tests a.0.now r q (record { shown = a.0; shows = refl; called = k }) in (m.1, m.0)) in
      ap (λ b. cond b [] (slice_split p (split_rest s))) k.0 ∙ slice_split_part p (split_rest s) x.now (split_rest t) (split_done t) k.1 (k.2 p h).1

  -- the first word, where there is no other text for one that is missing
  pub word_first : (o : Option (Bor (List ℕ))) (d : Bor (List ℕ)) → split_done s ≡ false → split_steps g s o t → words_left s ≡ (unwrap_or o d).now ∷ words_left t
  word_first None d e k = absurd (clash (sym k.0 ∙ e))
    where
      clash : true ≡ false → ⊥
      clash e = cc
  word_first (Some x) d e k = word_next x k

  -- what a line's first word is, and what its later ones are
  pub first_is : (l : List ℕ) (o : Option (Bor (List ℕ))) (d r : Bor (List ℕ)) → split_rest s ≡ l → split_done s ≡ false → split_steps g s o t → r ≡ unwrap_or o d
      → (first_word l ≡ r.now) × (later_words l ≡ words_left t)
  first_is l o d r rest begun k e =
      let whole : words_left s ≡ words_of l = (λ i. cond (begun i) [] (slice_split (λ b. nat_eq b 32) (rest i))) ∙ words_split l in
      let cut : words_of l ≡ r.now ∷ words_left t = sym whole ∙ word_first o d begun k ∙ ap (λ (x : Bor (List ℕ)). x.now ∷ words_left t) (sym e) in
      (cc, cc)

pub word_last : {F : Type 0} (s : Split ℕ F) → split_done s ≡ true → words_left s ≡ []
word_last s e = ap (λ b. cond b [] (slice_split (λ b. nat_eq b 32) (split_rest s))) e

pub up_to_take : (b : ℕ) (l : List ℕ) → take (length (up_to b l)) l ≡ up_to b l
up_to_take b [] = refl
up_to_take b (x ∷ l) = step (nat_eq x b) (up_to b l) (up_to_take b l)
  where
    step : (t : Bool) (r : List ℕ) → take (length r) l ≡ r → take (length (cond t [] (x ∷ r))) (x ∷ l) ≡ cond t [] (x ∷ r)
    step true r e = refl
    step false r e = ap (λ m. x ∷ m) e
