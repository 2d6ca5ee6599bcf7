-- Laws of a line that is put piece by piece: pieces one after the other, and a list of entries.
use Rattle.std.proofs.Common.{ℕ, ◌+◌, ◌<◌, List, [], ◌∷◌, ◌++◌, ◌≡◌, refl, sym, ap, ◌∙◌, length, take, get_or, append_assoc, append-nil, add-one}
use lib.Seq.{take-suc}
use Rattle.answer_columns.specs.declared.line.Line.{Line}
use Rattle.answer_columns.specs.Lines.{held, holding, extended}
use Rattle.answer_columns.specs.Pieces.{put_all, later_pieces}
use Rattle.answer_columns.proofs.PieceLaws.{put_append}

-- no piece
pub extended_none : (l : Line) → extended [] l ≡ l
unfolding extended
extended_none l = refl

-- pieces one after the other are put as one list
pub extended_both : (a b : List (List ℕ)) (l : Line) → extended b (extended a l) ≡ extended (a ++ b) l
unfolding extended
extended_both a b l = ap (holding l) (sym (put_append a b (held l)))

-- a line keeps its buffer, and what stands there and where it ends are as the pieces say
pub same_buffer : (a : List (List ℕ)) (l : Line) → (extended a l).out.ghost_name ≡ l.out.ghost_name
unfolding extended
same_buffer a l = refl

pub buffer_of : (a : List (List ℕ)) (l : Line) → (extended a l).out.now ≡ (put_all a (l.out.now, l.at)).0
unfolding extended
buffer_of a l = refl

pub place_of : (a : List (List ℕ)) (l : Line) → (extended a l).at ≡ (put_all a (l.out.now, l.at)).1
unfolding extended
place_of a l = refl

module _ {E : Type 0} (text : E → List (List ℕ)) where
  later_more : (l : List E) (e : E) → later_pieces text (l ++ (e ∷ [])) ≡ later_pieces text l ++ ((44 ∷ []) ∷ text e)
  unfolding later_pieces
  later_more [] e = ap (λ (r : List (List ℕ)). (44 ∷ []) ∷ r) (append-nil (text e))
  later_more (x ∷ l) e = ap (λ (r : List (List ℕ)). (44 ∷ []) ∷ r) (rw (later_more l e) (sym (append_assoc (text x) (later_pieces text l) ((44 ∷ []) ∷ text e))))

  -- entries behind another, one more
  pub entry_put : (l : List E) (i : ℕ) {e : E} (s : Line) {t u v : Line} → i < length l → e ≡ get_or l i e
      → t ≡ extended (later_pieces text (take i l)) s → u ≡ extended ((44 ∷ []) ∷ []) t → v ≡ extended (text e) u
      → v ≡ extended (later_pieces text (take (i + 1) l)) s
  entry_put l i {e} s h g p q r =
      r
      ∙ ap (extended (text e)) (q ∙ ap (extended ((44 ∷ []) ∷ [])) p)
      ∙ ap (extended (text e)) (extended_both (later_pieces text (take i l)) ((44 ∷ []) ∷ []) s)
      ∙ extended_both (later_pieces text (take i l) ++ ((44 ∷ []) ∷ [])) (text e) s
      ∙ ap (λ (x : List (List ℕ)). extended x s)
      (append_assoc (later_pieces text (take i l)) ((44 ∷ []) ∷ []) (text e)
      ∙ sym (later_more (take i l) e)
      ∙ ap (λ (x : E). later_pieces text (take i l ++ (x ∷ []))) g
      ∙ rw (add-one i, take-suc l i e h))
