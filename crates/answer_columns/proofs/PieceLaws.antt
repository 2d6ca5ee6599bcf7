-- Laws of text in pieces: two texts one after the other are one, and a loop over a table puts one entry more.
use Prim.Native.Nat.{ℕ}
use mathlib.Core.List.{List, [], ◌∷◌, ◌++◌}
use mathlib.Core.Path.{◌≡◌, refl, sym, ap, ◌∙◌}
use Rattle.answer_text.specs.Put.{put}
use Rattle.answer_columns.specs.Pieces.{put_all}

pub put_append : (a b : List (List ℕ)) (s : List ℕ × ℕ) → put_all (a ++ b) s ≡ put_all b (put_all a s)
put_append [] b s = refl
put_append (p ∷ a) b s = put_append a b (put p s)

-- two texts put one after the other are the two as one
pub chain : (a b : List (List ℕ)) (s : List ℕ × ℕ) {t u : List ℕ × ℕ} → u ≡ put_all b t → t ≡ put_all a s → u ≡ put_all (a ++ b) s
chain a b s q p = q ∙ ap (put_all b) p ∙ sym (put_append a b s)
