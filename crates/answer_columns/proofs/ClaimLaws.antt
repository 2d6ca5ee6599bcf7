-- The claims of the columns: pieces are one text by the law of two texts, and a refused call's columns are those of a blank answer.
use Prim.Native.Nat.{ℕ, ◌+◌, ◌≤◌}
use mathlib.Core.List.{List, [], ◌∷◌, ◌++◌, append-nil, flatten}
use mathlib.Core.Path.{◌≡◌, sym, ap, ◌∙◌}
use native.Mathlib.Nat.{add-zero, zero-add}
use native.Mathlib.Omega.{arith}
use lib.ListN.{length, take, drop, length-append, take-append-drop}
use lib.Seq.{length-paste, take-length}
use borrow.Author.Tests.{le-leb}
use Rattle.lists.proofs.TableLaws.{entries_packed}
use Rattle.records.specs.Traces.{deliveries}
use Rattle.release_lists.specs.Captures.{capture_list}
use Rattle.input_events.specs.RouterErrors.{router_number_of}
use Rattle.release_lists.specs.Releases.{releases}
use Rattle.answer_text.specs.Put.{over, put}
use Rattle.answer_text.proofs.PutLaws.{put_yes}
use Rattle.answer_text.proofs.ClaimLaws as text
use Rattle.counter.specs.declared.answer.Answer.{Answer}
use Rattle.answer_columns.specs.Pieces.{put_all, text_then, space_pieces, none_pieces, list_pieces}
use Rattle.answer_columns.specs.Columns.{number_pieces, releases_column, column_pieces}
use Rattle.answer_columns.specs.Claims.{ColumnClaims}
use Rattle.answer_columns.proofs.BlankLaws.{Blank, blank}

-- ---- pieces as one text
put_none : (buf : List ℕ) (at : ℕ) → at ≤ length buf → ◌≡◌ {A = List ℕ × ℕ} (buf, at) (put [] (buf, at))
put_none buf at h =
    sym
    (put_yes [] buf at (le-leb (at + 0) (length buf) (omega arith))
    ∙ rw (add-zero at, append-nil (take at buf), take-append-drop at buf))

same_long : (a buf : List ℕ) (at : ℕ) → at + length a ≤ length buf → length (over a buf at) ≡ length buf
same_long a buf at h = ap (λ (l : List ℕ). length (take at buf ++ l ++ drop (at + length a) buf)) (sym (take-length a)) ∙ length-paste buf at a (length a) h (omega arith)

one_text : (pieces : List (List ℕ)) (buf : List ℕ) (at : ℕ) → at + length (flatten pieces) ≤ length buf → put_all pieces (buf, at) ≡ put (flatten pieces) (buf, at)
unfolding flatten
one_text [] buf at h = put_none buf at (omega arith)
one_text (p ∷ l) buf at h =
    let both : length (p ++ flatten l) ≡ length p + length (flatten l) = length-append p (flatten l) in
    let first : put p (buf, at) ≡ (over p buf at, at + length p) = put_yes p buf at (le-leb (at + length p) (length buf) (omega arith)) in
    let long : length (over p buf at) ≡ length buf = same_long p buf at (omega arith) in
    ap (put_all l) first
    ∙ one_text l (over p buf at) (at + length p) (omega arith)
    ∙ ap (put (flatten l)) (sym first)
    ∙ (text.claims).put_both p (flatten l) buf at (omega arith)

whole_text : (pieces : List (List ℕ)) (buf : List ℕ) → length (flatten pieces) ≤ length buf → put_all pieces (buf, 0) ≡ text_then (flatten pieces) buf
whole_text pieces buf h =
    let text = flatten pieces in
    one_text pieces buf 0 (rw zero-add h)
    ∙ put_yes text buf 0 (le-leb (0 + length text) (length buf) (rw zero-add h))
    ∙ ap (λ (n : ℕ). (text ++ drop n buf, n)) (zero-add (length text))

-- ---- the columns of a blank answer
blank_columns : (a : Answer) (calls revision : ℕ) → Blank a
    → column_pieces calls revision a ≡ number_pieces calls (router_number_of a.outcome) revision ++ none_pieces ++ space_pieces ++ none_pieces ++ space_pieces ++ none_pieces
unfolding column_pieces releases_column list_pieces
blank_columns a calls revision b =
    rw (b.consumer, b.delivered, b.released, b.captured, entries_packed deliveries [], entries_packed releases [], entries_packed capture_list [])

pub claims : ColumnClaims
claims = record {
  one_text = one_text;
  whole_text = whole_text;
  refused_blank = λ k call l calls revision h. blank_columns _ calls revision (blank k l call h);
}
