-- Numbers in a column and in a dump are put piece by piece, with commas between: by induction on the list.
use Rattle.std.specs.Prelude.{Option, None, Some}
use Prim.Native.Nat.{ℕ}
use mathlib.Core.Bool.{Bool, true, false, cond}
use mathlib.Core.List.{List, [], ◌∷◌, ◌++◌}
use mathlib.Core.Path.{◌≡◌, refl, ap, ◌∙◌}
use lib.IntN.{pos, nat_abs}
use lib.Signed.{lt_z}
use Rattle.answer_text.specs.Decimal.{decimal}
use Rattle.answer_text.specs.Put.{put}
use Rattle.answer_text.specs.declared.digest.Digest.{Digest}
use Rattle.answer_numbers.specs.declared.sink.Sink.{Sink}
use Rattle.answer_numbers.specs.declared.sink.SinkKind.{SinkKind}
use Rattle.answer_numbers.specs.declared.sink.SinkKind.TheVariants.{Column, Dump}
use Rattle.answer_numbers.specs.Numbers.{Number, plain, signed, put_number, text_taken, taken_as, number_taken, numbers_taken}
use Rattle.answer_numbers.specs.Writers.{place_of, placed}
use Rattle.answer_more.specs.Place.{more_placed}
use Rattle.answer_columns.specs.Pieces.{put_all, later_pieces, entry_pieces}
use Rattle.answer_columns.proofs.PieceLaws.{chain}
use Rattle.line_lengths.specs.Texts.{shown_pieces, dumped_pieces, more_pieces}

-- a sink that has taken no number yet, or some
abbrev sink_at : SinkKind → Bool → ℕ → Digest → Sink
sink_at k f at d = record { kind = k; at = at; is_first = f; digest = d }

-- a kind of sink that writes each number as pieces
module _ (k : SinkKind) (text : Number → List (List ℕ)) (writes : (n : Number) (s : List ℕ × Sink) → taken_as k n s ≡ text_taken (put_all (text n)) s) where
  later : (l : List Number) (buf : List ℕ) (at : ℕ) (d : Digest)
      → place_of (numbers_taken l (buf, sink_at k false at d)) ≡ put_all (later_pieces text l) (buf, at)
  unfolding numbers_taken number_taken later_pieces
  later [] buf at d = refl
  later (n ∷ l) buf at d =
      let t : List ℕ × ℕ = put_all (text n) (put (44 ∷ []) (buf, at)) in
      ap (λ (s : List ℕ × Sink). place_of (numbers_taken l s)) (writes n (buf, sink_at k false at d))
      ∙ chain (text n) (later_pieces text l) (put (44 ∷ []) (buf, at)) (later l t.0 t.1 d) refl

  first : (l : List Number) (buf : List ℕ) (at : ℕ) (d : Digest)
      → place_of (numbers_taken l (buf, sink_at k true at d)) ≡ put_all (entry_pieces text l) (buf, at)
  unfolding numbers_taken number_taken entry_pieces
  first [] buf at d = refl
  first (n ∷ l) buf at d =
      let t : List ℕ × ℕ = put_all (text n) (buf, at) in
      ap (λ (s : List ℕ × Sink). place_of (numbers_taken l s)) (writes n (buf, sink_at k true at d))
      ∙ chain (text n) (later_pieces text l) (buf, at) (later l t.0 t.1 d) refl

  numbers_put : (l : List Number) (s : List ℕ × ℕ) → placed k l s ≡ put_all (entry_pieces text l) s
  numbers_put l s = first l s.0 s.1 _

-- ---- a column
sign_put : (b : Bool) (digits : List ℕ) (s : List ℕ × ℕ)
    → put digits (cond b (put (45 ∷ []) s) s) ≡ put_all (cond b ((45 ∷ []) ∷ []) [] ++ (digits ∷ [])) s
sign_put true digits s = refl
sign_put false digits s = refl

number_put : (n : Number) (s : List ℕ × ℕ) → put_number n s ≡ put_all (shown_pieces n) s
number_put (plain n) s = refl
number_put (signed z) s = sign_put (lt_z z (pos 0)) (decimal (nat_abs z)) s

in_column : (n : Number) (s : List ℕ × Sink) → taken_as Column n s ≡ text_taken (put_all (shown_pieces n)) s
in_column (plain n) s = refl
in_column (signed z) s =
    ap (λ (t : List ℕ × ℕ). text_taken (λ _. t) s) (number_put (signed z) _)

pub more_put : (o : Option (List Number)) (s : List ℕ × ℕ) → more_placed Column o s ≡ put_all (more_pieces o) s
more_put None s = refl
more_put (Some l) s = numbers_put Column shown_pieces in_column l s

-- ---- a dump
pub dump_put : (l : List Number) (s : List ℕ × ℕ) → placed Dump l s ≡ put_all (entry_pieces dumped_pieces l) s
dump_put l s = numbers_put Dump dumped_pieces (λ n s. refl) l s
