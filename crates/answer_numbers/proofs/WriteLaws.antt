-- Laws of what a writer writes: by the kind of its sink, and one list after the other.
use Rattle.std.proofs.Common.{Bool, true, false, cond, ℕ, ◌+◌, ◌<◌, List, [], ◌∷◌, ◌++◌, ◌≡◌, refl, sym, ap, ◌∙◌, length, take, get_or}
use lib.Seq.{take-length}
use Rattle.lists.specs.Lists.{keep}
use Rattle.answer_numbers.specs.declared.sink.SinkKind.{SinkKind}
use Rattle.answer_numbers.specs.declared.writer.Writer.{Writer}
use Rattle.answer_numbers.specs.Numbers.{Number, taken_as, number_taken, numbers_taken, each, indices}
use Rattle.answer_numbers.specs.Writers.{held, holding, written}
use Rattle.answer_numbers.proofs.EachLaws.{each_more, if_passes, each_kept, each_index}
use Rattle.answer_numbers.proofs.TakeLaws.{taken_both}

-- one number, by the kind of the sink
pub as_kind : (n : Number) (w : Writer) {k : SinkKind} → w.sink.kind ≡ k → holding w (taken_as k n (held w)) ≡ written (n ∷ []) w
unfolding written number_taken numbers_taken
as_kind n w e = ap (λ (k : SinkKind). holding w (taken_as k n (held w))) (sym e)

-- no number
pub written_none : (w : Writer) → written [] w ≡ w
unfolding written numbers_taken
written_none w = refl

-- two lists one after the other are the two as one
pub written_both : (a b : List Number) (w : Writer) → written b (written a w) ≡ written (a ++ b) w
unfolding written
written_both a b w = ap (holding w) (taken_both a b (held w))

-- a writer keeps its buffer, and what stands there and where it ends are as the numbers say
pub same_buffer : (l : List Number) (w : Writer) → (written l w).out.ghost_name ≡ w.out.ghost_name
unfolding written
same_buffer l w = refl

pub buffer_of : (l : List Number) (w : Writer) → (written l w).out.now ≡ (numbers_taken l (w.out.now, w.sink)).0
unfolding written
buffer_of l w = refl

pub place_of : (l : List Number) (w : Writer) → (written l w).sink.at ≡ (numbers_taken l (w.out.now, w.sink)).1.at
unfolding written
place_of l w = refl

-- a list, one entry more after its count and its first entries
pub place_written : {E : Type 0} (f : E → List Number) (l : List E) (i : ℕ) (d : E) (n : Number) (w : Writer) {v u : Writer} → i < length l
    → v ≡ written (n ∷ each f (take i l)) w → u ≡ written (f (get_or l i d)) v → u ≡ written (n ∷ each f (take (i + 1) l)) w
place_written f l i d n w h p q =
    q
    ∙ ap (written (f (get_or l i d))) p
    ∙ written_both (n ∷ each f (take i l)) (f (get_or l i d)) w
    ∙ ap (λ (x : List Number). written (n ∷ x) w) (sym (each_more f l i d h))

pub entry_written : {E : Type 0} (f : E → List Number) (l : List E) (i : ℕ) {e : E} (n : Number) (w : Writer) {v u : Writer} → i < length l → e ≡ get_or l i e
    → v ≡ written (n ∷ each f (take i l)) w → u ≡ written (f e) v → u ≡ written (n ∷ each f (take (i + 1) l)) w
entry_written {E = E} f l i {e} n w {v} h g p q = place_written f l i e n w h p (q ∙ ap (λ (x : E). written (f x) v) g)

-- the same for an entry that does not pass a test
pub left_out : {E : Type 0} (p : E → Bool) (f : E → List Number) (l : List E) (i : ℕ) {e : E} (n : Number) (w : Writer) {v : Writer} → i < length l → e ≡ get_or l i e
    → p e ≡ false → v ≡ written (n ∷ each (if_passes p f) (take i l)) w → v ≡ written (n ∷ each (if_passes p f) (take (i + 1) l)) w
left_out {E = E} p f l i {e} n w {v} h g out q = entry_written (if_passes p f) l i n w h g q (sym (ap (λ (b : Bool). written (cond b (f e) []) v) out ∙ written_none v))

-- and for one that passes
pub put_in : {E : Type 0} (p : E → Bool) (f : E → List Number) (l : List E) (i : ℕ) {e : E} (n : Number) (w : Writer) {v u : Writer} → i < length l → e ≡ get_or l i e
    → p e ≡ true → v ≡ written (n ∷ each (if_passes p f) (take i l)) w → u ≡ written (f e) v → u ≡ written (n ∷ each (if_passes p f) (take (i + 1) l)) w
put_in {E = E} p f l i {e} n w {v} h g within q r = entry_written (if_passes p f) l i n w h g q (r ∙ sym (ap (λ (b : Bool). written (cond b (f e) []) v) within))

-- the entries that pass: how many, and each
pub kept_written : {E : Type 0} (p : E → Bool) (f : E → List Number) (l : List E) (n : Number) (w : Writer) {v : Writer}
    → v ≡ written (n ∷ each (if_passes p f) (take (length l) l)) w → v ≡ written (n ∷ each f (keep p l)) w
kept_written p f l n w q = q ∙ ap (λ (x : List Number). written (n ∷ x) w) (rw (take-length l) (each_kept p f l))

-- the indices below a number, one more
pub index_written : (f : ℕ → List Number) (i : ℕ) (n : Number) (w : Writer) {v u : Writer}
    → v ≡ written (n ∷ each f (indices i)) w → u ≡ written (f i) v → u ≡ written (n ∷ each f (indices (i + 1))) w
index_written f i n w p q =
    q
    ∙ ap (written (f i)) p
    ∙ written_both (n ∷ each f (indices i)) (f i) w
    ∙ ap (λ (x : List Number). written (n ∷ x) w) (sym (each_index f i))

-- what two calls write, the second where the first ended
pub then : (a b : List Number) (w : Writer) {v u : Writer} → v ≡ written a w → u ≡ written b v → u ≡ written (a ++ b) w
then a b w p q = q ∙ ap (written b) p ∙ written_both a b w
