-- How many bytes the pieces of a line are at most: a number 20, and each list by how many entries it has.
use Rattle.handles.specs.declared.GenerationalHandle.{GenerationalHandle}
use Rattle.std.specs.Prelude.{Option, None, Some}
use Prim.Native.Nat.{ℕ, ◌+◌, ◌*◌, ◌≤◌}
use mathlib.Core.Bool.{Bool, true, false}
use mathlib.Core.List.{List, [], ◌∷◌, ◌++◌, flatten}
use mathlib.Core.Path.{◌≡◌}
use native.Mathlib.Omega.{arith}
use lib.Dec.{eqb}
use lib.IntN.{pos, nat_abs}
use lib.ListN.{length, length-append}
use lib.Signed.{lt_z}
use Rattle.lists.specs.Tables.{entries_of}
use Rattle.lists.proofs.ListLaws.{by_test}
use Rattle.maps.specs.declared.bindings.Binding.{Binding}
use Rattle.maps.specs.declared.captures.Capture.{Capture}
use Rattle.maps.specs.declared.keys.BindingKey.{BindingKey}
use Rattle.maps.specs.declared.keys.BindingKey.TheVariants.{Pointer, Key, Gamepad}
use Rattle.records.specs.declared.trace.InputDelivery.{InputDelivery}
use Rattle.records.specs.Traces.{deliveries}
use Rattle.release_lists.specs.Captures.{capture_list, CaptureList}
use Rattle.release_lists.specs.Releases.{releases, capture_release, Releases}
use Rattle.input_events.specs.RouterErrors.{router_number_of}
use Rattle.counter.specs.declared.answer.Answer.{Answer}
use Rattle.counter.specs.declared.step.Counter.{Counter}
use Rattle.answer_text.proofs.DecimalLaws.{decimal_short}
use Rattle.answer_numbers.specs.Numbers.{Number, plain, signed, dumped_number, dump_digest}
use Rattle.registry_dump.specs.Registry.{registry_numbers}
use Rattle.router_dump.specs.Router.{router_numbers}
use Rattle.answer_columns.specs.Columns.{observed_pieces, delivery_pieces, key_pieces, release_pieces, capture_pieces, releases_column, number_pieces, column_pieces}
use Rattle.answer_columns.specs.Named.{named_pieces}
use Rattle.answer_columns.specs.Pieces.{none_pieces, cell_pieces, pair_pieces, triple_pieces, handle_pieces, optional_pieces, later_pieces, entry_pieces, list_pieces}
use Rattle.answer_line.specs.Line.{blank_pieces, head_pieces, plain_pieces, no_call_pieces, end_pieces}
use Rattle.answer_words.specs.Answers.{shown_numbers}
use Rattle.line_lengths.specs.Texts.{shown_pieces, dumped_pieces, more_pieces}

-- the bytes of pieces
abbrev pub size : List (List ℕ) → ℕ
size pieces = length (flatten pieces)

pub size_append : (a b : List (List ℕ)) → size (a ++ b) ≡ size a + size b
unfolding flatten
size_append [] b = omega arith
size_append (p ∷ a) b = simp length-append (omega (arith, size_append a b))

-- ---- entries with commas between: at most c bytes for each with its comma
module _ {E : Type 0} (text : E → List (List ℕ)) (c : ℕ) (h : (e : E) → 1 + size (text e) ≤ c) where
  later_size : (l : List E) → size (later_pieces text l) ≤ c * length l
  unfolding flatten later_pieces
  later_size [] = omega arith
  later_size (e ∷ l) = omega (arith, size_append (text e) (later_pieces text l), h e, later_size l)

  entry_size : (l : List E) → size (entry_pieces text l) ≤ c * length l
  unfolding flatten entry_pieces
  entry_size [] = omega arith
  entry_size (e ∷ l) = omega (arith, size_append (text e) (later_pieces text l), h e, later_size l)

  -- or `-`
  list_size : (l : List E) → size (list_pieces text l) ≤ 1 + c * length l
  unfolding flatten list_pieces
  list_size [] = omega arith
  list_size (e ∷ l) = omega (arith, entry_size (e ∷ l))

-- ---- numbers
number_size : (n : Number) → 1 + size (shown_pieces n) ≤ 22
unfolding flatten
number_size (plain n) = simp length-append (omega (arith, decimal_short n))
number_size (signed z) =
    by_test (lt_z z (pos 0))
    (λ t. rw t (simp length-append (omega (arith, decimal_short (nat_abs z)))))
    (λ t. rw t (simp length-append (omega (arith, decimal_short (nat_abs z)))))

dumped_size : (n : Number) → 1 + size (dumped_pieces n) ≤ 21
unfolding flatten
dumped_size n = simp length-append (omega (arith, decimal_short (dumped_number n)))

pub dump_size : (l : List Number) → size (entry_pieces dumped_pieces l) ≤ 21 * length l
dump_size l = entry_size dumped_pieces 21 dumped_size l

cell_size : (n : ℕ) → size (cell_pieces n) ≤ 21
unfolding flatten
cell_size n = simp length-append (omega (arith, decimal_short n))

pair_size : (m n : ℕ) → size (pair_pieces m n) ≤ 41
unfolding flatten
pair_size m n = simp length-append (omega (arith, decimal_short m, decimal_short n))

triple_size : (m n k : ℕ) → size (triple_pieces m n k) ≤ 62
unfolding flatten
triple_size m n k = simp length-append (omega (arith, decimal_short m, decimal_short n, decimal_short k))

optional_size : (o : Option GenerationalHandle) → size (optional_pieces o) ≤ 41
unfolding flatten
optional_size None = omega arith
optional_size (Some h) = pair_size h.index h.generation

-- ---- entries of columns 5 and 6
observed_size : (b : Bool) → size (observed_pieces b) ≤ 1
unfolding flatten
observed_size true = omega arith
observed_size false = omega arith

delivery_size : (d : InputDelivery) → 1 + size (delivery_pieces d) ≤ 43
delivery_size d =
    let both = size_append (handle_pieces d.surface) (observed_pieces d.observed) in
    omega (arith, both, pair_size d.surface.index d.surface.generation, observed_size d.observed)

key_size : (k : BindingKey) → size (key_pieces k) ≤ 63
unfolding flatten
key_size (Pointer p) = omega (arith, triple_size p.device p.device_generation p.contact)
key_size (Key k) = omega (arith, triple_size k.device.value k.device.generation k.physical_key)
key_size (Gamepad d) = omega (arith, pair_size d.value d.generation)

release_size : (e : Binding) → 1 + size (release_pieces e) ≤ 106
unfolding flatten
release_size e =
    let both = size_append (key_pieces e.key) ((64 ∷ []) ∷ handle_pieces e.surface) in
    omega (arith, both, key_size e.key, pair_size e.surface.index e.surface.generation)

capture_size : (c : Capture) → 1 + size (capture_pieces c) ≤ 106
capture_size c = release_size (capture_release c)

releases_size : (l : Releases) (held : CaptureList)
    → size (releases_column l held) ≤ 1 + 106 * length (entries_of releases l) + 106 * length (entries_of capture_list held)
unfolding releases_column
releases_size l held =
    by_test (eqb (length (entries_of capture_list held)) 0)
    (λ t. rw t (omega (arith, list_size release_pieces 106 release_size (entries_of releases l))))
    (λ t. rw t (omega (arith, list_size capture_pieces 106 capture_size (entries_of capture_list held))))

-- ---- columns 1 to 3, 1 to 6, 7 and 8
numbers_size : (calls number revision : ℕ) → size (number_pieces calls number revision) ≤ 63
numbers_size calls number revision =
    simp size_append (omega (arith, cell_size calls, cell_size number, cell_size revision))

pub columns_size : (calls revision : ℕ) (a : Answer)
    → size (column_pieces calls revision a)
    ≤ 108 + 43 * length (entries_of deliveries a.report.arbitration.deliveries)
    + 106 * length (entries_of releases a.report.synthesized_releases)
    + 106 * length (entries_of capture_list a.listed.captures)
unfolding column_pieces flatten
columns_size calls revision a =
    let got = a.report.arbitration in
    simp size_append
    (omega (
      arith,
      cell_size calls,
      cell_size (router_number_of a.outcome),
      cell_size revision,
      optional_size got.consumed_by,
      list_size delivery_pieces 43 delivery_size (entries_of deliveries got.deliveries),
      releases_size a.report.synthesized_releases a.listed.captures,
    ))

pub named_size : (h : Option GenerationalHandle) → size (named_pieces h) ≤ 43
unfolding flatten
named_size h = simp size_append (omega (arith, optional_size h))

pub more_size : (o : Option (List Number)) → size (more_pieces o) ≤ 1 + 22 * length (shown_numbers o)
unfolding flatten
more_size None = omega arith
more_size (Some l) = omega (arith, entry_size shown_pieces 22 number_size l)

-- ---- lines that show no answer of `step`, and the end of each line
pub head_size : (calls number revision : ℕ) → size (head_pieces calls number revision) ≤ 71
unfolding flatten
head_size calls number revision =
    omega (arith, size_append (number_pieces calls number revision) blank_pieces, numbers_size calls number revision)

pub plain_size : (calls number revision : ℕ) → size (plain_pieces calls number revision) ≤ 72
unfolding flatten
plain_size calls number revision =
    omega (arith, size_append (head_pieces calls number revision) none_pieces, head_size calls number revision)

pub no_call_size : (calls revision : ℕ) → size (no_call_pieces calls revision) ≤ 72
unfolding flatten
no_call_size calls revision = simp size_append (omega (arith, cell_size calls, cell_size revision))

-- two digests, each behind a space, and the line feed
pub end_size : (k : Counter) (shown : Bool) → size (end_pieces k shown) ≤ 43
unfolding flatten
end_size k true =
    let a = dump_digest (registry_numbers k.registry) in
    let b = dump_digest (router_numbers k.router) in
    simp length-append (omega (arith, decimal_short a, decimal_short b))
end_size k false = omega arith
