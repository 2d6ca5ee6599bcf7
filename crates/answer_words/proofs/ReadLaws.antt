-- Words are read back from their bytes, and releases from words: what stands before them is passed over by its length.
use Rattle.handles.specs.declared.GenerationalHandle.{GenerationalHandle}
use Rattle.std.specs.Prelude.{Option, None, Some}
use Prim.Native.Nat.{ℕ, zero, suc, ◌*◌, ◌/◌, ◌^◌, ◌<◌}
use mathlib.Core.List.{List, [], ◌∷◌, ◌++◌, append_assoc, flatten, map}
use mathlib.Core.Path.{◌≡◌, refl, ap, ◌∙◌}
use native.Mathlib.Nat.{div-add-mod', div-lt_iff_lt-mul}
use native.Mathlib.Omega.{arith}
use lib.ListN.{length, drop, length-map}
use lib.Seq.{drop_at}
use Rattle.lists.specs.Tables.{entries_of}
use Rattle.lists.proofs.ListLaws.{map_append}
use Rattle.maps.specs.Keys.{binding_key}
use Rattle.maps.specs.declared.bindings.Binding.{Binding}
use Rattle.maps.specs.declared.keys.BindingKey.{BindingKey}
use Rattle.maps.specs.declared.keys.BindingKey.TheVariants.{Pointer, Key, Gamepad}
use Rattle.records.specs.Traces.{deliveries, Deliveries}
use Rattle.records.specs.declared.trace.InputDelivery.{InputDelivery}
use Rattle.release_lists.specs.Releases.{Releases, releases}
use Rattle.input_events.specs.RouterErrors.{router_number_of}
use Rattle.calls.specs.declared.call.Call.{Call}
use Rattle.counter.specs.declared.answer.Answer.{Answer}
use Rattle.counter.specs.declared.step.Counter.{Counter}
use Rattle.answer_numbers.specs.Groups.{optional_numbers}
use Rattle.answer_numbers.specs.Numbers.{Number, plain, dumped_number, each, list_numbers, low_bytes}
use Rattle.answer_numbers.specs.Traces.{delivery_numbers, deliveries_numbers}
use Rattle.answer_more.specs.More.{more_of}
use Rattle.answer_columns.specs.Named.{handle_for}
use Rattle.answer_words.specs.Answers.{release_numbers, releases_numbers, captures_numbers, shown_numbers, answer_words, bytes_of}
use Rattle.answer_words.specs.Lengths.{All}
use Rattle.answer_words.specs.Read.{number_read, words_read, key_read, releases_in, releases_from, releases_read}
use Rattle.answer_words.proofs.EntryLaws.{each_long}

-- a number below 256 ^ k is read back from its k bytes
bytes_back : (k n : ℕ) → n < 256 ^ k → number_read (low_bytes k n) ≡ n
unfolding low_bytes
bytes_back zero n h = omega arith
bytes_back (suc k) n h =
    let less : n / 256 < 256 ^ k = (div-lt_iff_lt-mul {k = 256} {x = n} {y = 256 ^ k} (omega arith)).1 (omega arith) in
    omega (arith, div-add-mod' n 256, bytes_back k (n / 256) less)

pub words_back : (l rest : List ℕ) → All (λ n. n < 18446744073709551616) l
    → words_read (length l) (bytes_of l ++ rest) ≡ l
unfolding words_read bytes_of flatten low_bytes
words_back [] rest x = refl
words_back (n ∷ l) rest x = λ i. bytes_back 8 n x.0 i ∷ words_back l rest x.1 i

-- a key is read back from its numbers
key_back : (k : BindingKey)
    → key_read (binding_key k).kind (binding_key k).device (binding_key k).generation (binding_key k).code ≡ k
key_back (Pointer p) = refl
key_back (Key k) = refl
key_back (Gamepad d) = refl

releases_back : (l : List Binding) (more : List ℕ)
    → releases_in (length l) (map dumped_number (each release_numbers l) ++ more) ≡ l
unfolding releases_in each
releases_back [] more = refl
releases_back (e ∷ l) more = λ i. record { key = key_back e.key i; surface = e.surface } ∷ releases_back l more i

-- what stands behind the numbers of deliveries, three each
behind : (l : List InputDelivery) (more : List Number)
    → drop (3 * length l) (map dumped_number (each delivery_numbers l ++ more)) ≡ map dumped_number more
behind l more =
    ap (drop (3 * length l)) (map_append dumped_number (each delivery_numbers l) more)
    ∙ drop_at (map dumped_number (each delivery_numbers l)) (map dumped_number more) (3 * length l)
    (length-map (each delivery_numbers l) dumped_number ∙ each_long delivery_numbers 3 (λ e. refl) l)

-- the releases behind five words and deliveries
module _ (d : List InputDelivery) (l : List Binding) (more : List Number) where
  abbrev listed : List Number
  listed = list_numbers release_numbers l ++ more

  from_there : releases_from (drop (3 * length d) (map dumped_number (each delivery_numbers d ++ listed))) ≡ l
  from_there =
      ap releases_from (behind d listed)
      ∙ ap (releases_in (length l)) (map_append dumped_number (each release_numbers l) more)
      ∙ releases_back l (map dumped_number more)

module _ (n r : ℕ) (d : Deliveries) (l : Releases) where
  -- an answer's numbers up to its releases, and others behind them
  abbrev numbers : Option GenerationalHandle → List Number → List Number
  numbers o more =
      plain n ∷ plain r ∷ ((optional_numbers o ++ deliveries_numbers d) ++ (releases_numbers l ++ more))

  read : (o : Option GenerationalHandle) (more : List Number)
      → releases_read (map dumped_number (numbers o more)) ≡ entries_of releases l
  unfolding releases_read
  read None more = from_there (entries_of deliveries d) (entries_of releases l) more
  read (Some h) more = from_there (entries_of deliveries d) (entries_of releases l) more

  -- whatever stands behind the releases, among the answer's own numbers and behind them
  behind_too : (o : Option GenerationalHandle) (rest more : List Number)
      → releases_read (map dumped_number (numbers o rest ++ more)) ≡ entries_of releases l
  behind_too o rest more =
      let front = optional_numbers o ++ deliveries_numbers d in
      let listed = releases_numbers l in
      ap (λ (x : List Number). releases_read (map dumped_number (plain n ∷ plain r ∷ x)))
      (append_assoc front (listed ++ rest) more ∙ ap (λ (x : List Number). front ++ x) (append_assoc listed rest more))
      ∙ read o (rest ++ more)

pub read_back : (call : Call) (a : Answer) (k : Counter)
    → releases_read (answer_words call a k) ≡ entries_of releases a.report.synthesized_releases
unfolding answer_words
read_back call a k =
    let x = a.report in
    let y = x.arbitration in
    behind_too (router_number_of a.outcome) k.registry.revision y.deliveries x.synthesized_releases
    y.consumed_by
    (captures_numbers a.listed.captures ++ optional_numbers (handle_for call a))
    (shown_numbers (more_of call a k))
