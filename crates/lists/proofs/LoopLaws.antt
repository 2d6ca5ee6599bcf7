-- The turns of the loops over a table of any shape: a search, a test of all entries, the test that the keys rise, and an insertion in order.
use Prim.Native.Nat.{ℕ, ◌+◌, ◌≤◌, ◌<◌}
use mathlib.Core.Path.{◌≡◌, sym, ap, ◌∙◌}
use mathlib.Core.Bool.{Bool, true, false, ◌&&◌}
use mathlib.Core.List.{List, [], ◌∷◌, ◌++◌, append_assoc}
use Rattle.std.specs.Prelude.{None, Some}
use native.Mathlib.Omega.{arith}
use lib.ListN.{length, take, drop, get_or, length-append}
use lib.Seq.{take-length, drop-length}
use Rattle.lists.specs.Lists.{keep, first, all}
use Rattle.lists.specs.Tables.{Shape, entries_of, packed, pushed}
use Rattle.lists.specs.Maps.{insert, rising}
use Rattle.lists.proofs.ListLaws.{first_here, first_next, all_take}
use Rattle.lists.proofs.TableLaws.{entry, entries_packed, len_packed, push_packed}
use Rattle.lists.proofs.RisingLaws.{rising_next, rising_end}

module _ {E T : Type 0} (s : Shape E T) (t : T) where
  module _ (p : E → Bool) where
    -- ---- a search: what is left at place i answers as the whole
    abbrev pub Searched : ℕ → Type 0
    Searched i = first p (entries_of s t) ≡ first p (drop i (entries_of s t))

    -- ---- a test of all: after i turns the answer is that of the first i entries
    abbrev pub Tested : ℕ → Bool → Type 0
    Tested i ok = ok ≡ all p (take i (entries_of s t))

    module _ (i : ℕ) (d : E) (within : i < length (entries_of s t)) where
      test : {b : Bool} → p (get_or (s.all t) i d) ≡ b → p (get_or (entries_of s t) i d) ≡ b
      test h = ap p (entry s t i d within) ∙ h

      pub search_here : Searched i → p (get_or (s.all t) i d) ≡ true → first p (entries_of s t) ≡ Some (get_or (s.all t) i d)
      search_here inv h = inv ∙ first_here p (entries_of s t) i d within (test h) ∙ ap Some (entry s t i d within)

      pub search_next : Searched i → p (get_or (s.all t) i d) ≡ false → Searched (i + 1)
      search_next inv h = inv ∙ first_next p (entries_of s t) i d within (test h)

      pub test_next : {ok next : Bool} → Tested i ok → next ≡ (ok && p (get_or (s.all t) i d)) → Tested (i + 1) next
      test_next inv e = e ∙ rw (inv, ← entry s t i d within) (sym (all_take p (entries_of s t) i d within))

    pub search_end : (i : ℕ) → Searched i → i ≡ length (entries_of s t) → first p (entries_of s t) ≡ None
    search_end i inv e = rw (inv, e, drop-length)

    pub test_end : (i : ℕ) {ok : Bool} → Tested i ok → i ≡ length (entries_of s t) → ok ≡ all p (entries_of s t)
    test_end i inv e = inv ∙ rw (e, take-length)

  module _ {K : Type 0} (key : E → K) (lt : K → K → Bool) where
    -- ---- the test that the keys rise: what is left at place i rises exactly if the whole does
    abbrev pub Compared : ℕ → Type 0
    Compared i = rising key lt (entries_of s t) ≡ rising key lt (drop i (entries_of s t))

    module _ (i : ℕ) (d : E) (within : i + 1 < length (entries_of s t)) where
      pub rising_fails : Compared i → lt (key (get_or (s.all t) i d)) (key (get_or (s.all t) (i + 1) d)) ≡ false → rising key lt (entries_of s t) ≡ false
      rising_fails inv h =
          let low = entry s t i d (omega arith) in
          let high = entry s t (i + 1) d within in
          rw (inv, rising_next key lt (entries_of s t) i d within, low, high, h)

      pub rising_on : Compared i → lt (key (get_or (s.all t) i d)) (key (get_or (s.all t) (i + 1) d)) ≡ true → Compared (i + 1)
      rising_on inv h =
          let low = entry s t i d (omega arith) in
          let high = entry s t (i + 1) d within in
          inv ∙ rw (rising_next key lt (entries_of s t) i d within, low, high, h)

    pub rising_stop : (i : ℕ) → Compared i → length (entries_of s t) ≤ i + 1 → rising key lt (entries_of s t) ≡ true
    rising_stop i inv h = inv ∙ rising_end key lt (entries_of s t) i h

    -- ---- an insertion: the entries below the key, the entry, and the entries above the key
    module _ (e : E) where
      abbrev pub lower : List E
      lower = keep (λ f. lt (key f) (key e)) (entries_of s t)

      abbrev pub upper : List E
      upper = keep (λ f. lt (key e) (key f)) (entries_of s t)

      module _ (fits : length (insert key lt e (entries_of s t)) ≤ s.size) where
        pub push_room : (low : T) → low ≡ packed s lower → s.len low < s.size
        push_room low h = omega (arith, ap s.len h ∙ len_packed s lower, simp length-append at fits)

        pub pushed_is : (low : T) → low ≡ packed s lower → pushed s low e ≡ packed s (lower ++ (e ∷ []))
        pushed_is low h = ap (λ (x : T). pushed s x e) h ∙ push_packed s lower e (omega (arith, simp length-append at fits))

        pub extend_room : (mid : T) → mid ≡ packed s (lower ++ (e ∷ [])) → (mid ≡ packed s (entries_of s mid)) × (length (entries_of s mid) + length upper ≤ s.size)
        extend_room mid h =
            let l : entries_of s mid ≡ lower ++ (e ∷ []) = ap (entries_of s) h ∙ entries_packed s _ in
            (h ∙ ap (packed s) (sym l), simp (l, length-append) (omega (arith, simp length-append at fits)))

      pub extended_is : (mid : T) → mid ≡ packed s (lower ++ (e ∷ [])) → packed s (entries_of s mid ++ upper) ≡ packed s (insert key lt e (entries_of s t))
      extended_is mid h =
          let l : entries_of s mid ≡ lower ++ (e ∷ []) = ap (entries_of s) h ∙ entries_packed s _ in
          rw (l, append_assoc)
