-- The copy of the traces that stay: those from one place on and before another, one more a turn.
use Prim.Native.Nat.{ℕ, ◌+◌, ◌-◌, ◌≤◌, ◌<◌}
use mathlib.Core.Path.{◌≡◌, sym, ap, ◌∙◌}
use mathlib.Core.Bool.{false}
use mathlib.Core.List.{List, [], ◌∷◌}
use native.Mathlib.Numerals.{add-one}
use native.Mathlib.Omega.{arith}
use borrow.Author.Tests.{ltb-true, eqb-false}
use lib.ListN.{length, take, drop, get_or, length-append, length-take, length-drop}
use lib.Seq.{take-suc, take-length, drop-append-le}
use lib.Dec.{eqb, ltb}
use Rattle.lists.specs.Tables.{entries_of, packed, pushed}
use Rattle.lists.proofs.ListLaws.{by_test}
use Rattle.lists.proofs.TableLaws.{push_packed}
use Rattle.records.specs.declared.trace.CompositionTrace.{CompositionTrace}
use Rattle.records.specs.Traces.{Traces, traces}
use Rattle.composition_arbitration.specs.Trace.{kept_traces, traced}

-- at least the new trace and at most 32 stay
pub some_kept : (limit : ℕ) → 1 ≤ kept_traces limit
some_kept limit = by_test (eqb limit 0) (λ t. simp t (omega arith)) (λ t. by_test (ltb limit 32) (λ u. simp (t, u) (above limit t)) (λ u. simp (t, u) (omega arith)))
  where
    above : (n : ℕ) → eqb n 0 ≡ false → 1 ≤ n
    above n h = omega (arith, eqb-false n 0 h)

pub few_kept : (limit : ℕ) → kept_traces limit ≤ 32
few_kept limit = by_test (eqb limit 0) (λ t. simp t (omega arith))
    (λ t. by_test (ltb limit 32) (λ u. simp (t, u) (omega (arith, ltb-true limit 32 u))) (λ u. simp (t, u) (omega arith)))

-- ---- the traces that stay are stored one after the other
pub few_stay : (l : List CompositionTrace) (limit from : ℕ) → length l ≤ 32 → from ≡ (length l + 1) - kept_traces limit
    → length (take (length l - from) (drop from l)) ≤ 31
few_stay l limit from h e = simp (length-take, length-drop) (omega (arith, some_kept limit, few_kept limit))

pub turn : (l : List CompositionTrace) (i : ℕ) (d : CompositionTrace) → i < length l → length l ≤ 31
    → pushed traces (packed traces (take i l)) (get_or l i d) ≡ packed traces (take (i + 1) l)
turn l i d within few = push_packed traces (take i l) _ (simp length-take (omega arith)) ∙ ap (packed traces) (rw (add-one, take-suc l i d within))

stay : (l : List CompositionTrace) (from : ℕ) → take (length l - from) (drop from l) ≡ drop from l
stay l from = rw (sym (length-drop from l)) (take-length (drop from l))

pub done : (limit : ℕ) (t : Traces) (l : List CompositionTrace) (from : ℕ) (trace : CompositionTrace) → l ≡ entries_of traces t
    → from ≡ (length l + 1) - kept_traces limit → pushed traces (packed traces (take (length l - from) (drop from l))) trace ≡ traced limit t trace
unfolding traced
done limit t l from trace e f =
    let within : from ≤ length l = omega (arith, some_kept limit) in
    let room : length (drop from l) < 32 = simp length-drop (omega (arith, few_kept limit)) in
    rw (stay l from, ← e, length-append l (trace ∷ []), ← f, drop-append-le from l (trace ∷ []) within) (push_packed traces (drop from l) trace room)
