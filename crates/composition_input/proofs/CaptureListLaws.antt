-- A list of captures gathered from maps of captures: each map is copied entry by entry after what the list holds, and each has at most 32.
use Prim.Native.Nat.{ℕ, ◌+◌, ◌*◌, ◌≤◌}
use mathlib.Core.Path.{◌≡◌, ◌∙◌}
use mathlib.Core.List.{List, [], ◌++◌}
use Rattle.std.specs.List.{fold}
use native.Mathlib.Omega.{arith}
use borrow.Author.Tests.{ltb-true}
use lib.Dec.{ltb}
use lib.ListN.{length, length-append}
use Rattle.lists.specs.Below.{iter_below}
use Rattle.lists.specs.Tables.{entries_of, packed, pushed_within}
use Rattle.lists.proofs.BelowLaws.{iter_more}
use Rattle.lists.proofs.ListLaws.{by_test}
use Rattle.lists.proofs.TableLaws.{entries_packed, all_within}
use Rattle.maps.specs.Captures.{captures, PointerCaptures}
use Rattle.maps.specs.declared.captures.Capture.{Capture}
use Rattle.records.specs.Views.{ViewTable, view_slots}
use Rattle.release_lists.specs.Captures.{CaptureList, capture_list}

-- ---- what the maps of the slots below n hold, slot by slot
abbrev pub gathered : (ℕ → List Capture) → ℕ → List Capture
gathered f n = iter_below (λ i l. l ++ f i) n []

module _ (f : ℕ → List Capture) (i : ℕ) where
  pub gathered_more : gathered f (i + 1) ≡ gathered f i ++ f i
  gathered_more = iter_more (λ i l. l ++ f i) i []

  pub gathered_fits : length (gathered f i) ≤ i * 32 → length (f i) ≤ 32 → length (gathered f (i + 1)) ≤ (i + 1) * 32
  gathered_fits h k = rw gathered_more (simp length-append (omega arith))

  pub gathered_turn : (list next : CaptureList) (m : PointerCaptures) → list ≡ packed capture_list (gathered f i) → m ≡ packed captures (f i)
      → length (gathered f i) + length (f i) ≤ 512
      → next ≡ fold (pushed_within capture_list) list (entries_of captures m) → next ≡ packed capture_list (gathered f (i + 1))
  gathered_turn list next m a b room e =
      e ∙ rw (a, b, entries_packed captures (f i), all_within capture_list (gathered f i) (f i) room, gathered_more)

pub slots_few : (t : ViewTable) → view_slots t ≤ 16
slots_few t = by_test (ltb t.arena.used 16)
    (λ h. let k : t.arena.used ≤ 16 = omega (arith, ltb-true t.arena.used 16 h) in rw h k)
    (λ h. let k : 16 ≤ 16 = omega arith in rw h k)
