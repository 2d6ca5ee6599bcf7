-- The shutdown's loops: over the layers from the top; over the slots, whose count is cut at the table.
use Prim.Native.Nat.{ℕ, suc, ◌+◌, ◌≤◌, ◌<◌}
use mathlib.Core.Path.{◌≡◌, refl, sym, ap, ◌∙◌}
use mathlib.Core.List.{List, [], ◌∷◌, ◌++◌, reverse, reverse-append}
use native.Mathlib.Omega.{arith}
use borrow.Author.Tests.{ltb-true}
use lib.Dec.{ltb}
use lib.ListN.{get_or, length}
use Rattle.lists.specs.Tables.{Shape, entries_of, pushed}
use Rattle.lists.proofs.ListLaws.{by_test}
use Rattle.handles.specs.Slots.{used_places}
use Rattle.handles.specs.declared.arena.Arena.{Arena}
use Rattle.handles.specs.declared.GenerationalHandle.{GenerationalHandle}
use Rattle.composition_close.specs.declared.shutdown.Closing.{Closing}
use Rattle.composition_close.specs.Shutdown.{layer_closed, layers_closed}

pub few_places : (a : Arena) → used_places a ≤ 64
few_places a = by_test (ltb a.used 64)
    (λ h. let k : a.used ≤ 64 = omega (arith, ltb-true a.used 64 h) in rw h k)
    (λ h. let k : 64 ≤ 64 = omega arith in rw h k)

-- a close puts one report more
pub closed_count : (h : GenerationalHandle) (w next : Closing) → next ≡ layer_closed h w → next.reports.len ≡ w.reports.len + 1
unfolding layer_closed pushed
closed_count h w next e = ap (λ (x : Closing). x.reports.len) e

-- the topmost of the layers is closed, and those below it are left
pub closed_top : (rest below : List GenerationalHandle) (h : GenerationalHandle) (done next : Closing) → rest ≡ below ++ (h ∷ [])
    → next ≡ layer_closed h done → layers_closed (reverse rest) done ≡ layers_closed (reverse below) next
unfolding layers_closed
closed_top rest below h done next e q = rw (e, reverse-append below (h ∷ []), q)

pub closed_none : (rest : List GenerationalHandle) (done : Closing) → length rest ≡ 0 → layers_closed (reverse rest) done ≡ done
unfolding layers_closed
closed_none [] done e = refl
closed_none (h ∷ rest) done e = absurd (omega (arith, e))
