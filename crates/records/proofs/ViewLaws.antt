-- The used slots of the view table are at most 16, by the test that cuts them.
use Prim.Native.Nat.{◌≤◌}
use native.Mathlib.Omega.{arith}
use borrow.Author.Tests.{ltb-true}
use lib.Dec.{ltb}
use Rattle.lists.proofs.ListLaws.{by_test}
use Rattle.records.specs.Views.{ViewTable, view_slots}

pub few_slots : (t : ViewTable) → view_slots t ≤ 16
few_slots t = by_test (ltb t.arena.used 16)
    (λ h. simp h (omega (arith, ltb-true t.arena.used 16 h)))
    (λ h. simp h (omega arith))
