-- `push_trace` meets its contract: the table holds the traces gone over.
use Prim.Native.Nat.{◌≤◌}
use mathlib.Core.Path.{◌≡◌}
use lib.ListN.{length, take}
use Rattle.lists.specs.Tables.{packed}
use Rattle.records.specs.Traces.{traces}
use Rattle.composition_arbitration.proofs.trace.push_trace.Given as goal

abbrev pub invariant-loop-old : goal.invariant-loop-old
invariant-loop-old l = (length l.old-items ≤ 31) × (l.next.len ≤ l.old-index) × (l.next ≡ packed traces (take l.old-index l.old-items))
