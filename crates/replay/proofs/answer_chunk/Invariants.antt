-- `answer_chunk` meets its contract: after each turn the turns that are left lead where those of the whole chunk lead.
use Prim.Native.Nat.{◌-◌}
use mathlib.Core.List.{[]}
use mathlib.Core.Path.{◌≡◌}
use lib.ListN.{length}
use Rattle.replay.specs.Turns.{serving_of}
use Rattle.replay.proofs.LoopLaws.{Leads}
use Rattle.replay.proofs.answer_chunk.Given as goal

abbrev pub invariant-loop-at : goal.invariant-loop-at
invariant-loop-at g l = (length l.line ≡ length l.initial.line) × ((length l.out ≡ length l.initial.out) × Leads (serving_of l.initial.session l.initial.line l.initial.len l.initial.out []) l.chunk l.session l.line l.len l.out l.at)

abbrev pub decreases-loop-at : goal.decreases-loop-at
decreases-loop-at g l = length l.chunk - l.at
