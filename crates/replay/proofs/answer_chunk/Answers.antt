-- `answer_chunk` meets its contract: after each turn the turns that are left lead where those of the whole chunk lead.
use Prim.Native.Nat.{ℕ, ◌-◌, ◌<◌}
use mathlib.Core.List.{List}
use mathlib.Core.Path.{◌≡◌, refl}
use native.Mathlib.Omega.{arith}
use lib.ListN.{length}
use borrow.Author.Rules.{rules}
use Rattle.line_input.specs.LineInput.{next_place}
use Rattle.line_input.proofs.InputLaws.{advances}
use Rattle.replay.proofs.LoopLaws.{leads_start, leads_turn, leads_done}
use Rattle.replay.proofs.answer_chunk.Goals as goal

-- the place after a line is further on
less_left : (chunk : List ℕ) (at next : ℕ) → at < length chunk → next ≡ next_place chunk at → length chunk - next < length chunk - at
less_left chunk at next h e = omega (arith, advances chunk at h)

pub loop-at-init : goal.loop-at-init
loop-at-init g c = (refl, (refl, leads_start _ _ _ _ _))

pub loop-at-smaller : goal.loop-at-smaller
loop-at-smaller g c = less_left _ _ _ c.loop-at-test.true c.next_answer-turn.ensures.next_value

pub loop-at-preserved : goal.loop-at-preserved
loop-at-preserved g c =
    let turn = c.next_answer-turn.ensures in
    (search rules, (search rules, leads_turn _ _ _ _ _ _ _ c.loop-at.invariant.1.1 _ _ _ _ _ _ c.loop-at-test.true turn.turn turn.next_value))

pub returns : goal.returns
returns g c = leads_done _ _ _ _ _ _ _ c.loop-at.invariant.1.1 c.loop-at-test.false
