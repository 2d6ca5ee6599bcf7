-- What room for an allocation means: each part read off the test.
use Prim.Native.Nat.{ℕ, ◌≤◌, ◌<◌}
use mathlib.Core.Path.{◌≡◌}
use mathlib.Core.Bool.{true, ◌&&◌, ◌||◌}
use lib.Dec.{ltb, leb}
use borrow.Author.Tests.{ltb-true, le-ltb}
use Rattle.lists.proofs.ListLaws.{and_left, and_right}
use Rattle.handles.specs.Slots.{has_room}

module _ (used freed live : ℕ) (room : has_room used freed live ≡ true) where
  -- past the counts of used and of freed slots
  rest : (ltb live 64 && (ltb 0 freed || ltb used 64)) ≡ true
  unfolding has_room
  rest = and_right (leb freed 64) _ (and_right (leb used 64) _ room)

  pub live_below : live < 64
  live_below = ltb-true _ _ (and_left _ _ rest)

  pub used_below : freed ≤ 0 → used < 64
  used_below none = ltb-true _ _ (simp (le-ltb 0 freed none) at (and_right (ltb live 64) _ rest))

pub ruleset room = (live_below, used_below)
