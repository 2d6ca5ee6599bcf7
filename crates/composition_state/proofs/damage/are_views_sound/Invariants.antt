-- After i turns the first i slots have passed.
use Rattle.std.proofs.Common.{◌≡◌, true}
use Rattle.lists.specs.Below.{all_below}
use Rattle.composition_state.specs.Damage.{slot_sound}
use Rattle.composition_state.proofs.damage.are_views_sound.Given as goal

abbrev pub invariant-loop-i : goal.invariant-loop-i
invariant-loop-i l = all_below (slot_sound l.windows l.surfaces l.limit l.views) l.i ≡ true
