-- After i turns the first i slots have passed.
use Rattle.std.proofs.Common.{◌∙◌, sym, refl, rules}
use Rattle.lists.proofs.BelowLaws.{all_none, all_next, all_fails}
use Rattle.lists.proofs.ListLaws.{get_within}
use Rattle.composition_state.specs.Damage.{slot_sound, views_sound}
use Rattle.composition_state.proofs.damage.are_views_sound.Goals as goal

pub loop-i-init : goal.loop-i-init
loop-i-init c = all_none _

pub returns-then-not-is_slot_sound : goal.returns-then-not-is_slot_sound
unfolding views_sound
returns-then-not-is_slot_sound c =
    let a = c.args in
    sym (all_fails (slot_sound a.windows a.surfaces.now a.limit a.views.now) a.views.now.arena.used c.loop-i.i c.loop-i-test.true (search rules))

pub loop-i-preserved : goal.loop-i-preserved
loop-i-preserved c =
    let a = c.args in
    all_next (slot_sound a.windows a.surfaces.now a.limit a.views.now) c.loop-i.i c.loop-i.invariant (search rules)
