-- What the damage test has shown of the limits and the slot tables, read off its parts.
use Prim.Native.Nat.{ℕ, ◌≤◌}
use mathlib.Core.Path.{◌≡◌, refl}
use mathlib.Core.Bool.{Bool, true, false, ◌||◌}
use native.Mathlib.Omega.{arith}
use borrow.Author.Tests.{ltb-false, not-true}
use lib.Dec.{eqb, ltb}
use Rattle.lists.proofs.ListLaws.{and_left, and_right, clash}
use Rattle.handles.specs.WellFormed.{well_formed}
use Rattle.handles.specs.declared.arena.Arena.{Arena}
use Rattle.handles.proofs.SoundLaws.{sound}
use Rattle.composition_state.specs.declared.registry.CompositionLimits.{CompositionLimits}
use Rattle.composition_state.specs.Start.{any_zero, any_over_port}
use Rattle.composition_state.specs.Damage.{limits_sound, arenas_sound}

pub or_left : (a b : Bool) → (a || b) ≡ false → a ≡ false
or_left true b h = h
or_left false b h = refl

pub or_right : (a b : Bool) → (a || b) ≡ false → b ≡ false
or_right true b h = clash refl h
or_right false b h = h

-- the limit of the views is the port's
few_views : (l : CompositionLimits) (generation : ℕ) → limits_sound l generation ≡ true → l.max_views ≤ 16
few_views l generation h =
    let over = or_left (any_over_port l) _ (or_right (any_zero l) _ (not-true (any_zero l || (any_over_port l || eqb generation 0)) h)) in
    ltb-false 16 l.max_views (or_left (ltb 16 l.max_views) _ (or_right (ltb 8 l.max_windows) _ over))

pub views_within : (l : CompositionLimits) (generation : ℕ) (windows views surfaces : Arena) → limits_sound l generation ≡ true → arenas_sound l windows views surfaces ≡ true → views.used ≤ 16
unfolding arenas_sound
views_within l generation windows views surfaces k h =
    let rest = and_right (well_formed windows l.max_windows) _ h in
    let within = (sound views l.max_views (and_left (well_formed views l.max_views) _ rest)).within_limit.used in
    omega (arith, few_views l generation k)
