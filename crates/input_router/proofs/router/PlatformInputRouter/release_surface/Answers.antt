-- A sound router lists the presses of the panel and keeps the others.
use Rattle.std.proofs.Common.{◌≡◌, true, sym, not, ap, ◌∙◌, rules}
use Rattle.lists.proofs.TableLaws.{entries_packed}
use Rattle.maps.specs.Bindings.{bindings}
use Rattle.release_lists.specs.Releases.{is_on}
use Rattle.input_router.specs.Damage.{is_router_sound}
use Rattle.input_router.specs.Releases.{release_surface}
use Rattle.input_router.proofs.router.PlatformInputRouter.release_surface.Goals as goal

pub returns : goal.returns
unfolding release_surface
returns c =
    let a = c.args in
    let sound : is_router_sound a.self ≡ true = search rules in
    let taken = c.retain.ensures (is_on a.surface) (search rules) in
    let left = c.retain-2.ensures (λ e. not (is_on a.surface e)) (search rules) in
    rw (sound, c.with_bindings.ensures, c.of_presses.ensures, left, taken, entries_packed bindings)
