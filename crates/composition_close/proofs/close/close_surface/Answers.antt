-- The settled change with its report.
use Rattle.std.specs.Prelude.{Ok}
use Rattle.std.proofs.Common.{◌≡◌, sym, ◌∙◌, rules}
use Rattle.composition_close.specs.Close.{close_refusal, close_settled, close_surface}
use Rattle.composition_close.proofs.close.close_surface.Goals as goal

pub returns : goal.returns
unfolding close_surface close_settled
returns c =
    let a = c.args in
    let checked : close_refusal a.registry a.surface ≡ Ok tt = sym c.close_refusal.ensures ∙ c.in_default.is in
    let changed_is : c.settle-changed.result ≡ close_settled a.registry a.surface = rw (c.settle-changed.ensures, c.free_slot.ensures, c.detach-left.ensures, c.refuse_exhausted.ensures, c.release-release.ensures) in
    rw (checked, c.with.ensures, c.close_report.ensures, changed_is)
