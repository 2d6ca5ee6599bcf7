-- `own_view_refusal` meets its contract: the listed panels are the live ones.
use mathlib.Core.Path.{sym, ◌∙◌}
use Rattle.composition_shortcuts.specs.OwnView.{own_view_refusal}
use Rattle.composition_shortcuts.proofs.LivePanelLaws.{panels_are}
use Rattle.composition_shortcuts.proofs.own_view.own_view_refusal.Goals as goal

pub returns-in-Some : goal.returns-in-Some
unfolding own_view_refusal
returns-in-Some c =
    let a = c.args in
    let h = c.live_handles-panels in
    c.own_refusal.ensures ∙ rw (sym (panels_are a.surfaces.arena h.result h.ensures), sym c.entries.ensures, sym c.in-Some.ensures)

pub returns-in-None : goal.returns-in-None
unfolding own_view_refusal
returns-in-None c =
    let a = c.args in
    let h = c.live_handles-panels in
    rw (sym (panels_are a.surfaces.arena h.result h.ensures), sym c.entries.ensures, sym c.in-None.ensures)
