-- `route` meets its contract, by the checks and the payload.
use mathlib.Core.Path.{◌≡◌, sym, ◌∙◌}
use Rattle.input_route.proofs.RouteLaws.{checked, sound, refused, disconnected, lost, goes}
use Rattle.input_route.proofs.route.route.Goals as goal

pub returns-in-Err : goal.returns-in-Err
returns-in-Err c =
    let a = c.args in
    let is : c.route_refusal.result ≡ checked a.registry a.router a.event = c.route_refusal.ensures ∙ rw c.is_sound.ensures in
    c.refused.ensures ∙ sym (refused a.registry a.router a.event _ (sym is ∙ c.in-Err.is))

pub returns-then-is_disconnect : goal.returns-then-is_disconnect
returns-then-is_disconnect c =
    let a = c.args in
    let is : c.route_refusal.result ≡ checked a.registry a.router a.event = c.route_refusal.ensures ∙ rw c.is_sound.ensures in
    let passed = sym is ∙ c.in_default.is in
    let gone = sym c.is_disconnect.ensures ∙ c.if-is_disconnect.true in
    c.route_disconnect.ensures ∙ rw c.record_event-recorded.ensures (sym (disconnected a.registry a.router a.event passed gone))

pub returns-then-is_loss : goal.returns-then-is_loss
returns-then-is_loss c =
    let a = c.args in
    let is : c.route_refusal.result ≡ checked a.registry a.router a.event = c.route_refusal.ensures ∙ rw c.is_sound.ensures in
    let passed = sym is ∙ c.in_default.is in
    let kept = sym c.is_disconnect.ensures ∙ c.if-is_disconnect.false in
    let loses = sym c.is_loss.ensures ∙ c.if-is_loss.true in
    c.route_loss.ensures ∙ rw c.record_event-recorded.ensures (sym (lost a.registry a.router a.event passed kept loses))

pub returns : goal.returns
returns c =
    let a = c.args in
    let is : c.route_refusal.result ≡ checked a.registry a.router a.event = c.route_refusal.ensures ∙ rw c.is_sound.ensures in
    let passed = sym is ∙ c.in_default.is in
    let kept = sym c.is_disconnect.ensures ∙ c.if-is_disconnect.false in
    let stays = sym c.is_loss.ensures ∙ c.if-is_loss.false in
    c.route_arbitrated.ensures ∙ rw c.record_event-recorded.ensures (sym (goes a.registry a.router a.event passed kept stays))
