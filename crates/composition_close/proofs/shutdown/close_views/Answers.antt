-- After i turns the views of the first i slots are closed.
use Rattle.std.proofs.Common.{◌≡◌, ◌≤◌, sym, ap, ◌∙◌, [], arith}
use Rattle.lists.proofs.BelowLaws.{iter_none, iter_more}
use Rattle.lists.proofs.TableLaws.{len_packed}
use Rattle.records.proofs.ViewLaws.{few_slots}
use Rattle.composition_close.specs.Reports.{CloseReports, close_reports}
use Rattle.composition_close.proofs.shutdown.close_views.Goals as goal

pub loop-i-init : goal.loop-i-init
loop-i-init c = (omega (arith, ap (λ (t : CloseReports). t.len) c.new.ensures ∙ len_packed close_reports []), sym (iter_none _ _))

pub loop-i-preserved : goal.loop-i-preserved
loop-i-preserved c =
    let l = c.loop-i in
    let more = c.close_view_at-work.ensures.1 in
    (omega (arith, more, l.invariant.0), c.close_view_at-work.ensures.0 ∙ rw l.invariant.1 (sym (iter_more _ l.i _)))
