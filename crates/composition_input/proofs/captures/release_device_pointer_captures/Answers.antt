-- `release_device_pointer_captures` meets its contract, by whether the list is empty.
use mathlib.Core.Path.{◌≡◌, sym, ap, ◌∙◌}
use borrow.Author.Tests.{eq-eqb, ne_eqb}
use lib.ListN.{length}
use Rattle.lists.proofs.TableLaws.{len_packed}
use Rattle.release_lists.specs.Captures.{CaptureList, capture_list}
use Rattle.composition_input.specs.Captures.{device_captures, release_device_pointer_captures}
use Rattle.composition_input.proofs.captures.release_device_pointer_captures.Goals as goal

pub returns-then-list-eq0 : goal.returns-then-list-eq0
unfolding release_device_pointer_captures
returns-then-list-eq0 c =
    let a = c.args in
    let captures = device_captures a.registry.views a.device a.device_generation in
    let counted = ap (λ (t : CaptureList). t.len) c.device_captures-list.ensures ∙ len_packed capture_list captures in
    c.with.ensures
    ∙ rw (c.device_captures-list.ensures, eq-eqb (length captures) 0 (sym counted ∙ c.if-list-eq0.true), c.device_refusal-refusal.ensures)

pub returns : goal.returns
unfolding release_device_pointer_captures
returns c =
    let a = c.args in
    let captures = device_captures a.registry.views a.device a.device_generation in
    let counted = ap (λ (t : CaptureList). t.len) c.device_captures-list.ensures ∙ len_packed capture_list captures in
    c.with-2.ensures
    ∙ rw (c.device_captures-list.ensures, ne_eqb (length captures) 0 (λ h. c.if-list-eq0.false (counted ∙ h)), c.settle.ensures, c.with_views.ensures, c.device_cleared-cleared.ensures, c.device_refusal-refusal.ensures)
