-- The claims about the hit test, by the laws of keep and reverse and by the buffer's definition.
use mathlib.Core.Path.{ap, ◌∙◌}
use mathlib.Core.List.{List, reverse, reverse-reverse}
use Rattle.lists.specs.Lists.{keep}
use Rattle.lists.proofs.ListLaws.{keep_reverse}
use Rattle.view_panels.specs.Panels.{Panel, handles_of}
use Rattle.view_panels.proofs.PanelLaws.{handles_reverse}
use Rattle.composition_hits.specs.Buffer.{written}
use Rattle.composition_hits.specs.HitTest.{is_panel_hit, hits_among, hit_numbers, buffer_after}
use Rattle.composition_hits.specs.Claims.{HitClaims}

pub claims : HitClaims
unfolding hits_among buffer_after hit_numbers written
claims = record {
  layer_order = λ p l.
      let kept = keep (is_panel_hit p) l in
      ap (λ (x : List Panel). reverse (handles_of x)) (keep_reverse (is_panel_hit p) l) ∙ ap reverse (handles_reverse kept) ∙ reverse-reverse (handles_of kept);
  refused = λ r view p old e h. rw h;
  accepted = λ r view p old h. rw h;
}
