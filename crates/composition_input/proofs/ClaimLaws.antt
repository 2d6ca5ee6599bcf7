-- The claims hold of every call, since each settles a change of the views alone, which keeps the revision.
use Rattle.records.specs.Errors.{Outcome}
use Rattle.std.specs.Prelude.{None, Some, Ok}
use mathlib.Core.Path.{◌≡◌, refl, sym, ap, ◌∙◌}
use mathlib.Core.Bool.{cond}
use mathlib.Core.List.{List, []}
use borrow.Author.Tests.{eqb-true, eqb-false}
use lib.Dec.{eqb}
use lib.ListN.{length}
use Rattle.lists.proofs.ListLaws.{by_test}
use Rattle.lists.specs.Tables.{packed}
use Rattle.lists.proofs.TableLaws.{len_packed}
use Rattle.composition_input.specs.Focus.{own_view, with_view_record, focus_refusal, set_focus, begin_ime_refusal, begin_ime, end_ime_refusal, end_ime, suspend_refusal, suspended_view, suspend_view_input}
use Rattle.release_lists.specs.Captures.{CaptureList, capture_list}
use Rattle.composition_input.specs.Captures.{primary, own_record, capture_refusal, captured_view, capture_pointer_for, released_view, release_for_refusal, release_pointer_for, release_refusal, release_pointer, device_captures, device_cleared, device_refusal, release_device_pointer_captures}
use Rattle.composition_input.specs.Claims.{Settled, ReleaseSettles, InputClaims}
use Rattle.maps.specs.declared.captures.Capture.{Capture}
use Rattle.composition_state.specs.declared.registry.CompositionRegistry.{CompositionRegistry}
use Rattle.composition_state.specs.Registry.{Changed}
use Rattle.composition_state.specs.Registry.{with_views, settled, answered, answered_with}
use Rattle.records.specs.Views.{view_at, with_focus, with_ime, input_state}
use Rattle.composition_state.proofs.SettleLaws as settle

module _ (r changed : CompositionRegistry) (same : changed.revision ≡ r.revision) where
  settles : (o : Outcome) → Settled r (settled o r changed)
  settles o = settle.settles o r changed same

  -- a release by device that lists nothing only answers
  module _ (l : List Capture) where
    given : (c : Changed) (t : CaptureList) → (answered_with (packed capture_list l) c).outcome ≡ Ok t
        → (c.outcome ≡ Ok tt) × (t.len ≡ length l)
    given c t a =
        let v = settle.value_given (packed capture_list l) t c.outcome a in
        (v.0, ap (λ (x : CaptureList). x.len) v.1 ∙ len_packed capture_list l)

    releases : (o : Outcome)
        → ReleaseSettles r (answered_with (packed capture_list l) (cond (eqb (length l) 0) (answered o r) (settled o r changed)))
    releases o = by_test (eqb (length l) 0)
        (λ q. rw q (record {
          refused = λ e a n. refl;
          listed = λ t a n. absurd (n ((given (answered o r) t a).1 ∙ eqb-true (length l) 0 q));
          unlisted = λ t a n. refl;
        }))
        (λ q. rw q (record {
          refused = λ e a n. (settles o).refused e (settle.error_given (packed capture_list l) e (settled o r changed).outcome a) n;
          listed = λ t a n. (settles o).accepted (given (settled o r changed) t a).0;
          unlisted = λ t a n. absurd (eqb-false (length l) 0 q (sym (given (settled o r changed) t a).1 ∙ n));
        }))

pub claims : InputClaims
unfolding set_focus begin_ime end_ime suspend_view_input capture_pointer_for release_pointer_for release_pointer release_device_pointer_captures
claims = record {
  set_focus_lem = λ r view surface expected. settles r (with_view_record view (with_focus surface (view_at r.views view)) r) refl (focus_refusal r view surface expected);
  begin_ime_lem = λ r surface expected. settles r (with_view_record (own_view r surface) (with_ime (Some surface) (own_record r surface)) r) refl (begin_ime_refusal r surface expected);
  end_ime_lem = λ r surface expected. settles r (with_view_record (own_view r surface) (with_ime None (own_record r surface)) r) refl (end_ime_refusal r surface expected);
  suspend_view_input_lem = λ r view expected. settle.settles_made (input_state (view_at r.views view)) (suspend_refusal r view expected) r (with_view_record view (suspended_view (view_at r.views view)) r) refl;
  capture_pointer_for_lem = λ r p surface expected. settles r (with_view_record (own_view r surface) (captured_view p surface (own_record r surface)) r) refl (capture_refusal r p surface expected);
  capture_pointer = λ r surface expected. settles r (with_view_record (own_view r surface) (captured_view primary surface (own_record r surface)) r) refl (capture_refusal r primary surface expected);
  release_pointer_for_lem = λ r p surface expected. settles r (with_view_record (own_view r surface) (released_view p (own_record r surface)) r) refl (release_for_refusal r p surface expected);
  release_pointer_lem = λ r surface expected. settles r (with_view_record (own_view r surface) (released_view primary (own_record r surface)) r) refl (release_refusal r surface expected);
  release_device_pointer_captures_lem = λ r device generation.
      releases r (with_views (device_cleared r.views device generation) r) refl (device_captures r.views device generation) (device_refusal r device generation);
}
