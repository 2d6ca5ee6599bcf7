-- The claims about these calls, by the cases of the checks, of the slot's release and of the revision.
use Rattle.std.specs.Prelude.{Some, None, Ok, Err, is_ok}
use Rattle.std.specs.Result.{result_and}
use Prim.Native.Nat.{ℕ, ◌+◌, ◌≤◌}
use mathlib.Core.Path.{◌≡◌, refl, sym, ap, ◌∙◌}
use mathlib.Core.Bool.{Bool, true, false, not, ◌||◌}
use mathlib.Core.List.{List, [], ◌∷◌}
use native.Mathlib.Omega.{arith}
use borrow.Author.Tests.{ne_eqb}
use lib.Dec.{eqb}
use lib.ListN.{length}
use Rattle.lists.specs.Lists.{keep, first, all}
use Rattle.lists.specs.Tables.{entries_of, pushed}
use Rattle.lists.specs.Numbers.{max_u64}
use Rattle.lists.proofs.ListLaws.{by_test, clash, some≢none, keep_passes}
use Rattle.lists.proofs.TableLaws.{entries_packed}
use Rattle.handles.specs.Handles.{same_handle, holds_handle}
use Rattle.handles.specs.Slots.{released}
use Rattle.handles.specs.declared.GenerationalHandle.{GenerationalHandle}
use Rattle.handles.specs.declared.arena.SlotStatus.{SlotStatus}
use Rattle.handles.specs.declared.arena.SlotStatus.TheVariants.{Live, Invalid, Stale}
use Rattle.handles.specs.Slots.{ReleaseOutcome}
use Rattle.handles.specs.declared.arena.ReleaseError.TheVariants as release
use Rattle.handles.proofs.HandleLaws.{handles}
use Rattle.maps.specs.Captures.{captures, capture_key}
use Rattle.maps.specs.Keys.{pointer_key, key_same}
use Rattle.maps.specs.MapTables.{keys_rise}
use Rattle.maps.specs.declared.keys.CompositionPointerId.{CompositionPointerId}
use Rattle.maps.proofs.ClaimLaws as map
use Rattle.records.specs.declared.error.CompositionError.{CompositionError}
use Rattle.records.specs.declared.error.CompositionError.TheVariants.{RevisionExhausted, GenerationExhausted, Damaged, InvalidSurface, StaleSurface, InvalidView, StaleView}
use Rattle.composition_state.specs.declared.registry.CompositionRegistry.{CompositionRegistry}
use Rattle.records.specs.Surfaces.{SurfaceTable, surface_status}
use Rattle.records.specs.declared.view.ViewRecord.{ViewRecord}
use Rattle.composition_state.specs.Damage.{is_sound}
use Rattle.records.specs.Errors.{number_of, refusal_if, status_refusal, Outcome}
use Rattle.records.specs.Layers.{layers}
use Rattle.composition_state.specs.Registry.{with_windows, with_views, advanced, settled, outcome_of}
use Rattle.records.specs.Views.{view_status, views_with}
use Rattle.composition_state.proofs.SettleLaws.{refused_is, accepted_is, outcome_is, value_given}
use Rattle.composition_panels.specs.Windows.{exhausted_refusal, close_view_refusal, close_view, close_window_refusal, close_window}
use Rattle.composition_close.specs.declared.shutdown.Closing.{Closing}
use Rattle.composition_close.specs.Reports.{close_reports}
use Rattle.composition_close.specs.declared.answer.SurfaceCloseReport.{SurfaceCloseReport}
use Rattle.composition_close.specs.Detach.{close_report, own_view, is_on_surface, had_capture, detached_view}
use Rattle.composition_close.specs.Close.{close_refusal, detached, freed, closed_panel, close_settled, close_after, close_surface}
use Rattle.composition_close.specs.Shutdown.{raised, layer_closed, view_closed, window_closed, shutdown_refusal, shut_down, shutdown_after, shutdown_of}
use Rattle.composition_close.specs.Claims.{CloseSettles, Holds, CloseClaims}

refused≢accepted {ℓ} : {P : Type ℓ} {e : CompositionError} → ◌≡◌ {A = Outcome} (Err e) (Ok tt) → P
refused≢accepted {P} {e} q = let z : ◌≡◌ {A = ℕ} 0 1 = cc in absurd (omega arith)

-- the checks before any change answer none of the numbers between 13 and 41
early : (damaged : Bool) (panel view : SlotStatus) (n : ℕ) → 13 ≤ n → n ≤ 41
    → number_of (result_and (refusal_if damaged Damaged) (result_and (status_refusal panel InvalidSurface StaleSurface) (status_refusal view InvalidView StaleView))) ≡ n → ⊥
early true panel view n l m q = omega arith
early false Invalid view n l m q = omega arith
early false Stale view n l m q = omega arith
early false Live Live n l m q = omega arith
early false Live Invalid n l m q = omega arith
early false Live Stale n l m q = omega arith

checks_early : (r : CompositionRegistry) (h : GenerationalHandle) (n : ℕ) → 13 ≤ n → n ≤ 41 → number_of (close_refusal r h) ≡ n → ⊥
checks_early r h n l m q = early (not (is_sound r)) (surface_status r.surfaces h) (view_status r.views (own_view r.surfaces h)) n l m q

-- a change that 21 refuses stays
advanced_stays : (c : CompositionRegistry) → (advanced c).outcome ≡ Err RevisionExhausted → (advanced c).registry ≡ c
unfolding advanced
advanced_stays c q = by_test (eqb c.revision max_u64)
    (λ t. rw t)
    (λ t. refused≢accepted (sym (rw t at q)))

-- ---- after the checks: the slot's release decides
module _ (d c : CompositionRegistry) where
  slot_refused : (o : ReleaseOutcome) (r : CompositionRegistry) (e : CompositionError) → (settled (exhausted_refusal o) d c).outcome ≡ Err e
      → (e ≡ RevisionExhausted → ⊥) → (e ≡ GenerationExhausted → ⊥) → (settled (exhausted_refusal o) d c).registry ≡ r
  slot_refused (Ok _) r e q n m = refused_is (Ok tt) r c e q n
  slot_refused (Err release.Invalid) r e q n m = refused_is (Ok tt) r c e q n
  slot_refused (Err release.Stale) r e q n m = refused_is (Ok tt) r c e q n
  slot_refused (Err release.GenerationExhausted) r e q n m = absurd (m (cc))

  slot_stays : (o : ReleaseOutcome) → (settled (exhausted_refusal o) d c).outcome ≡ Err RevisionExhausted → (settled (exhausted_refusal o) d c).registry ≡ c
  slot_stays (Ok _) q = advanced_stays c q
  slot_stays (Err release.Invalid) q = advanced_stays c q
  slot_stays (Err release.Stale) q = advanced_stays c q
  slot_stays (Err release.GenerationExhausted) q = let z : ◌≡◌ {A = ℕ} 0 1 = cc in absurd (omega arith)

settled_raises : (o : Outcome) (r c : CompositionRegistry) → (settled o r c).outcome ≡ Ok tt → (settled o r c).registry ≡ raised c
settled_raises (Ok _) r c q = refl
settled_raises (Err e) r c q = refused≢accepted q

-- ---- a close, by the answer of its checks
module _ (r : CompositionRegistry) (h : GenerationalHandle) where
  abbrev slot : ReleaseOutcome
  slot = (released r.surfaces.arena h).outcome

  -- what is settled is accepted, or refused, as the answer with its report is
  plain : {o : Outcome} → outcome_of (close_after (Ok tt) r h) ≡ o → (close_settled r h).outcome ≡ o
  plain q = sym (outcome_is (close_report r.surfaces r.views h (close_settled r h).registry.revision) (close_settled r h)) ∙ q

  after_refused : (o : Outcome) (e : CompositionError) → outcome_of (close_after o r h) ≡ Err e → (e ≡ RevisionExhausted → ⊥) → (e ≡ GenerationExhausted → ⊥) → (close_after o r h).registry ≡ r
  unfolding close_settled
  after_refused (Ok _) e q n m = slot_refused (detached h r) (closed_panel h r) slot r e (plain q) n m
  after_refused (Err f) e q n m = refl

  after_generation : (o : Outcome) → (number_of o ≡ 22 → ⊥) → outcome_of (close_after o r h) ≡ Err GenerationExhausted → (close_after o r h).registry ≡ detached h r
  unfolding close_settled
  after_generation (Ok _) k q = refused_is (exhausted_refusal slot) (detached h r) (closed_panel h r) GenerationExhausted (plain q) (λ g. let z : ◌≡◌ {A = ℕ} 0 1 = cc in omega arith)
  after_generation (Err f) k q = absurd (k (ap number_of q))

  after_revision : (o : Outcome) → (number_of o ≡ 21 → ⊥) → outcome_of (close_after o r h) ≡ Err RevisionExhausted → (close_after o r h).registry ≡ closed_panel h r
  unfolding close_settled
  after_revision (Ok _) k q = slot_stays (detached h r) (closed_panel h r) slot (plain q)
  after_revision (Err f) k q = absurd (k (ap number_of q))

  kept_revision : (closed_panel h r).revision ≡ r.revision
  unfolding freed detached
  kept_revision = refl

  after_accepted : (o : Outcome) → outcome_of (close_after o r h) ≡ Ok tt → (close_after o r h).registry.revision ≡ r.revision + 1
  unfolding close_settled
  after_accepted (Ok _) q =
      ap (λ (x : CompositionRegistry). x.revision) (accepted_is (exhausted_refusal slot) (detached h r) (closed_panel h r) (plain q)) ∙ ap (λ n. n + 1) kept_revision
  after_accepted (Err f) q = refused≢accepted q

  closes : CloseSettles r h
  unfolding close_surface
  closes = record {
    refused = after_refused (close_refusal r h);
    last_generation_lem = after_generation (close_refusal r h) (checks_early r h 22 (omega arith) (omega arith));
    last_revision = after_revision (close_refusal r h) (checks_early r h 21 (omega arith) (omega arith));
    accepted = after_accepted (close_refusal r h);
  }

  raised_is : (close_settled r h).outcome ≡ Ok tt → (close_settled r h).registry ≡ raised (closed_panel h r)
  unfolding close_settled
  raised_is q = settled_raises (exhausted_refusal slot) (detached h r) (closed_panel h r) q

-- ---- what 22 leaves
detached_alone : (r : CompositionRegistry) (h : GenerationalHandle) → detached h r ≡ with_views (detached h r).views r
unfolding detached
detached_alone r h = refl

detached_out : (surfaces : SurfaceTable) (v : ViewRecord) (h : GenerationalHandle) → all (λ at. not (same_handle h at)) (entries_of layers (detached_view surfaces v h).surfaces) ≡ true
unfolding detached_view
detached_out surfaces v h =
    rw (entries_packed layers (keep (λ at. not (same_handle h at)) (entries_of layers v.surfaces))) (keep_passes (λ at. not (same_handle h at)) (entries_of layers v.surfaces))

-- ---- a step of a shutdown
step_after : (w : Closing) (h : GenerationalHandle) (report : SurfaceCloseReport) (o : Outcome) → (close_after o w.registry h).outcome ≡ Ok report
    → layer_closed h w ≡ record { registry = (close_after o w.registry h).registry; reports = pushed close_reports w.reports report }
unfolding layer_closed
step_after w h report (Ok _) q =
    let settled_to = value_given (close_report w.registry.surfaces w.registry.views h (close_settled w.registry h).registry.revision) report (close_settled w.registry h).outcome q in
    rw (settled_to.1, raised_is w.registry h settled_to.0)
step_after w h report (Err e) q = clash (ap is_ok q) refl

panel_step_lem : (w : Closing) (h : GenerationalHandle) (report : SurfaceCloseReport) → (close_surface w.registry h).outcome ≡ Ok report
    → layer_closed h w ≡ record { registry = (close_surface w.registry h).registry; reports = pushed close_reports w.reports report }
unfolding close_surface
panel_step_lem w h report q = step_after w h report (close_refusal w.registry h) q

view_step_lem : (r : CompositionRegistry) (view : GenerationalHandle) → (close_view r view).outcome ≡ Ok tt → view_closed view r ≡ (close_view r view).registry
unfolding close_view view_closed
view_step_lem r view q = sym (settled_raises (close_view_refusal r view) r (with_views (views_with (released r.views.arena view).arena r.views) r) q)

window_step_lem : (r : CompositionRegistry) (window : GenerationalHandle) → (close_window r window).outcome ≡ Ok tt → window_closed window r ≡ (close_window r window).registry
unfolding close_window window_closed
window_step_lem r window q = sym (settled_raises (close_window_refusal r window) r (with_windows (released r.windows window).arena r) q)

shutdown_after_lem : (r : CompositionRegistry) (o : Outcome) (e : CompositionError) → outcome_of (shutdown_after o r) ≡ Err e → (shutdown_after o r).registry ≡ r
unfolding shut_down
shutdown_after_lem r (Ok _) e q = refused≢accepted (sym q)
shutdown_after_lem r (Err f) e q = refl

shutdown_refused : (r : CompositionRegistry) (e : CompositionError) → outcome_of (shutdown_of r) ≡ Err e → (shutdown_of r).registry ≡ r
unfolding shutdown_of
shutdown_refused r e q = shutdown_after_lem r (shutdown_refusal r) e q

-- ---- captures of the panel that closes, and of another
-- what a search finds is kept by a test that it passes
found_kept : {E : Type 0} (t p : E → Bool) (l : List E) (e : E) → first t l ≡ Some e → p e ≡ true → eqb (length (keep p l)) 0 ≡ false
found_kept t p [] e q y = some≢none q refl
found_kept t p (x ∷ l) e q y = by_test (p x)
    (λ u. rw u (ne_eqb (length (x ∷ keep p l)) 0 (λ z. omega arith)))
    (λ u. by_test (t x)
    (λ v. let s : Some x ≡ Some e = simp v at q in let x-e : x ≡ e = cc in clash y (rw (sym x-e) u))
    (λ v. simp u (found_kept t p l e (simp v at q) y)))

or_true : (a b : Bool) → b ≡ true → (a || b) ≡ true
or_true true b h = refl
or_true false b h = h

had_capture_lem : (v : ViewRecord) (a : GenerationalHandle) (p : CompositionPointerId) → Holds v p a → had_capture v a ≡ true
unfolding had_capture
had_capture_lem v a p q =
    or_true (holds_handle v.pointer_capture a) (not (eqb (length (keep (is_on_surface a) (entries_of captures v.pointer_captures))) 0))
    (ap not (found_kept (λ e. key_same (pointer_key p) (capture_key e)) (is_on_surface a) (entries_of captures v.pointer_captures) (record { pointer = p; surface = a }) q (handles.same_refl a)))

field_empties : (surfaces : SurfaceTable) (v : ViewRecord) (a : GenerationalHandle) (p : CompositionPointerId) → Holds v p a → (detached_view surfaces v a).pointer_capture ≡ None
unfolding detached_view
field_empties surfaces v a p q = rw (had_capture_lem v a p q)

entry_remains : (surfaces : SurfaceTable) (v : ViewRecord) (a b : GenerationalHandle) (p : CompositionPointerId)
    → keys_rise captures capture_key v.pointer_captures ≡ true → same_handle a b ≡ false → Holds v p b → Holds (detached_view surfaces v a) p b
unfolding detached_view
entry_remains surfaces v a b p rises other q =
    rw (entries_packed captures (keep (λ e. not (is_on_surface a e)) (entries_of captures v.pointer_captures)))
    ((map.claims).captures.find_kept (λ e. not (is_on_surface a e)) (pointer_key p) (entries_of captures v.pointer_captures) rises ∙ rw (q, other))

pub claims : CloseClaims
claims = record {
  close = closes;
  detached_alone = detached_alone;
  detached_out = detached_out;
  shutdown_refused = shutdown_refused;
  panel_step_lem = panel_step_lem;
  view_step_lem = view_step_lem;
  window_step_lem = window_step_lem;
  captures_apart = λ surfaces v a b p q rises other has-a has-b. (field_empties surfaces v a p has-a, entry_remains surfaces v a b q rises other has-b);
}
