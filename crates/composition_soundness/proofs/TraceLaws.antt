-- An arbitration adds one trace: its hits are counted by the check of 41, its deliveries are at most the panels walked, and the oldest trace drops out.
use Rattle.std.specs.Prelude.{Option, None, Some}
use Prim.Native.Nat.{ℕ, ◌-◌, ◌≤◌}
use mathlib.Core.Path.{◌≡◌, refl, sym, ap, ◌∙◌, subst}
use mathlib.Core.Bool.{true}
use mathlib.Core.List.{List, [], ◌∷◌, ◌++◌, reverse}
use native.Mathlib.Omega.{arith}
use borrow.Author.Tests.{le-leb, ltb-false, ne_eqb}
use lib.Dec.{leb, ltb}
use lib.ListN.{length, length-drop, length-map, length-reverse}
use Rattle.lists.specs.Lists.{keep, all}
use Rattle.lists.specs.Tables.{entries_of}
use Rattle.lists.proofs.ListLaws.{by_test, and_right, and_both, all_append, length_keep}
use Rattle.lists.proofs.TableLaws.{entries_packed, len_packed}
use Rattle.handles.specs.Slots.{lookup_of}
use Rattle.handles.specs.declared.arena.SlotStatus.TheVariants.{Live}
use Rattle.handles.specs.declared.GenerationalHandle.{GenerationalHandle}
use Rattle.records.specs.declared.error.CompositionError.TheVariants.{InvalidView, StaleView, PortLimit}
use Rattle.composition_state.specs.declared.registry.CompositionRegistry.{CompositionRegistry}
use Rattle.records.specs.declared.trace.ArbitrationEvent.{ArbitrationEvent}
use Rattle.records.specs.declared.trace.CompositionTrace.{CompositionTrace}
use Rattle.records.specs.Traces.{Hits, Traces, hits, traces, deliveries}
use Rattle.composition_state.specs.Damage.{damage_refusal, trace_sound, traces_sound}
use Rattle.records.specs.Layers.{layers}
use Rattle.records.specs.Views.{view_at, view_refusal}
use Rattle.view_panels.specs.Panels.{Panel, panel_in, panels_in}
use Rattle.composition_state.proofs.SettleLaws.{then_last, if_accepted}
use Rattle.composition_arbitration.specs.declared.walk.Verdict.{Verdict}
use Rattle.composition_arbitration.specs.declared.walk.Walked.{Walked}
use Rattle.composition_shortcuts.specs.Resolve.{resolved_outcome, resolved_panel}
use Rattle.composition_arbitration.specs.Arbitration.{own_hits, hits_refusal, resolution, alone, or_alone, walk_over, walk_in, arbitration, next_revision, arbitrate_refusal, trace_of, concluded, arbitrated}
use Rattle.composition_arbitration.specs.Layers.{delivers, consumes, verdict_of, until_consumed, walked, deliveries_of, walk_of}
use Rattle.composition_arbitration.specs.Targets.{chosen}
use Rattle.composition_arbitration.specs.Trace.{last_of, kept_traces, traced}
use Rattle.composition_soundness.proofs.CaseLaws.{then_first, status_live}
use Rattle.composition_soundness.proofs.ListLaws.{all_drop, entries_few}
use Rattle.composition_soundness.proofs.PartLaws.{Parts, bounds, keeps}
use Rattle.composition_soundness.proofs.ChangeLaws.{traces_changed, view_of_lem}

-- ---- the traces with one more
within_limit : (limit : ℕ) → (limit ≡ 0 → ⊥) → kept_traces limit ≤ limit
within_limit limit n = by_test (ltb limit 32)
    (λ t. rw (ne_eqb limit 0 n, t) (omega arith))
    (λ t. rw (ne_eqb limit 0 n, t) (omega (arith, ltb-false limit 32 t)))

last_few : {E : Type 0} (n : ℕ) (l : List E) → length (last_of n l) ≤ n
last_few n l = simp length-drop (omega arith)

pub traced_sound : (limit : ℕ) (t : Traces) (e : CompositionTrace) → (limit ≡ 0 → ⊥) → trace_sound e ≡ true → traces_sound limit t ≡ true → traces_sound limit (traced limit t e) ≡ true
unfolding traces_sound traced
traced_sound limit t e some sound h =
    let full = entries_of traces t ++ (e ∷ []) in
    let kept = last_of (kept_traces limit) full in
    let few : length kept ≤ limit = omega (arith, last_few (kept_traces limit) full, within_limit limit some) in
    and_both (ap (λ (n : ℕ). leb n limit) (len_packed traces kept) ∙ le-leb _ limit few)
    (ap (all trace_sound) (entries_packed traces kept)
    ∙ all_drop trace_sound (length full - kept_traces limit) full
    (all_append trace_sound (entries_of traces t) (e ∷ []) ∙ and_both (and_right (leb t.len limit) _ h) (and_both sound refl)))

-- ---- the deliveries
module _ (at : Panel → Verdict) where
  until_few : (l : List Panel) → length (until_consumed at l) ≤ length l
  unfolding until_consumed
  until_few [] = omega arith
  until_few (p ∷ l) = by_test (consumes (at p)) (λ t. rw t (omega arith)) (λ t. rw t (omega (arith, until_few l)))

  walk_few : (l : List Panel) → (walk_of at l).deliveries.len ≤ length l
  unfolding walk_of
  walk_few l =
      subst (λ (n : ℕ). n ≤ length l) (sym (len_packed deliveries (deliveries_of at (walked at l)) ∙ length-map (keep (λ p. delivers (at p)) (walked at l)) _))
      (omega (arith, length_keep (λ p. delivers (at p)) (walked at l), until_few (reverse l), length-reverse l))

alone_few : (h : GenerationalHandle) → (alone h).deliveries.len ≤ 16
unfolding alone
alone_few h = subst (λ (n : ℕ). n ≤ 16) (sym (len_packed deliveries _)) (omega arith)

or_few : (o : Option GenerationalHandle) (w : Walked) → w.deliveries.len ≤ 16 → (or_alone o w).deliveries.len ≤ 16
or_few (Some h) w l = alone_few h
or_few None w l = l

module _ (r : CompositionRegistry) (p : Parts r) (view : GenerationalHandle) (event : ArbitrationEvent) (h : Hits) where
  walk_in_few : lookup_of r.views.arena view ≡ Live → (walk_in r view event (own_hits event h)).deliveries.len ≤ 16
  unfolding walk_over
  walk_in_few e =
      let v = view_at r.views view in
      omega (
        arith,
        walk_few (verdict_of (chosen event v) (entries_of hits (own_hits event h))) (panels_in r.views r.surfaces view),
        length-map (entries_of layers v.surfaces) (panel_in r.surfaces),
        entries_few layers v.surfaces,
        (view_of_lem r p view e).layered.count,
        (bounds r p).layers,
      )

  pub arbitrate : Parts (arbitrated r view event h).registry
  unfolding arbitrated concluded
  arbitrate = keeps (arbitrate_refusal r view (own_hits event h) (resolved_outcome (resolution r view event))) r _ p (λ a.
      let a₁ = then_last (damage_refusal r) _ a in
      let live = status_live (lookup_of r.views.arena view) InvalidView StaleView (then_first (view_refusal r.views view) _ a₁) in
      let few = if_accepted (ltb 16 (own_hits event h).len) PortLimit (then_first (hits_refusal (own_hits event h)) _ (then_last (view_refusal r.views view) _ a₁)) in
      traces_changed r p _ (traced_sound r.limits.max_trace_entries r.traces (trace_of (next_revision r.revision) view event (own_hits event h) (arbitration r view event h))
      (bounds r p).some_trace
      (and_both (le-leb (own_hits event h).len 16 (ltb-false 16 (own_hits event h).len few))
      (le-leb (arbitration r view event h).deliveries.len 16 (or_few (resolved_panel (resolution r view event)) (walk_in r view event (own_hits event h)) (walk_in_few live))))
      p.traces))
