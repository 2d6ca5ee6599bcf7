-- At most how many deliveries, captures and hits there are, from the lengths of the arrays that they are made from.
use Rattle.std.specs.Prelude.{is_ok, Option, None, Some, Ok, Err}
use Rattle.std.specs.Result.{result_and, result_unwrap_or}
use Prim.Native.Nat.{ℕ, ◌≤◌}
use mathlib.Core.Bool.{Bool, true, false}
use mathlib.Core.List.{List, [], ◌∷◌, reverse}
use mathlib.Core.Path.{refl}
use native.Mathlib.Omega.{arith}
use lib.ListN.{length, length-map, length-reverse}
use Rattle.lists.specs.Tables.{entries_of, packed}
use Rattle.lists.proofs.ListLaws.{by_test, length_keep}
use Rattle.lists.proofs.TableLaws as table
use Rattle.geometry.specs.declared.transform.Point.{Point}
use Rattle.handles.specs.Slots.{slot_at}
use Rattle.handles.specs.declared.GenerationalHandle.{GenerationalHandle}
use Rattle.maps.specs.Captures.{captures}
use Rattle.records.specs.Layers.{layers}
use Rattle.records.specs.Traces.{deliveries, Deliveries, Hits}
use Rattle.records.specs.Views.{no_view, view_at, view_slots, ViewTable}
use Rattle.records.specs.declared.trace.ArbitrationEvent.{ArbitrationEvent}
use Rattle.records.proofs.ViewLaws.{few_slots}
use Rattle.view_panels.specs.Panels.{Panel, panels_in}
use Rattle.release_lists.specs.Captures.{CaptureList, capture_list}
use Rattle.composition_state.specs.declared.registry.CompositionRegistry.{CompositionRegistry}
use Rattle.composition_state.specs.Damage.{view_handle}
use Rattle.composition_state.specs.Registry.{settled}
use Rattle.records.specs.Errors.{Outcome}
use Rattle.composition_shortcuts.specs.Resolve.{resolved_outcome, resolved_panel}
use Rattle.composition_arbitration.specs.declared.arbitrate.ArbitrationResult.{ArbitrationResult}
use Rattle.input_releases.specs.Answers.{no_result}
use Rattle.composition_input.specs.Captures.{listed_captures, is_of_device, taken_at, device_captures, device_settled, release_device_pointer_captures}
use Rattle.composition_hits.specs.HitTest.{is_panel_hit, hits_among, view_hits}
use Rattle.composition_arbitration.specs.declared.walk.Verdict.{Verdict}
use Rattle.composition_arbitration.specs.declared.walk.Walked.{Walked}
use Rattle.composition_arbitration.specs.Arbitration.{alone, or_alone, walk_over, walk_in, arbitration, own_hits, resolution, result_at, arbitrate_refusal, with_trace, trace_of, next_revision, concluded, arbitrated}
use Rattle.composition_arbitration.specs.Layers.{delivers, consumes, until_consumed, walked, walk_of}
use Rattle.answer_words.specs.Lengths.{All, ViewLengths}
use Rattle.answer_words.proofs.EntryLaws.{given_few, all_get, packed_few, few_if, below_few}

-- ---- who gets an event
abbrev pub FewDelivered : Deliveries → Type 0
FewDelivered t = length (entries_of deliveries t) ≤ 16

module _ (at : Panel → Verdict) where
  until_few : (l : List Panel) → length (until_consumed at l) ≤ length l
  unfolding until_consumed
  until_few [] = omega arith
  until_few (p ∷ l) = by_test (consumes (at p)) (λ t. rw t (omega arith)) (λ t. rw t (omega (arith, until_few l)))

  walk_few : (l : List Panel) → length l ≤ 16 → FewDelivered (walk_of at l).deliveries
  unfolding walk_of
  walk_few l h =
      packed_few deliveries _ 16 (simp length-map
      (omega (arith, length_keep (λ p. delivers (at p)) (walked at l), until_few (reverse l), length-reverse l)))

alone_few : (h : GenerationalHandle) → FewDelivered (alone h).deliveries
unfolding alone
alone_few h = packed_few deliveries _ 16 (omega arith)

or_few : (o : Option GenerationalHandle) (w : Walked) → FewDelivered w.deliveries → FewDelivered (or_alone o w).deliveries
or_few (Some h) w x = alone_few h
or_few None w x = x

result_few : (o : Outcome) (x : ArbitrationResult)
    → FewDelivered x.deliveries → FewDelivered (result_unwrap_or (result_and o (Ok x)) no_result).deliveries
result_few (Ok _) x h = h
result_few (Err e) x h = packed_few deliveries [] 16 (omega arith)

-- ---- what the views hold
module _ (views : ViewTable) (x : All ViewLengths views.records) where
  view_lengths : (h : GenerationalHandle) → ViewLengths (view_at views h)
  unfolding packed
  view_lengths h = all_get ViewLengths views.records h.index no_view x (record { layers = refl; captures = refl })

  pub layers_few : (h : GenerationalHandle) → length (entries_of layers (view_at views h).surfaces) ≤ 16
  layers_few h = table.few layers (view_at views h).surfaces (view_lengths h).layers

  pub captures_few : (h : GenerationalHandle) → length (entries_of captures (view_at views h).pointer_captures) ≤ 32
  captures_few h = table.few captures (view_at views h).pointer_captures (view_lengths h).captures

  -- a device's captures, of at most 16 views
  module _ (device generation : ℕ) where
    taken_few : (i : ℕ) → length (taken_at views device generation i) ≤ 32
    taken_few i =
        let l = entries_of captures (view_at views (view_handle views i)).pointer_captures in
        few_if (slot_at views.arena i).filled _ 32
        (omega (arith, length_keep (is_of_device device generation) l, captures_few (view_handle views i)))

    pub device_few : length (device_captures views device generation) ≤ 512
    unfolding device_captures
    device_few =
        omega (arith, below_few (taken_at views device generation) 32 taken_few (view_slots views), few_slots views)

module _ (r : CompositionRegistry) (x : All ViewLengths r.views.records) where
  pub released_few : (device generation : ℕ)
      → length (entries_of capture_list (listed_captures (release_device_pointer_captures r device generation))) ≤ 512
  unfolding release_device_pointer_captures
  released_few device generation =
      let settled = device_settled r device generation in
      given_few (λ (l : CaptureList). length (entries_of capture_list l) ≤ 512) settled.outcome _ _
      (packed_few capture_list _ 512 (device_few r.views x device generation)) (packed_few capture_list [] 512 (omega arith))

  panels_few : (view : GenerationalHandle) → length (panels_in r.views r.surfaces view) ≤ 16
  panels_few view = simp length-map (layers_few r.views x view)

  -- ---- an arbitration
  walk_in_few : (view : GenerationalHandle) (event : ArbitrationEvent) (h : Hits)
      → FewDelivered (walk_in r view event h).deliveries
  unfolding walk_over
  walk_in_few view event h = walk_few _ _ (panels_few view)

  pub arbitrated_few : (view : GenerationalHandle) (event : ArbitrationEvent) (h : Hits)
      → FewDelivered (result_unwrap_or (arbitrated r view event h).outcome no_result).deliveries
  unfolding arbitrated concluded
  arbitrated_few view event h =
      let own = own_hits event h in
      let w = arbitration r view event h in
      let found = resolution r view event in
      let c = settled (arbitrate_refusal r view own (resolved_outcome found)) r (with_trace (trace_of (next_revision r.revision) view event own w) r) in
      result_few c.outcome (result_at c.registry.revision w)
      (or_few (resolved_panel found) (walk_in r view event own) (walk_in_few view event own))

  -- ---- a hit test
  pub hits_few : (view : GenerationalHandle) (p : Point) → length (view_hits r view p) ≤ 16
  unfolding view_hits hits_among
  hits_few view p =
      let l = panels_in r.views r.surfaces view in
      let hit = length_keep (is_panel_hit p) (reverse l) in
      simp length-map (omega (arith, hit, length-reverse l, panels_few view))
