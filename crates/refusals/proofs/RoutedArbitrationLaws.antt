-- Once an event's checks have passed, its arbitration is refused 8/9 of a system shortcut's panel or 21: the registry is whole, the view live, and its hits are at most its layers.
use Rattle.records.specs.Errors.{Outcome}
use Rattle.std.specs.Prelude.{Option, None, Some, Ok, Err}
use Prim.Native.Nat.{ℕ, ◌≤◌}
use mathlib.Core.Path.{◌≡◌, refl}
use mathlib.Core.Bool.{Bool, true, false, ◌||◌}
use mathlib.Core.List.{[], reverse}
use native.Mathlib.Omega.{arith}
use borrow.Author.Tests.{le-ltb}
use lib.Dec.{eqb, leb, ltb}
use lib.ListN.{length, length-map, length-reverse}
use Rattle.lists.specs.Lists.{keep, first}
use Rattle.lists.specs.Tables.{entries_of, packed}
use Rattle.lists.specs.Numbers.{max_u64}
use Rattle.lists.proofs.BelowLaws.{all_at}
use Rattle.lists.proofs.ListLaws.{and_left, and_right, length_keep}
use Rattle.lists.proofs.TableLaws.{len_packed}
use Rattle.geometry.specs.declared.transform.Point.{Point}
use Rattle.handles.specs.Slots.{lookup_of, live_handles}
use Rattle.handles.specs.declared.arena.Arena.{Arena}
use Rattle.handles.specs.declared.arena.SlotStatus.TheVariants.{Live}
use Rattle.handles.specs.declared.GenerationalHandle.{GenerationalHandle}
use Rattle.handles.proofs.LookupLaws.{live_facts}
use Rattle.records.specs.declared.error.CompositionError.TheVariants.{InvalidView, StaleView, RevisionExhausted}
use Rattle.composition_state.specs.Registry.{Changed}
use Rattle.composition_state.specs.declared.registry.CompositionRegistry.{CompositionRegistry}
use Rattle.records.specs.Surfaces.{SurfaceTable, descriptor_of}
use Rattle.records.specs.declared.trace.ArbitrationEvent.{ArbitrationEvent}
use Rattle.records.specs.declared.trace.ArbitrationEvent.TheVariants.{Pointer, PointerStack, PointerFor, PointerStackFor, Keyboard, KeyboardFor, Gamepad, GamepadFor, Text, Shortcut, SystemShortcut}
use Rattle.records.specs.Traces.{Hits, hits}
use Rattle.composition_state.specs.Damage.{limits_sound, arenas_sound, traces_sound, view_handle, slot_sound, views_sound, is_sound, damage_refusal}
use Rattle.records.specs.Layers.{layers}
use Rattle.composition_state.specs.Registry.{advanced, settled}
use Rattle.records.specs.Shortcuts.{shortcuts}
use Rattle.records.specs.Views.{view_at, view_status}
use Rattle.view_panels.specs.Panels.{Panel, panel_in, panels_in}
use Rattle.composition_shortcuts.specs.OwnView.{is_refused, refusal_of, own_view_refusal}
use Rattle.composition_shortcuts.specs.Resolve.{resolved_outcome, winner, resolve_system_shortcut}
use Rattle.composition_hits.specs.HitTest.{is_panel_hit, hits_among, view_hits}
use Rattle.composition_state.specs.Registry.{outcome_of}
use Rattle.composition_arbitration.specs.Arbitration.{is_stack, own_hits, hits_refusal, resolution_of, resolution, arbitration, arbitrate_refusal, next_revision, trace_of, with_trace, concluded, arbitrated}
use Rattle.composition_soundness.proofs.CaseLaws.{either}
use Rattle.composition_soundness.proofs.ChangeLaws.{view_parts}
use Rattle.composition_soundness.proofs.ListLaws.{entries_few}
use Rattle.composition_soundness.proofs.PartLaws.{limit_parts}
use Rattle.input_events.specs.declared.event.PlatformInputEvent.{PlatformInputEvent}
use Rattle.input_events.specs.ArbitrationEvents.{needs_hits, point_of}
use Rattle.input_route.specs.Route.{hits_for}
use Rattle.refusals.proofs.NumberLaws.{Within, accepted, if_within, status_within, then_within, with_value}

-- 8/9 and 21
abbrev pub is_late : ℕ → Bool
is_late n = eqb n 8 || (eqb n 9 || eqb n 21)

-- ---- what a system shortcut looks up
own_view : (views : Arena) (surfaces : SurfaceTable) (o : Option GenerationalHandle) → Within is_late (refusal_of views surfaces o)
own_view views surfaces None = accepted is_late
own_view views surfaces (Some h) = status_within is_late (lookup_of views (descriptor_of surfaces h).view) InvalidView StaleView refl refl

resolution_late : (r : CompositionRegistry) (view : GenerationalHandle) (event : ArbitrationEvent) → Within is_late (resolved_outcome (resolution r view event))
unfolding resolution_of resolve_system_shortcut own_view_refusal
resolution_late r view (SystemShortcut mask) =
    with_value is_late (winner r.views r.surfaces view mask (entries_of shortcuts r.shortcuts)) (own_view_refusal r.views.arena r.surfaces mask (entries_of shortcuts r.shortcuts))
    (own_view r.views.arena r.surfaces (first (is_refused r.views.arena r.surfaces mask (entries_of shortcuts r.shortcuts)) (live_handles r.surfaces.arena)))
resolution_late r view (Pointer hit) = accepted is_late
resolution_late r view PointerStack = accepted is_late
resolution_late r view (PointerFor pointer hit) = accepted is_late
resolution_late r view (PointerStackFor pointer) = accepted is_late
resolution_late r view Keyboard = accepted is_late
resolution_late r view (KeyboardFor target) = accepted is_late
resolution_late r view Gamepad = accepted is_late
resolution_late r view (GamepadFor target) = accepted is_late
resolution_late r view Text = accepted is_late
resolution_late r view Shortcut = accepted is_late

advanced_within : (changed : CompositionRegistry) → Within is_late (advanced changed).outcome
unfolding advanced
advanced_within changed = either (λ (x : Changed). Within is_late x.outcome) (eqb changed.revision max_u64) _ _ (record { is = refl }) (accepted is_late)

settled_within : (o : Outcome) (r changed : CompositionRegistry) → Within is_late o → Within is_late (settled o r changed).outcome
settled_within (Ok _) r changed p = advanced_within changed
settled_within (Err e) r changed p = p

-- ---- the hits of a live view
module _ (r : CompositionRegistry) (whole : is_sound r ≡ true) (x : PlatformInputEvent) (live : view_status r.views x.header.view ≡ Live) where
  abbrev view : GenerationalHandle
  view = x.header.view

  layers_few : (view_at r.views view).surfaces.len ≤ 16
  unfolding is_sound views_sound
  layers_few =
      let limit = r.limits.max_surfaces_per_view in
      let limits = and_left (limits_sound r.limits r.first_generation) _ whole in
      let h₁ = and_right (limits_sound r.limits r.first_generation) _ whole in
      let h₂ = and_right (arenas_sound r.limits r.windows r.views.arena r.surfaces.arena) _ h₁ in
      let h₃ = and_right (leb r.shortcuts.len 256) _ h₂ in
      let views = and_right (traces_sound r.limits.max_trace_entries r.traces) _ h₃ in
      let f = live_facts r.views.arena view live in
      let s : slot_sound r.windows r.surfaces limit r.views view.index ≡ true = all_at (slot_sound r.windows r.surfaces limit r.views) r.views.arena.used view.index views f.used in
      let parts = view_parts r.windows r.surfaces limit (view_handle r.views view.index) (view_at r.views view) (rw f.filled at s) in
      omega (arith, parts.layered.count, (limit_parts r.limits r.first_generation limits).layers)

  hits_few : (p : Point) → length (view_hits r view p) ≤ 16
  unfolding view_hits hits_among
  hits_few p =
      let l = panels_in r.views r.surfaces view in
      let own = (view_at r.views view).surfaces in
      let hit = keep (is_panel_hit p) (reverse l) in
      omega (arith, length-map hit (λ (s : Panel). s.surface), length_keep (is_panel_hit p) (reverse l), length-reverse l, length-map (entries_of layers own) (panel_in r.surfaces), entries_few layers own, layers_few)

  own_few : (event : ArbitrationEvent) → ltb 16 (own_hits event (hits_for r x)).len ≡ false
  unfolding own_hits hits_for
  own_few event =
      let empty : ltb 16 (packed hits []).len ≡ false = rw (len_packed hits []) in
      let p = point_of x.payload in
      let some-hits : ltb 16 (packed hits (view_hits r view p)).len ≡ false = rw (len_packed hits (view_hits r view p)) (le-ltb 16 (length (view_hits r view p)) (hits_few p)) in
      either (λ (h : Hits). ltb 16 h.len ≡ false) (is_stack event) _ _ (either (λ (h : Hits). ltb 16 h.len ≡ false) (needs_hits x.payload) _ _ some-hits empty) empty

  -- ---- the whole arbitration
  pub arbitration_late : (event : ArbitrationEvent) → Within is_late (outcome_of (arbitrated r view event (hits_for r x)))
  unfolding arbitrated concluded
  arbitration_late event =
      let own = own_hits event (hits_for r x) in
      with_value is_late _ _ (settled_within (arbitrate_refusal r view own (resolved_outcome (resolution r view event))) r (with_trace (trace_of (next_revision r.revision) view event own (arbitration r view event (hits_for r x))) r)
      (then_within (undamaged) (then_within (status_within is_late (view_status r.views view) InvalidView StaleView refl refl) (then_within (few own (own_few event))
      (then_within (resolution_late r view event) (if_within is_late (eqb r.revision max_u64) RevisionExhausted refl))))))
    where
      undamaged : Within is_late (damage_refusal r)
      undamaged = rw whole (accepted is_late)

      few : (h : Hits) → ltb 16 h.len ≡ false → Within is_late (hits_refusal h)
      few h t = rw t (accepted is_late)
