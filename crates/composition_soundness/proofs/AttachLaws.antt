-- An attach: the new panel is none of the layers there are, so they remain, and its own view gets it in its place.
use Prim.Native.Nat.{◌<◌}
use mathlib.Core.Path.{◌≡◌, ap, ◌∙◌}
use mathlib.Core.Bool.{true, false, not}
use native.Mathlib.Omega.{arith}
use lib.Dec.{eqb}
use lib.ListN.{length, length-set}
use lib.Seq.{get_or-set_same, get_or-set_other}
use Rattle.handles.specs.Claims.{Proper, MayIssue, Issues}
use Rattle.handles.specs.Slots.{lookup_of}
use Rattle.handles.specs.declared.arena.Allocation.{Allocation}
use Rattle.handles.specs.declared.arena.SlotStatus.TheVariants.{Live}
use Rattle.handles.specs.declared.GenerationalHandle.{GenerationalHandle}
use Rattle.handles.proofs.ClaimLaws as arena
use Rattle.handles.proofs.LookupLaws.{live_facts}
use Rattle.geometry.specs.Surface.{is_valid_geometry}
use Rattle.records.specs.declared.error.CompositionError.TheVariants.{InvalidView, StaleView, InvalidGeometry, PerViewCapacity, Capacity}
use Rattle.composition_state.specs.declared.registry.CompositionRegistry.{CompositionRegistry}
use Rattle.records.specs.declared.surface.SurfaceDescriptor.{SurfaceDescriptor}
use Rattle.records.specs.declared.surface.SurfaceRecord.{SurfaceRecord}
use Rattle.records.specs.Surfaces.{SurfaceTable, no_surface}
use Rattle.composition_state.specs.Damage.{damage_refusal}
use Rattle.records.specs.Errors.{refusal_if}
use Rattle.records.specs.Layers.{is_layer_of, layers_with}
use Rattle.composition_state.specs.Registry.{with_views, with_surfaces}
use Rattle.records.specs.Shortcuts.{shortcuts, is_of_other_slot, shortcuts_without}
use Rattle.records.specs.Views.{view_at, view_refusal, with_layers}
use Rattle.composition_state.proofs.SettleLaws.{then_last, if_accepted}
use Rattle.composition_panels.specs.Panels.{layer_count, attach_refusal, new_surface, surface_added, layer_added, attached, attach_surface}
use Rattle.composition_soundness.proofs.CaseLaws.{then_first, status_live}
use Rattle.composition_soundness.proofs.ListLaws.{kept_few}
use Rattle.composition_soundness.proofs.LiveLaws.{one_live, used_few, may_issue, not_issued, keeps_live}
use Rattle.composition_soundness.proofs.PartLaws.{Parts, bounds, keeps}
use Rattle.composition_soundness.proofs.ChangeLaws.{Remains, layers_remain, view_changed, surfaces_changed, shortcuts_changed}
use Rattle.composition_soundness.proofs.LayerLaws.{layer_live, layer_view, layer_when, layer_added_lem}

module _ (r : CompositionRegistry) (p : Parts r) (d : SurfaceDescriptor) where
  abbrev made : Allocation
  made = new_surface r

  abbrev after : SurfaceTable
  after = surface_added made d r.surfaces

  module _ (may : MayIssue r.surfaces.arena r.limits.max_surfaces r.first_generation) where
    proper : Proper made.arena r.limits.max_surfaces
    proper = (arena.claims).allocate_proper r.surfaces.arena _ r.first_generation p.surfaces may

    issues : Issues r.surfaces.arena made
    issues = (arena.claims).allocate_issues r.surfaces.arena _ r.first_generation p.surfaces may

    -- a layer there was
    remains : (view at : GenerationalHandle) → is_layer_of r.surfaces view at ≡ true → Remains r.surfaces after view at
    remains view at y =
        let live = layer_live r.surfaces view at y in
        let still = keeps_live r.surfaces.arena made issues at live in
        let other = get_or-set_other r.surfaces.records made.handle.index at.index (record { descriptor = d }) no_surface
        (λ i. not_issued r.surfaces.arena made issues at live (one_live made.arena at made.handle still issues.is i)) in
        record {
          layer = layer_when after view at still (ap (λ (x : SurfaceRecord). x.descriptor.view) other ∙ layer_view r.surfaces view at y);
          place = ap (λ (x : SurfaceRecord). x.descriptor.z_order) other;
        }

    with_panel : Parts (with_surfaces after r)
    with_panel = surfaces_changed r p after proper (length-set r.surfaces.records made.handle.index (record { descriptor = d }) ∙ p.surface_records)
        (λ view e x. layers_remain r.surfaces after _ view (view_at r.views view).surfaces (is_layer_of r.surfaces view) (remains view) x.own x)

    -- the new panel
    within : made.handle.index < length r.surfaces.records
    within = omega (arith, (live_facts made.arena made.handle issues.is).used, used_few made.arena _ proper, (bounds r p).surfaces, p.surface_records)

    own : is_layer_of after d.view made.handle ≡ true
    own = layer_when after d.view made.handle issues.is
        (ap (λ (x : SurfaceRecord). x.descriptor.view) (get_or-set_same r.surfaces.records made.handle.index (record { descriptor = d }) no_surface within))

    with_layer : lookup_of r.views.arena d.view ≡ Live → eqb (layer_count r.views d.view) r.limits.max_surfaces_per_view ≡ false
        → Parts (with_views (layer_added after.records made.handle d.view r.views) (with_surfaces after r))
    with_layer live room =
        let v = view_at r.views d.view in
        view_changed (with_surfaces after r) with_panel d.view (with_layers (layers_with after.records made.handle v.surfaces) v)
        (λ view e i x. record {
          window = x.window;
          layered = layer_added_lem after _ view v.surfaces x.layered made.handle
              (ap (λ (g : GenerationalHandle). is_layer_of after g made.handle) (one_live r.views.arena view d.view e live i) ∙ own) room;
          captured = x.captured;
        })

  pub attach : Parts (attach_surface r d).registry
  unfolding attach_surface attached
  attach = keeps (attach_refusal r d) r _ p (λ a.
      let a₁ = then_last (refusal_if (not (is_valid_geometry d.geometry)) InvalidGeometry) _ (then_last (damage_refusal r) _ a) in
      let live = status_live (lookup_of r.views.arena d.view) InvalidView StaleView (then_first (view_refusal r.views d.view) _ a₁) in
      let a₂ = then_last (view_refusal r.views d.view) _ a₁ in
      let crowded = eqb (layer_count r.views d.view) r.limits.max_surfaces_per_view in
      let room = if_accepted crowded PerViewCapacity (then_first (refusal_if crowded PerViewCapacity) _ a₂) in
      let full = if_accepted (eqb r.surfaces.arena.live r.limits.max_surfaces) Capacity (then_last (refusal_if crowded PerViewCapacity) _ a₂) in
      let may = may_issue r.surfaces.arena _ p.surfaces r.first_generation (bounds r p).surfaces full (bounds r p).named in
      shortcuts_changed _ (with_layer may live room) (shortcuts_without made.handle.index r.shortcuts) (kept_few shortcuts (is_of_other_slot made.handle.index) r.shortcuts 256 p.shortcuts))
