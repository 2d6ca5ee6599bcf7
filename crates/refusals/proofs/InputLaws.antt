-- A refusal of a call on focus, captures, compositions or shortcuts: no check of it answers 21.
use Rattle.std.specs.Prelude.{Option, None, Some, Ok, Err}
use Prim.Native.Nat.{ℕ}
use mathlib.Core.Path.{◌≡◌, refl, ap, ◌∙◌}
use mathlib.Core.Bool.{Bool, true, false, cond, not, ◌||◌}
use lib.Dec.{eqb, ltb}
use lib.ListN.{length}
use borrow.Author.Tests.{not-true}
use Rattle.lists.specs.Lists.{all}
use Rattle.lists.specs.Tables.{entries_of}
use Rattle.handles.specs.Handles.{same_handle, holds_handle}
use Rattle.handles.specs.declared.GenerationalHandle.{GenerationalHandle}
use Rattle.maps.specs.Captures.{captures, capture_key, surface_of}
use Rattle.maps.specs.Keys.{pointer_valid, pointer_key}
use Rattle.maps.specs.MapTables.{found, accepts}
use Rattle.maps.specs.declared.keys.CompositionPointerId.{CompositionPointerId}
use Rattle.maps.specs.declared.keys.InputDeviceId.{InputDeviceId}
use Rattle.records.specs.declared.error.CompositionError.{CompositionError}
use Rattle.records.specs.declared.error.CompositionError.TheVariants.{Capacity, WrongView, NotInteractive, TextUnsupported, PortLimit}
use Rattle.composition_state.specs.declared.registry.CompositionRegistry.{CompositionRegistry}
use Rattle.records.specs.Errors.{error_number, Outcome}
use Rattle.composition_state.specs.Registry.{outcome_of, settled, answered}
use Rattle.records.specs.Surfaces.{descriptor_of}
use Rattle.composition_input.specs.Captures.{primary, capture, own_record, capture_refusal, capture_pointer_for, owner_refusal, release_for_refusal, release_pointer_for, release_refusal, release_pointer, device_captures, device_refusal, release_device_pointer_captures}
use Rattle.composition_input.specs.Focus.{described, own_view, focus_target_refusal, focus_refusal, set_focus, begin_ime_refusal, begin_ime, end_ime_refusal, end_ime, suspend_refusal, suspend_view_input}
use Rattle.composition_shortcuts.specs.Registrations.{Registrations}
use Rattle.composition_shortcuts.specs.Register.{registrations, is_fit, fits, register_refusal, register_surface_system_shortcut_set, registration_list, of_mask}
use Rattle.calls.specs.declared.arguments.DeviceArguments.{DeviceArguments}
use Rattle.calls.specs.declared.call.InputCall.{InputCall}
use Rattle.calls.specs.declared.call.InputCall.TheVariants as input
use Rattle.calls.specs.declared.call.ShortcutCall.{ShortcutCall}
use Rattle.calls.specs.declared.call.ShortcutCall.TheVariants as shortcut
use Rattle.registry_step.specs.Steps.{input_step, shortcut_step}
use Rattle.refusals.specs.Changes.{input_change, device_change, register_change, shortcut_change}
use Rattle.refusals.proofs.LateLaws.{without_value, taken≢refused, same_error, settled_late}
use Rattle.refusals.proofs.LeftLaws.{cleared, device_left}
use Rattle.refusals.proofs.NumberLaws.{is_other, Other, accepted, if_within, then_within, conflict, damage, entry, view_at_lem, panel_at_lem, interactive}

module _ (r : CompositionRegistry) where
  -- ---- the checks
  focus_target : (view : GenerationalHandle) (surface : Option GenerationalHandle) → Other (focus_target_refusal r view surface)
  focus_target view None = accepted is_other
  focus_target view (Some h) = then_within (panel_at_lem r h) (then_within (if_within is_other (not (same_handle (own_view r h) view)) WrongView refl) (interactive r h))

  owner : (h : GenerationalHandle) (n : ℕ) → Other (owner_refusal r h n)
  owner h n = then_within (entry r n) (then_within (panel_at_lem r h) (view_at_lem r (own_view r h)))

  captured : (p : CompositionPointerId) (h : GenerationalHandle) (n : ℕ) → Other (capture_refusal r p h n)
  captured p h n =
      then_within (entry r n) (then_within (if_within is_other (not (pointer_valid p)) NotInteractive refl) (then_within (panel_at_lem r h) (then_within (interactive r h) (then_within (view_at_lem r (own_view r h))
      (if_within is_other (not (accepts captures capture_key (capture p h) (own_record r h).pointer_captures)) PortLimit refl)))))

  -- ---- every call on focus, captures and compositions
  pub input_late : (call : InputCall) (e : CompositionError) → (input_step r call).outcome ≡ Err e
      → (input_step r call).registry ≡ cond (eqb (error_number e) 21) (input_change r call) r
  unfolding input_step input_change set_focus begin_ime end_ime suspend_view_input capture_pointer_for release_pointer_for release_pointer
  input_late (input.SetFocus a) e q =
      settled_late (focus_refusal r a.view a.surface a.revision) r (input_change r (input.SetFocus a))
      (then_within (entry r a.revision) (then_within (focus_target a.view a.surface) (view_at_lem r a.view))) e q
  input_late (input.CapturePointer a) e q =
      settled_late (capture_refusal r primary a.handle a.revision) r (input_change r (input.CapturePointer a)) (captured primary a.handle a.revision) e q
  input_late (input.CapturePointerFor a) e q =
      settled_late (capture_refusal r a.pointer a.surface a.revision) r (input_change r (input.CapturePointerFor a)) (captured a.pointer a.surface a.revision) e q
  input_late (input.ReleasePointer a) e q =
      settled_late (release_refusal r a.handle a.revision) r (input_change r (input.ReleasePointer a))
      (then_within (owner a.handle a.revision) (if_within is_other (not (holds_handle (own_record r a.handle).pointer_capture a.handle)) NotInteractive refl)) e q
  input_late (input.ReleasePointerFor a) e q =
      settled_late (release_for_refusal r a.pointer a.surface a.revision) r (input_change r (input.ReleasePointerFor a))
      (then_within (owner a.surface a.revision)
      (if_within is_other (not (holds_handle (surface_of (found captures capture_key (pointer_key a.pointer) (own_record r a.surface).pointer_captures)) a.surface)) NotInteractive refl)) e q
  input_late (input.BeginIme a) e q =
      settled_late (begin_ime_refusal r a.handle a.revision) r (input_change r (input.BeginIme a))
      (then_within (entry r a.revision) (then_within (panel_at_lem r a.handle) (then_within (if_within is_other (not (described r a.handle).accepts_text) TextUnsupported refl)
      (then_within (view_at_lem r (own_view r a.handle)) (if_within is_other (not (holds_handle (own_record r a.handle).focus a.handle)) NotInteractive refl))))) e q
  input_late (input.EndIme a) e q =
      settled_late (end_ime_refusal r a.handle a.revision) r (input_change r (input.EndIme a))
      (then_within (entry r a.revision) (then_within (panel_at_lem r a.handle) (then_within (view_at_lem r (own_view r a.handle))
      (if_within is_other (not (holds_handle (own_record r a.handle).ime a.handle)) NotInteractive refl)))) e q
  input_late (input.SuspendViewInput a) e q =
      settled_late (suspend_refusal r a.handle a.revision) r (input_change r (input.SuspendViewInput a)) (then_within (entry r a.revision) (view_at_lem r a.handle)) e (without_value _ _ e q)

  -- ---- every call on shortcuts
  registered : (h : GenerationalHandle) (new : Registrations) (n : ℕ) (e : CompositionError) → (register_surface_system_shortcut_set r h new n).outcome ≡ Err e
      → (register_surface_system_shortcut_set r h new n).registry ≡ cond (eqb (error_number e) 21) (register_change r h new) r
  unfolding register_surface_system_shortcut_set
  registered h new n e q =
      settled_late (register_refusal r h new n) r (register_change r h new)
      (then_within (damage r) (then_within (conflict r.revision n) (then_within (panel_at_lem r h) (then_within (if_within is_other (ltb 64 new.len) Capacity refl)
      (then_within (if_within is_other (not (all (is_fit (descriptor_of r.surfaces h).input) (entries_of registrations new))) NotInteractive refl)
      (if_within is_other (not (fits h.index new r.shortcuts)) PortLimit refl)))))) e q

  pub shortcut_late : (call : ShortcutCall) (l : Registrations) (e : CompositionError) → (shortcut_step r call l).outcome ≡ Err e
      → (shortcut_step r call l).registry ≡ cond (eqb (error_number e) 21) (shortcut_change r call l) r
  unfolding shortcut_step shortcut_change
  shortcut_late (shortcut.RegisterSet a) l e q = registered a.handle l a.revision e q
  shortcut_late (shortcut.RegisterOne a) l e q = registered a.surface (registration_list a.registration) a.revision e q
  shortcut_late (shortcut.SetMask a) l e q = registered a.surface (registration_list (of_mask a.class_mask)) a.revision e q

-- ---- the captures of a device
-- a release that finds none is refused by its checks alone
unlisted : (o : Outcome) (r changed : CompositionRegistry) → Other o → (none : Bool) (e : CompositionError) → (cond none (answered o r) (settled o r changed)).outcome ≡ Err e
    → (cond none (answered o r) (settled o r changed)).registry ≡ cond (eqb (error_number e) 21) changed r
unlisted o r changed n false e q = settled_late o r changed n e q
unlisted (Err f) r changed n true e q = rw (not-true (eqb (error_number e) 21) (rw (same_error q) at n.is))
unlisted (Ok _) r changed n true e q = taken≢refused q

pub device_late : (r : CompositionRegistry) (a : DeviceArguments) (e : CompositionError)
    → outcome_of (release_device_pointer_captures r a.device a.device_generation) ≡ Err e
    → (release_device_pointer_captures r a.device a.device_generation).registry
    ≡ cond (eqb (error_number e) 21) (device_change r a) r
unfolding release_device_pointer_captures
device_late r a e q =
    let d : InputDeviceId = record { value = a.device; generation = a.device_generation } in
    unlisted (device_refusal r d.value d.generation) r (cleared d r)
    (then_within (damage r) (if_within is_other (eqb d.value 0 || eqb d.generation 0) NotInteractive refl))
    (eqb (length (device_captures r.views d.value d.generation)) 0) e (without_value _ _ e q)
    ∙ ap (λ (changed : CompositionRegistry). cond (eqb (error_number e) 21) changed r) (device_left d r)
