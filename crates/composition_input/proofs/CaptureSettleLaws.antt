-- A refused call answers the registry that came in, whatever change was computed beside it.
use Rattle.std.specs.Prelude.{None, Some, Ok, Err, unwrap_or}
use Rattle.std.specs.Result.{result_and}
use Prim.Native.Nat.{ℕ}
use mathlib.Core.Path.{◌≡◌, refl}
use mathlib.Core.Bool.{Bool, true, false, cond, not}
use Rattle.handles.specs.declared.GenerationalHandle.{GenerationalHandle}
use Rattle.maps.specs.Keys.{pointer_valid}
use Rattle.maps.specs.MapTables.{accepts}
use Rattle.maps.specs.Captures.{captures, capture_key, insertion_of, PointerCaptures}
use Rattle.maps.specs.declared.keys.CompositionPointerId.{CompositionPointerId}
use Rattle.records.specs.declared.error.CompositionError.TheVariants.{NotInteractive, PortLimit}
use Rattle.composition_state.specs.declared.registry.CompositionRegistry.{CompositionRegistry}
use Rattle.records.specs.Errors.{refusal_if, Outcome}
use Rattle.composition_state.specs.Registry.{settled}
use Rattle.records.specs.Surfaces.{surface_refusal}
use Rattle.records.specs.Views.{view_refusal, with_pointer_capture, with_pointer_captures}
use Rattle.composition_input.specs.Focus.{entry_refusal, own_view, interactive_refusal, with_view_record}
use Rattle.composition_input.specs.Captures.{is_primary, capture, own_record, capture_refusal, capture_pointer_for}

-- a change that is computed beside a check that refuses is not looked at
last_refused : (a b d f g : Outcome) (r x y : CompositionRegistry) → let o = result_and a (result_and b (result_and d (result_and f (result_and g (Err PortLimit))))) in settled o r x ≡ settled o r y
last_refused (Err e) b d f g r x y = refl
last_refused (Ok _) (Err e) d f g r x y = refl
last_refused (Ok _) (Ok _) (Err e) f g r x y = refl
last_refused (Ok _) (Ok _) (Ok _) (Err e) g r x y = refl
last_refused (Ok _) (Ok _) (Ok _) (Ok _) (Err e) r x y = refl
last_refused (Ok _) (Ok _) (Ok _) (Ok _) (Ok _) r x y = refl

-- a map that refused its entry is not looked at, since the call is refused with it
module _ (r : CompositionRegistry) (p : CompositionPointerId) (surface : GenerationalHandle) (expected : ℕ) where
  abbrev pub room_after : Outcome → Outcome
  room_after full =
      result_and (entry_refusal r expected)
      (result_and (refusal_if (not (pointer_valid p)) NotInteractive)
      (result_and (surface_refusal r.surfaces surface)
      (result_and (interactive_refusal r surface)
      (result_and (view_refusal r.views (own_view r surface)) full))))

  abbrev pub captured_with : PointerCaptures → CompositionRegistry
  captured_with m =
      let taken = with_pointer_captures m (own_record r surface) in
      with_view_record (own_view r surface) (cond (is_primary p) (with_pointer_capture (Some surface) taken) taken) r

  inserted_settled : (b : Bool) (taken t : PointerCaptures)
      → settled (room_after (refusal_if (not b) PortLimit)) r (captured_with (unwrap_or (cond b (Some taken) None) t))
      ≡ settled (room_after (refusal_if (not b) PortLimit)) r (captured_with taken)
  inserted_settled true taken t = refl
  inserted_settled false taken t =
      last_refused (entry_refusal r expected) (refusal_if (not (pointer_valid p)) NotInteractive) (surface_refusal r.surfaces surface) (interactive_refusal r surface)
      (view_refusal r.views (own_view r surface)) r (captured_with t) (captured_with taken)

  pub captured_settled : let t = (own_record r surface).pointer_captures in
      settled (capture_refusal r p surface expected) r (captured_with (unwrap_or (insertion_of (capture p surface) t) t)) ≡ capture_pointer_for r p surface expected
  unfolding capture_pointer_for
  captured_settled = inserted_settled (accepts captures capture_key (capture p surface) (own_record r surface).pointer_captures) _ _
