-- Where the damage tests accept both states, no check of a routed event and no read answers 42: every other check has
-- another number.
use Rattle.std.specs.Prelude.{Ok, Err}
use Rattle.std.specs.Result.{result_and}
use Prim.Native.Nat.{ℕ}
use mathlib.Core.Path.{◌≡◌, refl, ap}
use mathlib.Core.Bool.{Bool, true, false, not, ◌&&◌, ◌||◌}
use lib.Dec.{eqb, ltb, leb}
use Rattle.lists.proofs.ListLaws.{clash}
use Rattle.handles.specs.Handles.{same_handle}
use Rattle.handles.specs.declared.GenerationalHandle.{GenerationalHandle}
use Rattle.maps.specs.Keys.{device_valid}
use Rattle.maps.specs.declared.keys.InputDeviceId.{InputDeviceId}
use Rattle.records.specs.declared.error.CompositionError.TheVariants as composition
use Rattle.records.specs.Errors.{number_of, refusal_if, Outcome}
use Rattle.records.specs.Views.{view_at, view_refusal}
use Rattle.composition_state.specs.declared.registry.CompositionRegistry.{CompositionRegistry}
use Rattle.composition_state.specs.Damage.{is_sound}
use Rattle.composition_reads.specs.Reads.{view_read_refusal}
use Rattle.composition_soundness.proofs.ClearLaws as registry
use Rattle.input_events.specs.declared.error.PlatformInputError.{PlatformInputError}
use Rattle.input_events.specs.declared.error.PlatformInputError.TheVariants as error
use Rattle.input_events.specs.declared.event.PlatformInputEvent.{PlatformInputEvent}
use Rattle.input_events.specs.declared.event.PlatformInputPayload.{PlatformInputPayload}
use Rattle.input_events.specs.declared.event.PlatformInputPayload.TheVariants as payload
use Rattle.input_events.specs.declared.presses.Effect.{Effect}
use Rattle.input_events.specs.declared.presses.Effect.TheVariants.{Opens, Ends, Nothing}
use Rattle.input_events.specs.Checks.{is_tilt_allowed, payload_refusal, header_refusal_in, event_refusal}
use Rattle.input_events.specs.Presses.{effect_of}
use Rattle.input_events.specs.RouterErrors.{router_error_number, router_number_of, from_composition, RouterOutcome}
use Rattle.input_router.specs.declared.router.PlatformInputRouter.{PlatformInputRouter}
use Rattle.input_router.specs.Damage.{is_router_sound}
use Rattle.input_router.specs.Order.{last_of, is_old, has_place_with, known_devices, order_of}
use Rattle.input_router.specs.Presses.{has_room}
use Rattle.input_route.specs.Checks.{effect_refusal, route_refusal}
use Rattle.calls.specs.declared.call.ReadCall.{ReadCall}
use Rattle.calls.specs.declared.call.ReadCall.TheVariants as read
use Rattle.calls.specs.declared.shown.Shown.{Shown}
use Rattle.calls.specs.declared.shown.Shown.TheVariants as shown
use Rattle.read_step.specs.Reads.{shown_as, read_step, outcome_of}

abbrev pub is42 : ℕ → Bool
is42 n = eqb n 42

-- an answer that is not 42
pub record Clear (o : RouterOutcome) : Type 0 where
  pub not_42 : router_number_of o ≡ 42 → ⊥

pub accepted : Clear (Ok tt)
accepted = record { not_42 = λ q. clash (ap is42 q) refl }

refused : (e : PlatformInputError) → is42 (router_error_number e) ≡ false → Clear (Err e)
refused e h = record { not_42 = λ q. clash (ap is42 q) h }

both_clear : (a b : RouterOutcome) → Clear a → Clear b → Clear (result_and a b)
both_clear (Ok _) b p q = q
both_clear (Err e) b p q = p

then_clear : {a b : RouterOutcome} → Clear a → Clear b → Clear (result_and a b)
then_clear {a} {b} p q = both_clear a b p q

if_clear : (b : Bool) (e : PlatformInputError) → is42 (router_error_number e) ≡ false → Clear (refusal_if b e)
if_clear true e h = refused e h
if_clear false e h = accepted

pub from_clear : (o : Outcome) → (number_of o ≡ 42 → ⊥) → Clear (from_composition o)
from_clear (Ok _) k = accepted
from_clear (Err e) k = record { not_42 = k }

-- the registry's own law of the same name, as the number
number_clear : (o : Outcome) → registry.Clear o → number_of o ≡ 42 → ⊥
number_clear o k q = clash (ap is42 q) k.clear

-- ---- the checks of an event
payload_clear : (p : PlatformInputPayload) → Clear (payload_refusal p)
unfolding payload_refusal
payload_clear (payload.Pointer p) = then_clear (if_clear (eqb p.contact 4294967295) error.InvalidPointer refl)
    (then_clear (if_clear (ltb 32768 p.pressure_q15) error.InvalidPressure refl) (if_clear (not (is_tilt_allowed p)) error.InvalidTilt refl))
payload_clear (payload.Wheel w) = if_clear (eqb w.contact 4294967295) error.InvalidPointer refl
payload_clear (payload.Key k) = accepted
payload_clear (payload.Shortcut s) = if_clear (eqb s.class_mask 0) error.InvalidShortcut refl
payload_clear (payload.Text t) = accepted
payload_clear (payload.Composition c) = if_clear (not (leb c.selection_start c.selection_end && leb c.selection_end c.length)) error.InvalidTextSelection refl
payload_clear (payload.GamepadSnapshot g) = accepted
payload_clear (payload.FocusChanged focused) = accepted
payload_clear (payload.VisibilityChanged visible) = accepted
payload_clear payload.DeviceDisconnected = accepted

effect_clear : (t : PlatformInputRouter) (e : Effect) → Clear (effect_refusal t e)
effect_clear t (Opens key) = if_clear (not (has_room t key)) error.Capacity refl
effect_clear t (Ends key) = accepted
effect_clear t Nothing = accepted

order_clear : (t : PlatformInputRouter) (d : InputDeviceId) (n time : ℕ) → Clear (order_of t d n time)
order_clear t d n time = then_clear (if_clear (eqb n 0 || is_old (last_of t d) n) error.InvalidSequence refl)
    (then_clear (if_clear (ltb time t.last_timestamp_micros) error.InvalidTimestamp refl) (if_clear (not (has_place_with (last_of t d) (known_devices t))) error.PortLimit refl))

event_clear : (r : CompositionRegistry) (e : PlatformInputEvent) → Clear (event_refusal r.views e)
unfolding event_refusal header_refusal_in
event_clear r e =
    let h = e.header in
    let own = view_at r.views h.view in
    then_clear (if_clear (not (device_valid h.device)) error.InvalidDevice refl)
    (then_clear
    (then_clear (from_clear (view_refusal r.views h.view) (number_clear (view_refusal r.views h.view) (registry.view_at_lem r h.view)))
    (then_clear (if_clear (not (same_handle own.window h.window)) error.InvalidWindow refl)
    (if_clear (not (eqb own.metrics.revision h.metrics_revision)) (error.Composition composition.RevisionConflict) refl)))
    (payload_clear e.payload))

pub route_clear : (r : CompositionRegistry) (t : PlatformInputRouter) (e : PlatformInputEvent) → is_sound r ≡ true → is_router_sound t ≡ true
    → Clear (route_refusal r t e)
unfolding route_refusal
route_clear r t e s w = rw (s, w) (then_clear (event_clear r e) (then_clear (effect_clear t (effect_of e))
    (order_clear t e.header.device e.header.sequence e.header.timestamp_micros)))

-- ---- the reads
module _ (r : CompositionRegistry) (t : PlatformInputRouter) (s : is_sound r ≡ true) (w : is_router_sound t ≡ true) where
  view_read_lem : (v : GenerationalHandle) → registry.Clear (view_read_refusal r v)
  view_read_lem v = registry.then_clear (registry.damage r s) (registry.view_at_lem r v)

  -- what a read shows does not alter whether it is accepted
  shown_clear : {T : Type 0} (f : T → Shown) (x : T) (o : Outcome) → registry.Clear o → registry.Clear (outcome_of (shown_as f (result_and o (Ok x))))
  shown_clear f x (Ok _) k = registry.accepted
  shown_clear f x (Err e) k = k

  read_answer : (call : ReadCall) → registry.Clear (outcome_of (read_step r t call))
  unfolding read_step
  read_answer (read.ViewWindow v) = shown_clear shown.Window _ (view_read_refusal r v) (view_read_lem v)
  read_answer (read.ViewMetrics v) = shown_clear shown.Metrics _ (view_read_refusal r v) (view_read_lem v)
  read_answer (read.ViewInputState v) = shown_clear shown.InputState _ (view_read_refusal r v) (view_read_lem v)
  read_answer (read.ViewPointerCaptures v) = shown_clear (λ captures. shown.Captures v) _ (view_read_refusal r v) (view_read_lem v)
  read_answer (read.SurfaceDescriptor h) = shown_clear shown.Descriptor _ _ (registry.then_clear (registry.damage r s) (registry.panel_at_lem r h))
  read_answer (read.ViewLayers v) = shown_clear (λ layers. shown.Layers v) _ (view_read_refusal r v) (view_read_lem v)
  read_answer read.Traces = registry.with_value shown.Traces _ (registry.damage r s)
  read_answer read.Counts = registry.with_value _ _ (registry.damage r s)
  read_answer read.ActiveBindingCount = rw w registry.accepted
  read_answer (read.HitTestStack a) =
      registry.with_value _ _ (registry.then_clear (registry.damage r s) (registry.then_clear (registry.view_at_lem r a.view) (registry.if_clear (ltb a.length 32) composition.PortLimit refl)))
  read_answer (read.InversePoint a) = registry.accepted

  pub read_clear : (call : ReadCall) → number_of (outcome_of (read_step r t call)) ≡ 42 → ⊥
  read_clear call = number_clear (outcome_of (read_step r t call)) (read_answer call)
