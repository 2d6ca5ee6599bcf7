-- What the rules (RULES.md, Layers, Targets) say of every arbitration, beyond the definitions.
use Rattle.std.specs.Prelude.{ℕ, ◌+◌, ◌≡◌, true, false, Option, Some, Ok, Err}
use mathlib.Core.List.{List, [], ◌∷◌, ◌++◌, map, reverse, Memᴰ}
use Rattle.lists.specs.Lists.{keep}
use Rattle.lists.specs.Maps.{rising}
use Rattle.lists.specs.Tables.{entries_of}
use Rattle.handles.specs.declared.GenerationalHandle.{GenerationalHandle}
use Rattle.maps.specs.declared.keys.CompositionPointerId.{CompositionPointerId}
use Rattle.records.specs.declared.error.CompositionError.{CompositionError}
use Rattle.composition_state.specs.declared.registry.CompositionRegistry.{CompositionRegistry}
use Rattle.records.specs.declared.surface.SurfaceInputPolicy.TheVariants.{Observe, Exclusive}
use Rattle.records.specs.declared.surface.SurfaceRecord.{SurfaceRecord}
use Rattle.records.specs.declared.trace.ArbitrationEvent.{ArbitrationEvent}
use Rattle.records.specs.declared.trace.ArbitrationEvent.TheVariants.{Pointer, PointerStack, PointerFor, PointerStackFor, SystemShortcut}
use Rattle.records.specs.declared.trace.CompositionTrace.{CompositionTrace}
use Rattle.records.specs.Traces.{Hits, deliveries}
use Rattle.records.specs.declared.trace.InputDelivery.{InputDelivery}
use Rattle.records.specs.declared.view.ViewRecord.{ViewRecord}
use Rattle.records.specs.Layers.{layer_lt, itself}
use Rattle.composition_state.specs.Registry.{with_revision}
use Rattle.view_panels.specs.Panels.{Panel, handles_of}
use Rattle.composition_shortcuts.specs.Resolve.{resolve_system_shortcut}
use Rattle.composition_arbitration.specs.declared.arbitrate.ArbitrationResult.{ArbitrationResult}
use Rattle.composition_arbitration.specs.declared.targets.Choice.{Choice}
use Rattle.composition_arbitration.specs.declared.walk.Verdict.{Verdict}
use Rattle.composition_arbitration.specs.Arbitration.{TakingPart, own_hits, arbitration_among, trace_of, with_trace, arbitrated_among}
use Rattle.composition_arbitration.specs.Layers.{delivers, consumes, verdict_of, walked, deliveries_of, consumer_of, walk_of}
use Rattle.composition_arbitration.specs.Targets.{is_among, capture_for, chosen}

-- a list ends with this delivery
pub record EndsWith (d : InputDelivery) (l : List InputDelivery) : Type 0 where
  pub front : List InputDelivery
  pub is : l ≡ front ++ (d ∷ [])

abbrev pub surfaces_of : List InputDelivery → List GenerationalHandle
surfaces_of l = map (λ (d : InputDelivery). d.surface) l

-- the panels walked are those from some panel up to the top, and the deliveries are those of them that deliver, topmost
-- first
pub record FromTheTop (at : Panel → Verdict) (l : List Panel) : Type 0 where
  pub below : List Panel
  pub above : List Panel
  pub split : l ≡ below ++ above
  pub all_walked : walked at l ≡ reverse above
  pub delivered_to : surfaces_of (deliveries_of at (walked at l))
      ≡ reverse (handles_of (keep (λ p. delivers (at p)) above))

-- of any list of panels, from lowest to highest
pub record WalkClaims : Type 0 where
  -- the consumer, if any, is the last delivery, and not observed
  pub consumer_last : (at : Panel → Verdict) (l : List Panel) (h : GenerationalHandle)
      → consumer_of at (walked at l) ≡ Some h
      → EndsWith (record { surface = h; observed = false }) (deliveries_of at (walked at l))
  -- every delivery is to one of the panels, topmost first
  pub topmost_first : (at : Panel → Verdict) (l : List Panel) → FromTheTop at l
  -- each at most once: read from the last on, the deliveries rise in layer order, if the panels do
  pub each_once : (at : Panel → Verdict) (records : List SurfaceRecord) (l : List Panel)
      → rising itself (layer_lt records) (handles_of l) ≡ true
      → rising itself (layer_lt records) (reverse (surfaces_of (deliveries_of at (walked at l)))) ≡ true
  -- the panels above the first that consumes are all walked, with it
  pub all_above : (at : Panel → Verdict) (below above : List Panel) (c : Panel)
      → consumes (at c) ≡ true → keep (λ p. consumes (at p)) above ≡ [] → walked at (below ++ (c ∷ above))
      ≡ reverse (c ∷ above)
  -- an Observe panel that is walked is delivered to, observed
  pub observers_hear : (c : Choice) (hits : List GenerationalHandle) (l : List Panel) (p : Panel)
      → Memᴰ p (walked (verdict_of c hits) l) → p.descriptor.input ≡ Observe
      → Memᴰ (record { surface = p.surface; observed = true })
      (deliveries_of (verdict_of c hits) (walked (verdict_of c hits) l))
  -- an Exclusive panel is never passed: what lies below it changes nothing
  pub exclusive_ends : (c : Choice) (hits : List GenerationalHandle) (below above : List Panel) (p : Panel)
      → p.descriptor.input ≡ Exclusive → walked (verdict_of c hits) (below ++ (p ∷ above))
      ≡ walked (verdict_of c hits) (p ∷ above)
  -- with a capture, hits do not matter: by the view's single field, and by the map entry of the pointer that the event
  -- names
  pub capture_decides : (v : ViewRecord) (owner : GenerationalHandle) (m n : Option GenerationalHandle)
      (hits more : List GenerationalHandle) (l : List Panel)
      → v.pointer_capture ≡ Some owner
      → (walk_of (verdict_of (chosen (Pointer m) v) hits) l ≡ walk_of (verdict_of (chosen (Pointer n) v) more) l)
      × (walk_of (verdict_of (chosen PointerStack v) hits) l ≡ walk_of (verdict_of (chosen PointerStack v) more) l)
  pub named_capture_decides : (v : ViewRecord) (p : CompositionPointerId) (owner : GenerationalHandle)
      (m n : Option GenerationalHandle) (hits more : List GenerationalHandle) (l : List Panel) → capture_for p v ≡ Some owner
      → (walk_of (verdict_of (chosen (PointerFor p m) v) hits) l
      ≡ walk_of (verdict_of (chosen (PointerFor p n) v) more) l)
      × (walk_of (verdict_of (chosen (PointerStackFor p) v) hits) l
      ≡ walk_of (verdict_of (chosen (PointerStackFor p) v) more) l)
  -- the order of the hits decides nothing: lists with the same panels give the same answer
  pub hit_order : (c : Choice) (hits more : List GenerationalHandle) (l : List Panel)
      → ((h : GenerationalHandle) → is_among h hits ≡ is_among h more)
      → walk_of (verdict_of c hits) l ≡ walk_of (verdict_of c more) l

-- the trace that an accepted call stores
abbrev pub new_trace : TakingPart → CompositionRegistry → GenerationalHandle → ArbitrationEvent → Hits
    → CompositionTrace
new_trace part r view event h =
    trace_of (r.revision + 1) view event (own_hits event h) (arbitration_among part r view event h)

-- whoever takes part
pub record ArbitrationClaims : Type 0 where
  -- every refusal, 21 too, leaves the registry as it came
  pub refused : (part : TakingPart) (r : CompositionRegistry) (view : GenerationalHandle) (event : ArbitrationEvent)
      (h : Hits) (e : CompositionError)
      → (arbitrated_among part r view event h).outcome ≡ Err e → (arbitrated_among part r view event h).registry ≡ r
  -- an accepted call changes the traces and the revision, which rises by exactly 1, and nothing else
  pub accepted : (part : TakingPart) (r : CompositionRegistry) (view : GenerationalHandle) (event : ArbitrationEvent)
      (h : Hits) (x : ArbitrationResult) → (arbitrated_among part r view event h).outcome ≡ Ok x
      → (arbitrated_among part r view event h).registry
      ≡ with_revision (r.revision + 1) (with_trace (new_trace part r view event h) r)
  -- the consumer, if any, is the last delivery, and not observed
  pub consumer_last : (part : TakingPart) (r : CompositionRegistry) (view : GenerationalHandle)
      (event : ArbitrationEvent) (h : Hits) (s : GenerationalHandle)
      → (arbitration_among part r view event h).consumed_by ≡ Some s
      → EndsWith (record { surface = s; observed = false })
      (entries_of deliveries (arbitration_among part r view event h).deliveries)
  -- a system shortcut's winner alone gets the event and consumes it
  pub winner_alone : (part : TakingPart) (r : CompositionRegistry) (view s : GenerationalHandle) (mask : ℕ) (h : Hits)
      → resolve_system_shortcut r.views r.surfaces view mask part.registrations ≡ Ok (Some s)
      → (entries_of deliveries (arbitration_among part r view (SystemShortcut mask) h).deliveries
      ≡ record { surface = s; observed = false } ∷ [])
      × ((arbitration_among part r view (SystemShortcut mask) h).consumed_by ≡ Some s)
