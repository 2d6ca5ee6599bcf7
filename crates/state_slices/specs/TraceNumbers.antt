-- A trace from its numbers, and the ring of traces: how many there are and where the oldest stands are in front.
use Rattle.std.specs.Prelude.{ℕ, ◌+◌, ◌%◌, List, [], ◌∷◌, get_or, Option}
use Rattle.handles.specs.declared.GenerationalHandle.{GenerationalHandle}
use Rattle.maps.specs.declared.keys.CompositionPointerId.{CompositionPointerId}
use Rattle.records.specs.Traces.{hits, deliveries, traces, Hits, Deliveries, Traces}
use Rattle.records.specs.declared.trace.ArbitrationEvent.{ArbitrationEvent}
use Rattle.records.specs.declared.trace.ArbitrationEvent.TheVariants.{Pointer, PointerStack, PointerFor, PointerStackFor, Keyboard, KeyboardFor, Gamepad, GamepadFor, Text, Shortcut, SystemShortcut}
use Rattle.records.specs.declared.trace.InputDelivery.{InputDelivery}
use Rattle.records.specs.declared.trace.CompositionTrace.{CompositionTrace}
use Rattle.call_fields.specs.Narrow.{is_one}
use Rattle.call_fields.specs.Groups.{handle_of, pointer_of}
use Rattle.slices.specs.Parts.{part, row_at, table_of}
use Rattle.state_slices.specs.Layout.{traces_start, trace_size}
use Rattle.state_slices.specs.ViewNumbers.{optional_at}

-- the event of each kind, in declared order
abbrev pub events : CompositionPointerId → Option GenerationalHandle → ℕ → List ArbitrationEvent
events p t mask =
    Pointer t ∷ PointerStack ∷ PointerFor p t ∷ PointerStackFor p ∷ Keyboard ∷ KeyboardFor t ∷ Gamepad ∷ GamepadFor t
    ∷ Text ∷ Shortcut ∷ SystemShortcut mask ∷ []

-- 8 numbers: kind, pointer (3), hit or target (3), mask; a kind past the last is read as Keyboard
unfoldable pub event_from : List ℕ → ArbitrationEvent
event_from b =
    get_or (events (pointer_of (get_or b 1 0) (get_or b 2 0) (get_or b 3 0)) (optional_at b 4) (get_or b 7 0))
    (get_or b 0 0) Keyboard

unfoldable pub handle_from : List ℕ → GenerationalHandle
handle_from b = handle_of (get_or b 0 0) (get_or b 1 0)

unfoldable pub optional_from : List ℕ → Option GenerationalHandle
optional_from b = optional_at b 0

-- 33 numbers: the count, 16 handles
unfoldable pub hits_from : List ℕ → Hits
hits_from b = table_of hits (row_at handle_from 1 2 b) (get_or b 0 0)

unfoldable pub delivery_from : List ℕ → InputDelivery
delivery_from b = record { surface = handle_of (get_or b 0 0) (get_or b 1 0); observed = is_one (get_or b 2 0) }

-- 49 numbers: the count, 16 deliveries
unfoldable pub deliveries_from : List ℕ → Deliveries
deliveries_from b = table_of deliveries (row_at delivery_from 1 3 b) (get_or b 0 0)

unfoldable pub trace_from : List ℕ → CompositionTrace
trace_from b = record {
  revision = get_or b 0 0;
  view = handle_from (part b 1 2);
  event = event_from (part b 3 8);
  hits = hits_from (part b 14 33);
  deliveries = deliveries_from (part b 47 49);
  consumed_by = optional_from (part b 11 3);
}

-- the traces of the ring, the oldest first
abbrev pub ring_at : List ℕ → ℕ → ℕ → CompositionTrace
ring_at moving start i = row_at trace_from traces_start trace_size moving ((start + i) % 32)

unfoldable pub traces_from : List ℕ → Traces
traces_from moving = table_of traces (ring_at moving (get_or moving 2 0)) (get_or moving 1 0)
