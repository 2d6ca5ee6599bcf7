-- The traces as numbers.
use Rattle.handles.specs.declared.GenerationalHandle.{GenerationalHandle}
use Rattle.std.specs.Prelude.{ℕ, List, [], ◌∷◌, ◌++◌, Option, None}
use Rattle.lists.specs.Tables.{entries_of}
use Rattle.maps.specs.declared.keys.CompositionPointerId.{CompositionPointerId}
use Rattle.records.specs.Traces.{hits, deliveries, traces, Deliveries, Hits, Traces}
use Rattle.records.specs.declared.trace.ArbitrationEvent.{ArbitrationEvent}
use Rattle.records.specs.declared.trace.ArbitrationEvent.TheVariants as E
use Rattle.records.specs.declared.trace.CompositionTrace.{CompositionTrace}
use Rattle.records.specs.declared.trace.InputDelivery.{InputDelivery}
use Rattle.answer_numbers.specs.Groups.{handle_numbers, optional_numbers, pointer_numbers}
use Rattle.answer_numbers.specs.Numbers.{Number, plain, flag, list_numbers}
use Rattle.answer_numbers.specs.declared.events.EventFields.{EventFields}

-- the fields that every kind of event is written with
abbrev pub fields_of : ℕ → CompositionPointerId → Option GenerationalHandle → ℕ → EventFields
fields_of kind pointer target mask = record { kind = kind; pointer = pointer; target = target; class_mask = mask }

-- no pointer: all 0
abbrev pub no_pointer : CompositionPointerId
no_pointer = record { device = 0; device_generation = 0; contact = 0 }

-- an event's kind and fields; what the kind has not is none or 0
abbrev pub event_fields : ArbitrationEvent → EventFields
event_fields (E.Pointer hit) = fields_of 0 no_pointer hit 0
event_fields E.PointerStack = fields_of 1 no_pointer None 0
event_fields (E.PointerFor pointer hit) = fields_of 2 pointer hit 0
event_fields (E.PointerStackFor pointer) = fields_of 3 pointer None 0
event_fields E.Keyboard = fields_of 4 no_pointer None 0
event_fields (E.KeyboardFor target) = fields_of 5 no_pointer target 0
event_fields E.Gamepad = fields_of 6 no_pointer None 0
event_fields (E.GamepadFor target) = fields_of 7 no_pointer target 0
event_fields E.Text = fields_of 8 no_pointer None 0
event_fields E.Shortcut = fields_of 9 no_pointer None 0
event_fields (E.SystemShortcut mask) = fields_of 10 no_pointer None mask

-- kind, K, O, mask
abbrev pub fields_numbers : EventFields → List Number
fields_numbers e =
    plain e.kind ∷ (pointer_numbers e.pointer ++ (optional_numbers e.target ++ (plain e.class_mask ∷ [])))

-- the hits handed in: n, n × H
abbrev pub hits_numbers : Hits → List Number
hits_numbers t = list_numbers handle_numbers (entries_of hits t)

-- a delivery: H, observed
abbrev pub delivery_numbers : InputDelivery → List Number
delivery_numbers d = handle_numbers d.surface ++ (flag d.observed ∷ [])

-- the deliveries: n, n × (H, observed)
abbrev pub deliveries_numbers : Deliveries → List Number
deliveries_numbers t = list_numbers delivery_numbers (entries_of deliveries t)

-- T: revision, view, event with its hits, deliveries, consumer
abbrev pub trace_numbers : CompositionTrace → List Number
trace_numbers t =
    plain t.revision
    ∷ (handle_numbers t.view
    ++ (fields_numbers (event_fields t.event)
    ++ (hits_numbers t.hits
    ++ (deliveries_numbers t.deliveries
    ++ optional_numbers t.consumed_by))))

-- the traces, oldest first: n, n × T
abbrev pub traces_numbers : Traces → List Number
traces_numbers t = list_numbers trace_numbers (entries_of traces t)
