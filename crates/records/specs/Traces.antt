-- The last arbitrations, oldest first, each with its hits and deliveries.
use Rattle.std.specs.Prelude.{false, [], None}
use Rattle.lists.specs.Tables.{Shape, table, packed}
use Rattle.lists.specs.declared.table.Table.{Table}
use Rattle.handles.specs.Handles.{handle_of}
use Rattle.handles.specs.declared.GenerationalHandle.{GenerationalHandle}
use Rattle.records.specs.declared.trace.ArbitrationEvent.TheVariants.{Keyboard}
use Rattle.records.specs.declared.trace.InputDelivery.{InputDelivery}
use Rattle.records.specs.declared.trace.CompositionTrace.{CompositionTrace}

-- RULES.md, Arbitrate: at most 16 hits are handed in
abbrev pub Hits : Type 0
Hits = Table GenerationalHandle 16

abbrev pub hits : Shape GenerationalHandle Hits
hits = table 16 (handle_of 0 0)

-- a view has at most 16 panels, so there are at most 16 deliveries
abbrev pub Deliveries : Type 0
Deliveries = Table InputDelivery 16

abbrev pub no_delivery : InputDelivery
no_delivery = record { surface = handle_of 0 0; observed = false }

abbrev pub deliveries : Shape InputDelivery Deliveries
deliveries = table 16 no_delivery

-- RULES.md, Port limits: 32 traces
abbrev pub Traces : Type 0
Traces = Table CompositionTrace 32

abbrev pub no_trace : CompositionTrace
no_trace =
    record {
      revision = 0;
      view = handle_of 0 0;
      event = Keyboard;
      hits = packed hits [];
      deliveries = packed deliveries [];
      consumed_by = None;
    }

abbrev pub traces : Shape CompositionTrace Traces
traces = table 32 no_trace
