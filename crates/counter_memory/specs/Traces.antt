-- The last arbitrations, and their table.
use Rattle.std.specs.Prelude.{map}
use Rattle.records.specs.declared.trace.CompositionTrace.{CompositionTrace}
use Rattle.records.specs.Traces.{Traces}
use Rattle.counter_memory.specs.declared.traces.CompositionTraceMemory.{CompositionTraceMemory}
use Rattle.counter_memory.specs.declared.traces.TracesMemory.{TracesMemory}
use Rattle.counter_memory.specs.Events.{event_memory, event_of}
use Rattle.counter_memory.specs.Optionals.{optional_handle_memory, optional_handle_of}

-- a trace, with the event and the consumer as memory
abbrev pub trace_memory : CompositionTrace → CompositionTraceMemory
trace_memory t =
    record {
      revision = t.revision;
      view = t.view;
      event = event_memory t.event;
      hits = record { items = t.hits.items; len = t.hits.len };
      deliveries = record { items = t.deliveries.items; len = t.deliveries.len };
      consumed_by = optional_handle_memory t.consumed_by;
    }

abbrev pub trace_of : CompositionTraceMemory → CompositionTrace
trace_of m =
    record {
      revision = m.revision;
      view = m.view;
      event = event_of m.event;
      hits = record { items = m.hits.items; len = m.hits.len };
      deliveries = record { items = m.deliveries.items; len = m.deliveries.len };
      consumed_by = optional_handle_of m.consumed_by;
    }

-- the table: every place, also past the count, and the count as it is
abbrev pub traces_memory : Traces → TracesMemory
traces_memory t = record { items = map trace_memory t.items; len = t.len }

abbrev pub traces_of : TracesMemory → Traces
traces_of m = record { items = map trace_of m.items; len = m.len }
