-- Views: their metrics, their records, and the table of these by slot.
use Rattle.std.specs.Prelude.{map}
use Rattle.geometry.specs.declared.metrics.ViewMetrics.{ViewMetrics}
use Rattle.records.specs.declared.view.ViewRecord.{ViewRecord}
use Rattle.records.specs.Views.{ViewTable}
use Rattle.counter_memory.specs.declared.views.ViewMetricsMemory.{ViewMetricsMemory}
use Rattle.counter_memory.specs.declared.views.ViewRecordMemory.{ViewRecordMemory}
use Rattle.counter_memory.specs.declared.views.ViewTableMemory.{ViewTableMemory}
use Rattle.call_fields.specs.PanelChoices.{visibility_number, visibility_of}
use Rattle.counter_memory.specs.Optionals.{optional_handle_memory, optional_handle_of}

-- the metrics, with the visibility as a number
abbrev pub metrics_memory : ViewMetrics → ViewMetricsMemory
metrics_memory m = record {
  revision = m.revision;
  origin_x_milli = m.origin_x_milli;
  origin_y_milli = m.origin_y_milli;
  width_milli = m.width_milli;
  height_milli = m.height_milli;
  framebuffer_width = m.framebuffer_width;
  framebuffer_height = m.framebuffer_height;
  scale_q16 = m.scale_q16;
  safe_area = m.safe_area;
  visibility = visibility_number m.visibility;
}

abbrev pub metrics_of : ViewMetricsMemory → ViewMetrics
metrics_of m = record {
  revision = m.revision;
  origin_x_milli = m.origin_x_milli;
  origin_y_milli = m.origin_y_milli;
  width_milli = m.width_milli;
  height_milli = m.height_milli;
  framebuffer_width = m.framebuffer_width;
  framebuffer_height = m.framebuffer_height;
  scale_q16 = m.scale_q16;
  safe_area = m.safe_area;
  visibility = visibility_of m.visibility;
}

-- a record, with the metrics and the three optional handles as memory
abbrev pub view_memory : ViewRecord → ViewRecordMemory
view_memory v = record {
  window = v.window;
  metrics = metrics_memory v.metrics;
  surfaces = record { items = v.surfaces.items; len = v.surfaces.len };
  focus = optional_handle_memory v.focus;
  pointer_capture = optional_handle_memory v.pointer_capture;
  pointer_captures = record { entries = v.pointer_captures.table.items; len = v.pointer_captures.table.len };
  ime = optional_handle_memory v.ime;
}

abbrev pub view_of : ViewRecordMemory → ViewRecord
view_of m = record {
  window = m.window;
  metrics = metrics_of m.metrics;
  surfaces = record { items = m.surfaces.items; len = m.surfaces.len };
  focus = optional_handle_of m.focus;
  pointer_capture = optional_handle_of m.pointer_capture;
  pointer_captures = record { table = record { items = m.pointer_captures.entries; len = m.pointer_captures.len } };
  ime = optional_handle_of m.ime;
}

-- the table: the slots as they are, and each record
abbrev pub views_memory : ViewTable → ViewTableMemory
views_memory t = record { arena = t.arena; records = map view_memory t.records }

abbrev pub views_of : ViewTableMemory → ViewTable
views_of m = record { arena = m.arena; records = map view_of m.records }
