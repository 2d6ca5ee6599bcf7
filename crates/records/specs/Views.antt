-- Views: their records by slot.
use Rattle.std.specs.Prelude.{ℕ, cond, [], get_or, set, ltb, Option, None}
use Rattle.lists.specs.Tables.{packed}
use Rattle.geometry.specs.Metrics.{default_metrics}
use Rattle.geometry.specs.declared.metrics.ViewMetrics.{ViewMetrics}
use Rattle.handles.specs.Handles.{handle_of}
use Rattle.handles.specs.Slots.{lookup_of}
use Rattle.handles.specs.declared.GenerationalHandle.{GenerationalHandle}
use Rattle.handles.specs.declared.arena.Arena.{Arena}
use Rattle.handles.specs.declared.arena.SlotStatus.{SlotStatus}
use Rattle.maps.specs.Captures.{captures, PointerCaptures}
use Rattle.records.specs.declared.error.CompositionError.TheVariants.{InvalidView, StaleView}
use Rattle.records.specs.Layers.{Layers, layers}
use Rattle.records.specs.declared.slot_table.SlotTable.{SlotTable}
use Rattle.records.specs.declared.view.ViewRecord.{ViewRecord}
use Rattle.records.specs.declared.view.ViewInputState.{ViewInputState}
use Rattle.records.specs.Errors.{status_refusal, Outcome}

-- a view just created: no panel, focus, capture or composition
abbrev pub fresh_view : GenerationalHandle → ViewRecord
fresh_view window =
    record {
      window = window;
      metrics = default_metrics;
      surfaces = packed layers [];
      focus = None;
      pointer_capture = None;
      pointer_captures = packed captures [];
      ime = None;
    }

-- what a read past the table gives
abbrev pub no_view : ViewRecord
no_view = fresh_view (handle_of 0 0)

-- the slots of the views, and a record for each slot
abbrev pub ViewTable : Type 0
ViewTable = SlotTable ViewRecord 16

-- the record of a view, by its slot
abbrev pub view_at : ViewTable → GenerationalHandle → ViewRecord
view_at t h = get_or t.records h.index no_view

-- the used slots that the table has
abbrev pub view_slots : ViewTable → ℕ
view_slots t = cond (ltb t.arena.used 16) t.arena.used 16

-- a record with one field changed
abbrev pub with_metrics : ViewMetrics → ViewRecord → ViewRecord
with_metrics m v =
    record {
      window = v.window;
      metrics = m;
      surfaces = v.surfaces;
      focus = v.focus;
      pointer_capture = v.pointer_capture;
      pointer_captures = v.pointer_captures;
      ime = v.ime;
    }

abbrev pub with_layers : Layers → ViewRecord → ViewRecord
with_layers l v =
    record {
      window = v.window;
      metrics = v.metrics;
      surfaces = l;
      focus = v.focus;
      pointer_capture = v.pointer_capture;
      pointer_captures = v.pointer_captures;
      ime = v.ime;
    }

abbrev pub with_focus : Option GenerationalHandle → ViewRecord → ViewRecord
with_focus f v =
    record {
      window = v.window;
      metrics = v.metrics;
      surfaces = v.surfaces;
      focus = f;
      pointer_capture = v.pointer_capture;
      pointer_captures = v.pointer_captures;
      ime = v.ime;
    }

abbrev pub with_pointer_capture : Option GenerationalHandle → ViewRecord → ViewRecord
with_pointer_capture p v =
    record {
      window = v.window;
      metrics = v.metrics;
      surfaces = v.surfaces;
      focus = v.focus;
      pointer_capture = p;
      pointer_captures = v.pointer_captures;
      ime = v.ime;
    }

abbrev pub with_pointer_captures : PointerCaptures → ViewRecord → ViewRecord
with_pointer_captures c v =
    record {
      window = v.window;
      metrics = v.metrics;
      surfaces = v.surfaces;
      focus = v.focus;
      pointer_capture = v.pointer_capture;
      pointer_captures = c;
      ime = v.ime;
    }

abbrev pub with_ime : Option GenerationalHandle → ViewRecord → ViewRecord
with_ime i v =
    record {
      window = v.window;
      metrics = v.metrics;
      surfaces = v.surfaces;
      focus = v.focus;
      pointer_capture = v.pointer_capture;
      pointer_captures = v.pointer_captures;
      ime = i;
    }

abbrev pub input_state : ViewRecord → ViewInputState
input_state v = record { focused = v.focus; pointer_capture = v.pointer_capture; ime = v.ime }

-- the table with another record for a view, and with other slots
abbrev pub with_view : GenerationalHandle → ViewRecord → ViewTable → ViewTable
with_view h v t = record { arena = t.arena; records = set t.records h.index v }

abbrev pub views_with : Arena → ViewTable → ViewTable
views_with a t = record { arena = a; records = t.records }

-- RULES.md, Slots: 8/9
abbrev pub view_status : ViewTable → GenerationalHandle → SlotStatus
view_status t h = lookup_of t.arena h

abbrev pub view_refusal : ViewTable → GenerationalHandle → Outcome
view_refusal t h = status_refusal (view_status t h) InvalidView StaleView
