-- Column 7: the handle that an answer names.
use Rattle.input_events.specs.RouterErrors.{RouterOutcome}
use Rattle.std.specs.Prelude.{ℕ, List, ◌++◌, Option, None, Some, Ok, Err}
use Rattle.handles.specs.declared.GenerationalHandle.{GenerationalHandle}
use Rattle.calls.specs.declared.call.Call.{Call}
use Rattle.calls.specs.declared.call.Call.TheVariants as call
use Rattle.calls.specs.declared.call.CloseCall.{CloseCall}
use Rattle.calls.specs.declared.call.CloseCall.TheVariants as close
use Rattle.calls.specs.declared.call.InputCall.{InputCall}
use Rattle.calls.specs.declared.call.InputCall.TheVariants as input
use Rattle.calls.specs.declared.call.RouterCall.{RouterCall}
use Rattle.calls.specs.declared.call.RouterCall.TheVariants as router
use Rattle.input_releases.specs.declared.answer.RouteKind.{RouteKind}
use Rattle.input_releases.specs.declared.answer.RouteKind.TheVariants as kind
use Rattle.calls.specs.declared.shown.Shown.{Shown}
use Rattle.calls.specs.declared.shown.Shown.TheVariants as shown
use Rattle.counter.specs.declared.answer.Answer.{Answer}
use Rattle.answer_columns.specs.Pieces.{space_pieces, optional_pieces}

-- a suspend names its view
abbrev pub input_handle : InputCall → Option GenerationalHandle
input_handle (input.SetFocus a) = None
input_handle (input.CapturePointer a) = None
input_handle (input.CapturePointerFor a) = None
input_handle (input.ReleasePointer a) = None
input_handle (input.ReleasePointerFor a) = None
input_handle (input.BeginIme a) = None
input_handle (input.EndIme a) = None
input_handle (input.SuspendViewInput a) = Some a.handle

-- a close names its panel
abbrev pub close_handle : CloseCall → Option GenerationalHandle
close_handle (close.CloseSurface s) = Some s
close_handle close.Shutdown = None

-- a loss names its view
abbrev pub lost_view : RouteKind → GenerationalHandle → Option GenerationalHandle
lost_view kind.Nothing v = None
lost_view kind.Disconnected v = None
lost_view kind.Arbitrated v = None
lost_view kind.ViewReleased v = Some v

abbrev pub router_handle : RouterCall → RouteKind → Option GenerationalHandle
router_handle (router.Route e) k = lost_view k e.header.view
router_handle (router.ReleaseSurface s) k = None
router_handle router.ReleaseAll k = None

-- a view's window is named where it is shown
abbrev pub shown_handle : Shown → Option GenerationalHandle
shown_handle shown.Nothing = None
shown_handle (shown.Window w) = Some w
shown_handle (shown.Metrics m) = None
shown_handle (shown.InputState s) = None
shown_handle (shown.Captures v) = None
shown_handle (shown.Descriptor d) = None
shown_handle (shown.Layers v) = None
shown_handle shown.Traces = None
shown_handle (shown.Counts c) = None
shown_handle (shown.BindingCount n) = None
shown_handle (shown.Hits a) = None
shown_handle (shown.Local p) = None

-- a create or an attach names what it made
abbrev pub accepted_handle : Call → Option GenerationalHandle → RouteKind → Shown → Option GenerationalHandle
accepted_handle (call.Panel c) made k s = made
accepted_handle (call.Input c) made k s = input_handle c
accepted_handle (call.ReleaseDevice c) made k s = None
accepted_handle (call.Shortcut c) made k s = None
accepted_handle (call.Arbitrate c) made k s = None
accepted_handle (call.Close c) made k s = close_handle c
accepted_handle (call.Router c) made k s = router_handle c k
accepted_handle (call.Read c) made k s = shown_handle s

-- a refused call names none
abbrev pub named_handle : RouterOutcome → Call → Option GenerationalHandle → RouteKind → Shown → Option GenerationalHandle
named_handle (Ok _) c made k s = accepted_handle c made k s
named_handle (Err e) c made k s = None

-- the handle of an answer
abbrev pub handle_for : Call → Answer → Option GenerationalHandle
handle_for c a = named_handle a.outcome c a.handle a.report.kind a.shown

-- column 7, with the spaces around it
abbrev pub named_pieces : Option GenerationalHandle → List (List ℕ)
named_pieces h = space_pieces ++ optional_pieces h ++ space_pieces
