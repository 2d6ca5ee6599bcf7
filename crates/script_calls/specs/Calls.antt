-- The call that a line's verb and fields make: none where the fields are not as the verb asks.
use Rattle.std.specs.Prelude.{ℕ, ◌+◌, ◌*◌, Bool, cond, ◌&&◌, ◌||◌, eqb, set, Option, None, Some}
use Rattle.std.specs.Option.{option_map, option_and_then}
use Rattle.calls.specs.declared.call.Lists.{Lists}
use Rattle.call_forms.specs.Forms.{is_form}
use Rattle.call_numbers.specs.Calls.{call_at}
use Rattle.script.specs.Lines.{zero_number, Fields}
use Rattle.script.specs.Ranges.{unsigned_of, is_within}
use Rattle.script.specs.declared.verb.CloseVerb.{CloseVerb}
use Rattle.script.specs.declared.verb.CloseVerb.TheVariants as close
use Rattle.script.specs.declared.verb.InputVerb.{InputVerb}
use Rattle.script.specs.declared.verb.InputVerb.TheVariants as input
use Rattle.script.specs.declared.verb.PanelVerb.{PanelVerb}
use Rattle.script.specs.declared.verb.PanelVerb.TheVariants as panel
use Rattle.script.specs.declared.verb.ReadVerb.{ReadVerb}
use Rattle.script.specs.declared.verb.ReadVerb.TheVariants as read
use Rattle.script.specs.declared.verb.RouterVerb.{RouterVerb}
use Rattle.script.specs.declared.verb.RouterVerb.TheVariants as router
use Rattle.script.specs.declared.verb.StepVerb.{StepVerb}
use Rattle.script.specs.declared.verb.StepVerb.TheVariants.{Panel, Input, ReleaseDevicePointerCaptures, RegisterSurfaceSystemShortcutSet, Arbitrate, Close, Router, Read}
use Rattle.script.specs.declared.verb.Verb.{Verb}
use Rattle.script.specs.declared.verb.Verb.TheVariants as verb
use Rattle.script_calls.specs.declared.rows.Asked.{Asked}
use Rattle.script_calls.specs.declared.script_call.ScriptCall.{ScriptCall}
use Rattle.script_calls.specs.declared.script_call.ScriptCall.TheVariants.{Session, Step}
use Rattle.records.specs.Traces.{Hits}
use Rattle.script.specs.declared.line.Line.{Line}
use Rattle.script_calls.specs.Groups.{has, number_at}
use Rattle.script_calls.specs.LineLists.{no_lists, with_hits, with_registrations}
use Rattle.script_calls.specs.ListFields.{hits_at, registrations_at}
use Rattle.script_calls.specs.Rows.{asked_row, asked_rows, row_of, is_row_in_range}
use Rattle.script_calls.specs.Sessions.{session_in}

-- the calls' numbers (call_numbers Calls)
abbrev pub panel_number : PanelVerb → ℕ
panel_number panel.CreateWindow = 0
panel_number panel.CloseWindow = 1
panel_number panel.CreateView = 2
panel_number panel.UpdateViewMetrics = 3
panel_number panel.CloseView = 4
panel_number panel.AttachSurface = 5
panel_number panel.UpdateSurfaceGeometry = 6
panel_number panel.UpdateSurfaceInputPolicy = 7

abbrev pub input_number : InputVerb → ℕ
input_number input.SetFocus = 8
input_number input.CapturePointer = 9
input_number input.CapturePointerFor = 10
input_number input.ReleasePointer = 11
input_number input.ReleasePointerFor = 12
input_number input.BeginIme = 13
input_number input.EndIme = 14
input_number input.SuspendViewInput = 15

abbrev pub close_number : CloseVerb → ℕ
close_number close.CloseSurface = 21
close_number close.Shutdown = 22

abbrev pub read_number : ReadVerb → ℕ
read_number read.ViewWindow = 26
read_number read.ViewMetrics = 27
read_number read.ViewInputState = 28
read_number read.ViewPointerCaptures = 29
read_number read.SurfaceDescriptor = 30
read_number read.ViewLayers = 31
read_number read.Traces = 32
read_number read.Counts = 33
read_number read.ActiveBindingCount = 34
read_number read.HitTestStack = 35
read_number read.InversePoint = 36

-- the call of the numbers with the lists beside it, if they are what the call is written as
unfoldable pub step_of : Lists → Asked → Option ScriptCall
step_of lists asked = cond (is_form asked.words.items) (Some (Step (call_at asked.words.items) lists)) None

-- a call whose fields are its row's
unfoldable pub row_call : ℕ → Fields → Option ScriptCall
row_call n fs = option_and_then (λ asked. cond (has fs asked.end) (step_of no_lists asked) None) (asked_row n fs)

-- S, revision, count, then three fields for each registration; the list stands beside the call
unfoldable pub register_call : Fields → Option ScriptCall
register_call fs =
    option_and_then
    (λ list. cond (has fs (4 + 3 * list.len)) (option_and_then (step_of (with_registrations list)) (asked_row 17 fs)) None)
    (registrations_at fs 3)

-- the kinds that have hits: PointerStack, PointerStackFor
abbrev pub has_hits : ℕ → Bool
has_hits k = eqb k 1 || eqb k 3

-- where the fields of a kind's own stand: the mask, K, or O
abbrev pub own_place : ℕ → ℕ
own_place k = cond (eqb k 10) 9 (cond (eqb k 2 || eqb k 3) 3 6)

-- V, kind, K, O, mask, count, then two fields for each hit; the hits stand beside the call. Of K, O and mask a kind has
-- its own, and the others may be anything of their ranges; a kind without hits has a count of 0.
abbrev pub arbitrate_as : Fields → ℕ → Hits → Option ScriptCall
arbitrate_as fs kind hits =
    cond (has fs (11 + 2 * hits.len) && (is_row_in_range (row_of 58) fs 0 && (has_hits kind || eqb hits.len 0)))
    (option_and_then (step_of (with_hits hits)) (asked_rows 20 (47 + kind) (own_place kind) fs))
    None

unfoldable pub arbitrate_call : Fields → Option ScriptCall
arbitrate_call fs =
    option_and_then (λ kind. option_and_then (arbitrate_as fs kind) (hits_at fs 10)) (unsigned_of 10 (number_at fs 2))

-- the number of a button that did not change is left out
unfoldable pub without_button : Fields → Fields
without_button fs =
    cond (eqb (number_at fs 22).magnitude 0 && is_within 255 (number_at fs 23))
    (record { items = set fs.items 23 zero_number; len = fs.len }) fs

-- a header, a payload's kind, and the payload by its kind; a pointer's button stands last
unfoldable pub event_call : ℕ → Fields → Option ScriptCall
event_call k fs =
    option_and_then (λ asked. cond (has fs asked.end) (step_of no_lists asked) None) (asked_rows 23 (37 + k) 12 fs)

abbrev pub route_as : Fields → ℕ → Option ScriptCall
route_as fs k = cond (eqb k 0) (event_call 0 (without_button fs)) (event_call k fs)

unfoldable pub route_call : Fields → Option ScriptCall
route_call fs = option_and_then (route_as fs) (unsigned_of 9 (number_at fs 11))

abbrev pub router_call : RouterVerb → Fields → Option ScriptCall
router_call router.Route fs = route_call fs
router_call router.ReleaseSurface fs = row_call 24 fs
router_call router.ReleaseAll fs = row_call 25 fs

-- a call on the registry and the router that stand
abbrev pub step_call : StepVerb → Fields → Option ScriptCall
step_call (Panel v) fs = row_call (panel_number v) fs
step_call (Input v) fs = row_call (input_number v) fs
step_call ReleaseDevicePointerCaptures fs = row_call 16 fs
step_call RegisterSurfaceSystemShortcutSet fs = register_call fs
step_call Arbitrate fs = arbitrate_call fs
step_call (Close v) fs = row_call (close_number v) fs
step_call (Router v) fs = router_call v fs
step_call (Read v) fs = row_call (read_number v) fs

abbrev verb_call : Verb → Fields → Option ScriptCall
verb_call (verb.Session v) fs = option_map Session (session_in v fs)
verb_call (verb.Step v) fs = step_call v fs

-- the call of a line
abbrev pub call_of : Line → Option ScriptCall
call_of line = verb_call line.verb line.fields
