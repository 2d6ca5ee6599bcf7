-- The calls that alter nothing, each sent to the definition of its call.
use Rattle.std.specs.Prelude.{not, length, Result, Ok, Err}
use Rattle.std.specs.Result.{result_and, result_unwrap_or}
use Rattle.records.specs.declared.error.CompositionError.{CompositionError}
use Rattle.geometry.specs.Transform.{inverse_point}
use Rattle.records.specs.declared.error.CompositionError.TheVariants.{Damaged}
use Rattle.composition_state.specs.declared.registry.CompositionRegistry.{CompositionRegistry}
use Rattle.composition_state.specs.Damage.{damage_refusal}
use Rattle.records.specs.Errors.{refusal_if, Outcome}
use Rattle.composition_hits.specs.HitTest.{hit_test_refusal}
use Rattle.composition_reads.specs.Reads.{view_window, view_metrics, view_input_state, view_pointer_captures, view_layers, surface_descriptor}
use Rattle.input_router.specs.declared.router.PlatformInputRouter.{PlatformInputRouter}
use Rattle.input_router.specs.Damage.{is_router_sound}
use Rattle.input_router.specs.Router.{presses_of}
use Rattle.calls.specs.declared.arguments.HitTestArguments.{HitTestArguments}
use Rattle.calls.specs.declared.arguments.InversePointArguments.{InversePointArguments}
use Rattle.calls.specs.declared.call.ReadCall.{ReadCall}
use Rattle.calls.specs.declared.call.ReadCall.TheVariants as read
use Rattle.calls.specs.declared.shown.Counts.{Counts}
use Rattle.calls.specs.declared.shown.Shown.{Shown}
use Rattle.calls.specs.declared.shown.Shown.TheVariants as shown

abbrev pub counts_of : CompositionRegistry → Counts
counts_of r = record {
  session = r.session;
  session_epoch = r.session_epoch;
  revision = r.revision;
  windows = r.windows.live;
  views = r.views.arena.live;
  surfaces = r.surfaces.arena.live;
}

-- RULES.md, Hit test: 42, 8/9, 41; the hits are those of the view at the point, in the registry that stays as it was
abbrev pub hit_read : CompositionRegistry → HitTestArguments → Result Shown CompositionError
hit_read r a = result_and (hit_test_refusal r a.view a.length) (Ok (shown.Hits a))

abbrev pub local_read : InversePointArguments → Shown
local_read a = shown.Local (inverse_point a.transform a.point.x_milli a.point.y_milli)

-- "Every call: 42 first": of the registry for its traces and counts, of the router for the number of open presses
abbrev pub traces_step : CompositionRegistry → Result Shown CompositionError
traces_step r = result_and (damage_refusal r) (Ok shown.Traces)

abbrev pub counts_step : CompositionRegistry → Result Shown CompositionError
counts_step r = result_and (damage_refusal r) (Ok (shown.Counts (counts_of r)))

abbrev pub router_damage : PlatformInputRouter → Outcome
router_damage t = refusal_if (not (is_router_sound t)) Damaged

abbrev pub open_step : PlatformInputRouter → Result Shown CompositionError
open_step t = result_and (router_damage t) (Ok (shown.BindingCount (length (presses_of t))))

-- a read that is not refused shows what it reads
abbrev pub shown_as : {T : Type 0} → (T → Shown) → Result T CompositionError → Result Shown CompositionError
shown_as f (Ok x) = Ok (f x)
shown_as f (Err e) = Err e

-- a point in a panel is asked of no state, so nothing can be damaged
unfoldable pub read_step : CompositionRegistry → PlatformInputRouter → ReadCall → Result Shown CompositionError
read_step r t (read.ViewWindow v) = shown_as shown.Window (view_window r v)
read_step r t (read.ViewMetrics v) = shown_as shown.Metrics (view_metrics r v)
read_step r t (read.ViewInputState v) = shown_as shown.InputState (view_input_state r v)
read_step r t (read.ViewPointerCaptures v) = shown_as (λ captures. shown.Captures v) (view_pointer_captures r v)
read_step r t (read.SurfaceDescriptor s) = shown_as shown.Descriptor (surface_descriptor r s)
read_step r t (read.ViewLayers v) = shown_as (λ layers. shown.Layers v) (view_layers r v)
read_step r t read.Traces = traces_step r
read_step r t read.Counts = counts_step r
read_step r t read.ActiveBindingCount = open_step t
read_step r t (read.HitTestStack a) = hit_read r a
read_step r t (read.InversePoint a) = Ok (local_read a)

-- whether a read is accepted, or why it is refused; a refused read shows nothing
abbrev pub outcome_of : Result Shown CompositionError → Outcome
outcome_of s = result_and s (Ok tt)

abbrev pub shown_of : Result Shown CompositionError → Shown
shown_of s = result_unwrap_or s shown.Nothing
