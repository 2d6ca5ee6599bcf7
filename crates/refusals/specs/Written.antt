-- RULES.md, What a refusal has written: its cases, what each of them leaves, and which of them a refusal is.
use Rattle.std.specs.Prelude.{ℕ, Bool, true, false, cond, not, ◌&&◌, ◌||◌, eqb, is_ok, Option, None, Some}
use Rattle.lists.specs.Numbers.{max_u64}
use Rattle.handles.specs.declared.GenerationalHandle.{GenerationalHandle}
use Rattle.maps.specs.declared.bindings.Binding.{Binding}
use Rattle.composition_state.specs.declared.registry.CompositionRegistry.{CompositionRegistry}
use Rattle.composition_panels.specs.Metrics.{current_revision}
use Rattle.input_events.specs.declared.event.PlatformInputEvent.{PlatformInputEvent}
use Rattle.input_events.specs.ArbitrationEvents.{is_disconnect, is_loss}
use Rattle.input_route.specs.Checks.{route_refusal}
use Rattle.calls.specs.declared.call.Call.{Call}
use Rattle.calls.specs.declared.call.Call.TheVariants.{Panel, Input, ReleaseDevice, Shortcut, Arbitrate, Close, Router, Read}
use Rattle.calls.specs.declared.call.CloseCall.TheVariants as close
use Rattle.calls.specs.declared.call.Lists.{Lists}
use Rattle.calls.specs.declared.call.PanelCall.{PanelCall}
use Rattle.calls.specs.declared.call.PanelCall.TheVariants as panel
use Rattle.calls.specs.declared.call.RouterCall.TheVariants as router
use Rattle.counter.specs.declared.step.Counter.{Counter}
use Rattle.refusals.specs.Changes.{panel_change, input_change, device_change, shortcut_change, close_change}
use Rattle.refusals.specs.Left.{recorded_by, drop_presses, is_press_by, is_press_in, closed_owner, is_kind_before, in_view, in_every_view, without_device, lost_view, panel_out}

-- the cases of RULES.md, What a refusal has written
pub data Written : Type 0 where
  -- the refused call leaves registry and router as they came
  nothing : Written
  -- "21 comes after the change": the registry with the change
  change : CompositionRegistry → Written
  -- "22 in a panel's close leaves it out of its view, with focus, captures and IME already moved"
  out_of_view : GenerationalHandle → Written
  -- "Route keeps the sequence and time once recorded"
  order : PlatformInputEvent → Written
  -- "a disconnect .. refused 21 has dropped its presses unlisted", its captures too
  disconnect : PlatformInputEvent → Written
  -- "a view's loss refused 21 has dropped its presses unlisted", and focus, captures and composition of the view
  loss : PlatformInputEvent → Written
  -- "a view release that meets a closed owner has dropped the kinds before it": the event, and the owner's press
  closed_owner_lem : PlatformInputEvent → Binding → Written

-- what each case leaves of a counter; the sequence and time are recorded in all four cases of an event
abbrev pub after_refusal : Counter → Written → Counter
after_refusal c nothing = c
after_refusal c (change r) = record { registry = r; router = c.router }
after_refusal c (out_of_view h) = record { registry = panel_out h c.registry; router = c.router }
after_refusal c (order x) = record { registry = c.registry; router = recorded_by x c.router }
after_refusal c (disconnect x) = record {
  registry = in_every_view (without_device x.header.device) c.registry;
  router = drop_presses (is_press_by x.header.device) (recorded_by x c.router);
}
after_refusal c (loss x) = record {
  registry = in_view x.header.view lost_view c.registry;
  router = drop_presses (is_press_in c.registry x.header.view) (recorded_by x c.router);
}
after_refusal c (closed_owner_lem x owner) = record {
  registry = c.registry;
  router =
      drop_presses (λ press. is_kind_before owner press && is_press_in c.registry x.header.view press)
      (recorded_by x c.router);
}

-- ---- "21 comes after the change, except in arbitrate, shutdown and the metrics' own counter"
-- the change, if a test holds
abbrev pub change_if : Bool → CompositionRegistry → Written
change_if true r = change r
change_if false r = nothing

-- the view's own metrics counter is at its end
abbrev pub is_own_end : CompositionRegistry → PanelCall → Bool
is_own_end r panel.CreateWindow = false
is_own_end r (panel.CloseWindow window) = false
is_own_end r (panel.CreateView window) = false
is_own_end r (panel.UpdateViewMetrics a) = eqb (current_revision r a.view) max_u64
is_own_end r (panel.CloseView view) = false
is_own_end r (panel.AttachSurface descriptor) = false
is_own_end r (panel.UpdateSurfaceGeometry a) = false
is_own_end r (panel.UpdateSurfaceInputPolicy a) = false

-- ---- a panel's close, by the number of its refusal
abbrev pub close_written : CompositionRegistry → GenerationalHandle → ℕ → Written
close_written r h n = cond (eqb n 21) (change (close_change r h)) (cond (eqb n 22) (out_of_view h) nothing)

-- ---- a routed event: its checks come before anything is written
-- a view's loss, without a closed owner or with one
abbrev pub loss_written : PlatformInputEvent → Option Binding → Written
loss_written x None = loss x
loss_written x (Some owner) = closed_owner_lem x owner

-- after the checks: a disconnect, a view's loss, or an event to arbitrate
abbrev pub work_written : Counter → PlatformInputEvent → Written
work_written c x =
    cond (is_disconnect x.payload) (disconnect x)
    (cond (is_loss x.payload) (loss_written x (closed_owner c.registry c.router))
    (order x))

-- an event that its checks refuse has written nothing
abbrev pub route_written : Counter → PlatformInputEvent → Written
route_written c x = cond (is_ok (route_refusal c.registry c.router x)) (work_written c x) nothing

-- ---- which case a refusal is, by its call and its number
unfoldable pub written_by : Counter → Call → Lists → ℕ → Written
written_by c (Panel call) l n = change_if (not (is_own_end c.registry call) && eqb n 21) (panel_change c.registry call)
written_by c (Input call) l n = change_if (eqb n 21) (input_change c.registry call)
written_by c (ReleaseDevice a) l n = change_if (eqb n 21) (device_change c.registry a)
written_by c (Shortcut call) l n = change_if (eqb n 21) (shortcut_change c.registry call l.registrations)
written_by c (Arbitrate a) l n = nothing
written_by c (Close (close.CloseSurface surface)) l n = close_written c.registry surface n
written_by c (Close close.Shutdown) l n = nothing
written_by c (Router (router.Route event)) l n = route_written c event
written_by c (Router (router.ReleaseSurface surface)) l n = nothing
written_by c (Router router.ReleaseAll) l n = nothing
written_by c (Read call) l n = nothing

-- the numbers that each case comes with; an event's later ones are 8/9 of a system shortcut, 11/12 of a closed owner,
-- and 21
abbrev pub comes_with : Written → ℕ → Bool
comes_with nothing n = true
comes_with (change r) n = eqb n 21
comes_with (out_of_view h) n = eqb n 22
comes_with (order x) n = eqb n 8 || (eqb n 9 || eqb n 21)
comes_with (disconnect x) n = eqb n 21
comes_with (loss x) n = eqb n 21
comes_with (closed_owner_lem x owner) n = eqb n 11 || eqb n 12
