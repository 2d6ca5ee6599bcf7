-- RULES.md, Release order: a device's presses or those of a view's panels, then its captures; and what a refusal there
-- has written.
use Rattle.records.specs.declared.view.ViewInputState.{ViewInputState}
use Rattle.records.specs.declared.error.CompositionError.{CompositionError}
use Rattle.std.specs.Prelude.{ℕ, Result, Ok, Err, None, Some}
use Rattle.lists.specs.Tables.{entries_of, packed}
use Rattle.handles.specs.declared.GenerationalHandle.{GenerationalHandle}
use Rattle.maps.specs.declared.keys.InputDeviceId.{InputDeviceId}
use Rattle.maps.specs.Bindings.{Bindings, bindings}
use Rattle.maps.specs.Captures.{captures}
use Rattle.composition_state.specs.declared.registry.CompositionRegistry.{CompositionRegistry}
use Rattle.records.specs.Views.{view_at}
use Rattle.release_lists.specs.Captures.{CaptureList, capture_list}
use Rattle.composition_input.specs.Captures.{CapturesReleased, release_device_pointer_captures}
use Rattle.composition_input.specs.Focus.{Suspended, suspend_view_input}
use Rattle.input_events.specs.declared.error.PlatformInputError.TheVariants as error
use Rattle.release_lists.specs.Releases.{Releases, releases, add_captures}
use Rattle.input_router.specs.declared.router.PlatformInputRouter.{PlatformInputRouter}
use Rattle.input_router.specs.declared.view_releases.ViewReleased.{ViewReleased}
use Rattle.input_router.specs.Releases.{device_presses, without_device_presses, without_device}
use Rattle.input_router.specs.ViewReleases.{release_view}
use Rattle.input_releases.specs.declared.answer.PlatformInputRoutingReport.{PlatformInputRoutingReport}
use Rattle.input_releases.specs.declared.answer.RouteKind.TheVariants.{Disconnected, ViewReleased as ViewGone}
use Rattle.input_releases.specs.declared.answer.Routed.{Routed}
use Rattle.input_releases.specs.Answers.{no_result, refused_with}

-- a disconnect lists releases and answers the registry's revision
abbrev pub disconnect_report : Releases → ℕ → PlatformInputRoutingReport
disconnect_report l n =
    record {
      kind = Disconnected;
      arbitration = no_result;
      synthesized_releases = l;
      view_release = None;
      composition_revision = n;
    }

-- the presses of the device, then the captures of its pointers by view slot and pointer; its sequence is forgotten, not
-- the time
-- refused 21: its presses are dropped unlisted, its captures too, and the sequence stays
abbrev pub disconnect_after : CapturesReleased → PlatformInputRouter → InputDeviceId
    → Result CaptureList CompositionError → Routed
disconnect_after c t device (Ok l) = record {
  outcome =
      Ok (disconnect_report (packed releases
      (add_captures (entries_of bindings (device_presses t device)) (entries_of capture_list l)))
      c.registry.revision);
  registry = c.registry;
  router = without_device t device;
}
disconnect_after c t device (Err e) =
    refused_with (error.Composition e) c.registry (without_device_presses t device)

unfoldable pub routed_disconnect : CompositionRegistry → PlatformInputRouter → InputDeviceId → Routed
routed_disconnect r t device =
    let c = release_device_pointer_captures r device.value device.generation in
    disconnect_after c t device c.outcome

-- a loss also answers what its view has let go
abbrev pub loss_report : Releases → ViewInputState → ℕ → PlatformInputRoutingReport
loss_report l s n =
    record {
      kind = ViewGone;
      arbitration = no_result;
      synthesized_releases = l;
      view_release = Some s;
      composition_revision = n;
    }

-- the view's focus, captures and composition are suspended; refused 21 after that change, its presses dropped unlisted
abbrev pub loss_after : Suspended → PlatformInputRouter → Releases → Result ViewInputState CompositionError → Routed
loss_after s t l (Ok state) =
    record {
      outcome = Ok (loss_report l state s.registry.revision);
      registry = s.registry;
      router = t;
    }
loss_after s t l (Err e) = refused_with (error.Composition e) s.registry t

unfoldable pub suspended_loss : CompositionRegistry → PlatformInputRouter → GenerationalHandle → Releases → Routed
suspended_loss r t view l = let s = suspend_view_input r view r.revision in loss_after s t l s.outcome

-- the presses of the view's panels, then its captures by pointer; a closed owner refuses, with the kinds before it
-- dropped
abbrev pub loss_from : CompositionRegistry → GenerationalHandle → ViewReleased → Result Bindings CompositionError
    → Routed
loss_from r view v (Ok presses) =
    suspended_loss r v.router view
    (packed releases (add_captures (entries_of bindings presses)
    (entries_of captures (view_at r.views view).pointer_captures)))
loss_from r view v (Err e) = refused_with (error.Composition e) r v.router

unfoldable pub routed_loss : CompositionRegistry → PlatformInputRouter → GenerationalHandle → Routed
routed_loss r t view = let v = release_view t r.surfaces view in loss_from r view v v.outcome
