-- RULES.md, What a refusal has written: "21 comes after the change". The change of each call, before the revision
-- rises.
use Rattle.std.specs.Prelude.{None, Some}
use Rattle.handles.specs.Slots.{released}
use Rattle.handles.specs.declared.GenerationalHandle.{GenerationalHandle}
use Rattle.composition_state.specs.declared.registry.CompositionRegistry.{CompositionRegistry}
use Rattle.records.specs.declared.surface.SurfaceRecord.{SurfaceRecord}
use Rattle.composition_state.specs.Registry.{with_windows, with_views, with_surfaces, with_shortcuts}
use Rattle.records.specs.Surfaces.{surface_at, with_surface, with_geometry, with_input}
use Rattle.records.specs.Views.{fresh_view, view_at, with_view, views_with, with_metrics, with_focus, with_ime}
use Rattle.composition_panels.specs.Metrics.{new_metrics}
use Rattle.composition_panels.specs.Panels.{new_surface, attached}
use Rattle.composition_panels.specs.Windows.{new_window, new_view}
use Rattle.composition_input.specs.Captures.{primary, own_record, captured_view, released_view}
use Rattle.composition_input.specs.Focus.{own_view, with_view_record}
use Rattle.composition_close.specs.Close.{freed}
use Rattle.composition_shortcuts.specs.Registrations.{Registrations}
use Rattle.composition_shortcuts.specs.Register.{replaced, registration_list, of_mask}
use Rattle.calls.specs.declared.arguments.DeviceArguments.{DeviceArguments}
use Rattle.calls.specs.declared.call.InputCall.{InputCall}
use Rattle.calls.specs.declared.call.InputCall.TheVariants as input
use Rattle.calls.specs.declared.call.PanelCall.{PanelCall}
use Rattle.calls.specs.declared.call.PanelCall.TheVariants as panel
use Rattle.calls.specs.declared.call.ShortcutCall.{ShortcutCall}
use Rattle.calls.specs.declared.call.ShortcutCall.TheVariants as shortcut
use Rattle.refusals.specs.Left.{in_view, in_every_view, without_device, lost_view, panel_out}

-- the registry with another record for a panel
abbrev pub with_surface_record : GenerationalHandle → SurfaceRecord → CompositionRegistry → CompositionRegistry
with_surface_record surface s r = with_surfaces (with_surface surface s r.surfaces) r

-- a window or view more or less, a view's metrics, a panel more, a panel's geometry or policy
unfoldable pub panel_change : CompositionRegistry → PanelCall → CompositionRegistry
panel_change r panel.CreateWindow = with_windows (new_window r).arena r
panel_change r (panel.CloseWindow window) = with_windows (released r.windows window).arena r
panel_change r (panel.CreateView window) =
    with_views (with_view (new_view r).handle (fresh_view window) (views_with (new_view r).arena r.views)) r
panel_change r (panel.UpdateViewMetrics a) =
    with_view_record a.view (with_metrics (new_metrics r a.view a.update) (view_at r.views a.view)) r
panel_change r (panel.CloseView view) = with_views (views_with (released r.views.arena view).arena r.views) r
panel_change r (panel.AttachSurface descriptor) = attached (new_surface r) descriptor r
panel_change r (panel.UpdateSurfaceGeometry a) =
    with_surface_record a.surface (with_geometry a.geometry (surface_at r.surfaces a.surface)) r
panel_change r (panel.UpdateSurfaceInputPolicy a) =
    with_surface_record a.surface (with_input a.input (surface_at r.surfaces a.surface)) r

-- a view's focus, or what a panel has in its own view: a pointer, the composition
unfoldable pub input_change : CompositionRegistry → InputCall → CompositionRegistry
input_change r (input.SetFocus a) = with_view_record a.view (with_focus a.surface (view_at r.views a.view)) r
input_change r (input.CapturePointer a) =
    with_view_record (own_view r a.handle) (captured_view primary a.handle (own_record r a.handle)) r
input_change r (input.CapturePointerFor a) =
    with_view_record (own_view r a.surface) (captured_view a.pointer a.surface (own_record r a.surface)) r
input_change r (input.ReleasePointer a) =
    with_view_record (own_view r a.handle) (released_view primary (own_record r a.handle)) r
input_change r (input.ReleasePointerFor a) =
    with_view_record (own_view r a.surface) (released_view a.pointer (own_record r a.surface)) r
input_change r (input.BeginIme a) =
    with_view_record (own_view r a.handle) (with_ime (Some a.handle) (own_record r a.handle)) r
input_change r (input.EndIme a) = with_view_record (own_view r a.handle) (with_ime None (own_record r a.handle)) r
input_change r (input.SuspendViewInput a) = in_view a.handle lost_view r

-- every view without the captures of the device
abbrev pub device_change : CompositionRegistry → DeviceArguments → CompositionRegistry
device_change r a = in_every_view (without_device (record { value = a.device; generation = a.device_generation })) r

-- a panel's registrations
abbrev pub register_change : CompositionRegistry → GenerationalHandle → Registrations → CompositionRegistry
register_change r surface new = with_shortcuts (replaced surface.index new r.shortcuts) r

unfoldable pub shortcut_change : CompositionRegistry → ShortcutCall → Registrations → CompositionRegistry
shortcut_change r (shortcut.RegisterSet a) l = register_change r a.handle l
shortcut_change r (shortcut.RegisterOne a) l = register_change r a.surface (registration_list a.registration)
shortcut_change r (shortcut.SetMask a) l = register_change r a.surface (registration_list (of_mask a.class_mask))

-- a panel's close: the panel out of its view, then its slot released and its registrations gone
abbrev pub close_change : CompositionRegistry → GenerationalHandle → CompositionRegistry
close_change r h = freed h (panel_out h r)
