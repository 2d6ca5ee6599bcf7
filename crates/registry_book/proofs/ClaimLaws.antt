-- The claims hold: each call by the law of its kind, with the damage test as facts of its parts.
use Rattle.std.specs.Prelude.{Ok}
use mathlib.Core.Path.{◌≡◌}
use Rattle.composition_state.specs.declared.registry.CompositionRegistry.{CompositionRegistry}
use Rattle.composition_shortcuts.specs.Registrations.{Registrations}
use Rattle.composition_shortcuts.specs.Register.{registration_list, of_mask}
use Rattle.calls.specs.declared.call.PanelCall.{PanelCall}
use Rattle.calls.specs.declared.call.PanelCall.TheVariants as panel
use Rattle.calls.specs.declared.call.ShortcutCall.{ShortcutCall}
use Rattle.calls.specs.declared.call.ShortcutCall.TheVariants as shortcut
use Rattle.registry_step.specs.Steps.{panel_step, shortcut_step}
use Rattle.book.specs.Book.{Book}
use Rattle.book.specs.Notes.{noted_panel}
use Rattle.registry_book.specs.Agreement.{Agrees, Follows}
use Rattle.records.specs.Views.{view_status}
use Rattle.composition_soundness.proofs.CaseLaws.{live_is}
use Rattle.composition_soundness.proofs.PartLaws.{Parts, parts}
use Rattle.registry_book.specs.Claims.{RegistryBookClaims}
use Rattle.registry_book.proofs.AttachLaws.{attach}
use Rattle.registry_book.proofs.CaptureLaws.{capture_for_lem, release_for_lem, release, suspend}
use Rattle.registry_book.proofs.CloseLaws.{close}
use Rattle.registry_book.proofs.DeliveryLaws.{delivered, consumed}
use Rattle.registry_book.proofs.DeviceLaws.{view_list, device_list, release_device}
use Rattle.registry_book.proofs.SlotLaws.{create_view_lem, close_view_lem, start}
use Rattle.registry_book.proofs.UnreadLaws as unread

module _ (r : CompositionRegistry) (p : Parts r) (b : Book) (a : Agrees r b) where
  panel_follows : (call : PanelCall) → (panel_step r call).outcome ≡ Ok tt → Follows r (panel_step r call).registry (noted_panel call (panel_step r call).handle b)
  unfolding panel_step noted_panel
  panel_follows panel.CreateWindow q = unread.create_window_lem r b a q
  panel_follows (panel.CloseWindow w) q = unread.close_window_lem r b a w q
  panel_follows (panel.CreateView w) q = create_view_lem r p b a w q
  panel_follows (panel.UpdateViewMetrics x) q = unread.metrics r b a x.view x.update x.revision q
  panel_follows (panel.CloseView v) q = close_view_lem r p b a v q
  panel_follows (panel.AttachSurface d) q = attach r p b a d q
  panel_follows (panel.UpdateSurfaceGeometry x) q = unread.geometry r b a x.surface x.geometry x.revision q
  panel_follows (panel.UpdateSurfaceInputPolicy x) q = unread.policy r b a x.surface x.input x.revision q

  shortcut_follows : (call : ShortcutCall) (l : Registrations) → (shortcut_step r call l).outcome ≡ Ok tt → Follows r (shortcut_step r call l).registry b
  unfolding shortcut_step
  shortcut_follows (shortcut.RegisterSet x) l q = unread.register r b a x.handle l x.revision q
  shortcut_follows (shortcut.RegisterOne x) l q = unread.register r b a x.surface (registration_list x.registration) x.revision q
  shortcut_follows (shortcut.SetMask x) l q = unread.register r b a x.surface (registration_list (of_mask x.class_mask)) x.revision q

pub claims : RegistryBookClaims
claims = record {
  start = start;
  panel = λ r b call u a. panel_follows r (parts r u) b a call;
  focus = λ r b v h n u a. unread.focus r b a v h n;
  begin_ime_lem = λ r b h n u a. unread.begin_ime_lem r b a h n;
  end_ime_lem = λ r b h n u a. unread.end_ime_lem r b a h n;
  shortcut = λ r b call l u a. shortcut_follows r (parts r u) b a call l;
  arbitrate = λ r b v e hits u a. unread.arbitrate r b a v e hits;
  capture = λ r b q h n u a. capture_for_lem r (parts r u) b a q h n;
  release_for_lem = λ r b q h n u a. release_for_lem r (parts r u) b a q h n;
  release = λ r b h n u a. release r (parts r u) b a h n;
  device = λ r b value generation u a. release_device value generation r (parts r u) b a;
  suspend = λ r b v n u a. suspend r (parts r u) b a v n;
  close = λ r b h u a. close r (parts r u) b a h;
  device_list = λ r b value generation u a. device_list value generation r b a;
  view_list = λ r b v u a l. view_list r b (parts r u) a v (live_is (view_status r.views v) l);
  delivered = λ r v e hits u x y. delivered r (parts r u) v e hits x y;
  consumed = λ r v h e hits u x y. consumed r (parts r u) v e hits x y h;
}
