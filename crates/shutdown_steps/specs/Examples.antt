-- A registry that calls from a start lead to, whose shutdown's steps can be seen: one window, one view, two panels.
use Rattle.std.specs.Prelude.{◌≡◌, false, [], ◌∷◌, map, pos, Ok}
use Rattle.geometry.specs.Surface.{default_geometry}
use Rattle.handles.specs.Handles.{handle_of}
use Rattle.records.specs.declared.surface.SurfaceDescriptor.{SurfaceDescriptor}
use Rattle.records.specs.declared.surface.SurfaceInputPolicy.TheVariants.{Interactive}
use Rattle.records.specs.declared.surface.SurfaceKind.TheVariants.{Ui}
use Rattle.composition_state.specs.declared.registry.CompositionRegistry.{CompositionRegistry}
use Rattle.composition_state.specs.Start.{started}
use Rattle.composition_panels.specs.Panels.{attach_surface}
use Rattle.composition_panels.specs.Windows.{create_window, create_view}
use Rattle.composition_close.specs.Shutdown.{shutdown_refusal}
use Rattle.composition_soundness.specs.Claims.{Undamaged}
use Rattle.shutdown_steps.specs.Steps.{shutdown_steps}

-- a panel of the first view
abbrev pub panel : SurfaceDescriptor
panel = record {
  view = handle_of 0 1;
  kind = Ui;
  z_order = pos 0;
  input = Interactive;
  accepts_text = false;
  geometry = default_geometry;
}

-- a start at revision 5, its first window and view
abbrev pub opened : CompositionRegistry
opened =
    (create_view
    (create_window
    (started (handle_of 0 1) 1
    (record
    { max_windows = 1; max_views = 1; max_surfaces = 2; max_surfaces_per_view = 2; max_trace_entries = 1 })
    5 1).registry
    ).registry
    (handle_of 0 1)).registry

-- panel 1.1 lies over panel 0.1
abbrev pub paired : CompositionRegistry
paired = (attach_surface (attach_surface opened panel).registry panel).registry

-- the premises of `ShutdownClaims` hold of it; the panels go from the top, and each of four steps raises the revision
pub record ShutdownExample : Type 0 where
  pub undamaged : Undamaged paired
  pub passes : shutdown_refusal paired ≡ Ok tt
  pub accepted : (shutdown_steps paired).outcome ≡ Ok tt
  pub panels : map (λ x. x.surface) (shutdown_steps paired).reports ≡ handle_of 1 1 ∷ handle_of 0 1 ∷ []
  pub revisions : map (λ x. x.revision) (shutdown_steps paired).reports ≡ 10 ∷ 11 ∷ []
  pub views : (shutdown_steps paired).views ≡ handle_of 0 1 ∷ []
  pub windows : (shutdown_steps paired).windows ≡ handle_of 0 1 ∷ []
  pub last : (shutdown_steps paired).registry.revision ≡ 13
