-- The verbs of a script and their names.
use Rattle.std.specs.List.{find}
use Rattle.std.specs.Option.{option_map}
use Rattle.std.specs.Prelude.{ℕ, List, [], ◌∷◌, map, Option}
use Prim.Native.String.{String}
use Rattle.script.specs.declared.verb.CloseVerb.TheVariants as close
use Rattle.script.specs.declared.verb.InputVerb.TheVariants as input
use Rattle.script.specs.declared.verb.PanelVerb.TheVariants as panel
use Rattle.script.specs.declared.verb.ReadVerb.TheVariants as read
use Rattle.script.specs.declared.verb.RouterVerb.TheVariants as router
use Rattle.script.specs.declared.verb.SessionVerb.TheVariants as session
use Rattle.script.specs.declared.verb.StepVerb.TheVariants.{Panel, Input, ReleaseDevicePointerCaptures, RegisterSurfaceSystemShortcutSet, Arbitrate, Close, Router, Read}
use Rattle.script.specs.declared.verb.Verb.TheVariants.{Session, Step}
use Rattle.script.specs.declared.verb.Verb.{Verb}
use Rattle.script.specs.Texts.{bytes}
use Rattle.script.specs.Words.{same}

-- each verb with its name
abbrev pub table : List (String × Verb)
table =
    ("digest", Session session.Digest) ∷
    ("new", Session session.New) ∷
    ("new_at", Session session.NewAt) ∷
    ("router", Session session.Router) ∷
    ("create_window", Step (Panel panel.CreateWindow)) ∷
    ("close_window", Step (Panel panel.CloseWindow)) ∷
    ("create_view", Step (Panel panel.CreateView)) ∷
    ("update_view_metrics", Step (Panel panel.UpdateViewMetrics)) ∷
    ("close_view", Step (Panel panel.CloseView)) ∷
    ("attach_surface", Step (Panel panel.AttachSurface)) ∷
    ("update_surface_geometry", Step (Panel panel.UpdateSurfaceGeometry)) ∷
    ("update_surface_input_policy", Step (Panel panel.UpdateSurfaceInputPolicy)) ∷
    ("register_surface_system_shortcut_set", Step RegisterSurfaceSystemShortcutSet) ∷
    ("set_focus", Step (Input input.SetFocus)) ∷
    ("capture_pointer", Step (Input input.CapturePointer)) ∷
    ("capture_pointer_for", Step (Input input.CapturePointerFor)) ∷
    ("release_pointer", Step (Input input.ReleasePointer)) ∷
    ("release_pointer_for", Step (Input input.ReleasePointerFor)) ∷
    ("release_device_pointer_captures", Step ReleaseDevicePointerCaptures) ∷
    ("begin_ime", Step (Input input.BeginIme)) ∷
    ("end_ime", Step (Input input.EndIme)) ∷
    ("suspend_view_input", Step (Input input.SuspendViewInput)) ∷
    ("arbitrate", Step Arbitrate) ∷
    ("close_surface", Step (Close close.CloseSurface)) ∷
    ("shutdown", Step (Close close.Shutdown)) ∷
    ("hit_test_stack", Step (Read read.HitTestStack)) ∷
    ("inverse_point", Step (Read read.InversePoint)) ∷
    ("route", Step (Router router.Route)) ∷
    ("release_surface", Step (Router router.ReleaseSurface)) ∷
    ("release_all", Step (Router router.ReleaseAll)) ∷
    ("view_window", Step (Read read.ViewWindow)) ∷
    ("view_metrics", Step (Read read.ViewMetrics)) ∷
    ("view_input_state", Step (Read read.ViewInputState)) ∷
    ("view_pointer_captures", Step (Read read.ViewPointerCaptures)) ∷
    ("surface_descriptor", Step (Read read.SurfaceDescriptor)) ∷
    ("view_layers", Step (Read read.ViewLayers)) ∷
    ("traces", Step (Read read.Traces)) ∷
    ("counts", Step (Read read.Counts)) ∷
    ("active_binding_count", Step (Read read.ActiveBindingCount)) ∷
    ("state", Session session.State) ∷
    ("router_state", Session session.RouterState) ∷
    []

-- the verb beside the first of a table's names that is a text
abbrev pub verb_of : List (List ℕ × Verb) → List ℕ → Option Verb
verb_of t w = option_map (λ e. e.1) (find (λ e. same e.0 w) t)

-- the verb that a word names
unfoldable pub verb_named : List ℕ → Option Verb
verb_named w = verb_of (map (λ e. (bytes e.0, e.1)) table) w
