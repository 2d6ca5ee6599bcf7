-- The enums of panels, views and shortcuts, by their numbers: the declared order from 0; past it the first.
use Rattle.std.specs.Prelude.{ℕ, List, [], ◌∷◌, get_or}
use Rattle.records.specs.declared.surface.SurfaceKind.{SurfaceKind}
use Rattle.records.specs.declared.surface.SurfaceKind.TheVariants as surface_kind
use Rattle.records.specs.declared.surface.SurfaceInputPolicy.{SurfaceInputPolicy}
use Rattle.records.specs.declared.surface.SurfaceInputPolicy.TheVariants as policy
use Rattle.geometry.specs.declared.metrics.ViewVisibility.{ViewVisibility}
use Rattle.geometry.specs.declared.metrics.ViewVisibility.TheVariants as visibility
use Rattle.records.specs.declared.shortcut.ShortcutScope.{ShortcutScope}
use Rattle.records.specs.declared.shortcut.ShortcutScope.TheVariants as scope

-- a panel's kind
abbrev pub surface_kinds : List SurfaceKind
surface_kinds = surface_kind.Game ∷ surface_kind.Ui ∷ surface_kind.Diagnostics ∷ []

unfoldable pub surface_kind_of : ℕ → SurfaceKind
surface_kind_of n = get_or surface_kinds n surface_kind.Game

abbrev pub surface_kind_number : SurfaceKind → ℕ
surface_kind_number surface_kind.Game = 0
surface_kind_number surface_kind.Ui = 1
surface_kind_number surface_kind.Diagnostics = 2

-- a panel's policy
abbrev pub policies : List SurfaceInputPolicy
policies = policy.Observe ∷ policy.Passthrough ∷ policy.Interactive ∷ policy.Exclusive ∷ []

unfoldable pub policy_of : ℕ → SurfaceInputPolicy
policy_of n = get_or policies n policy.Observe

abbrev pub policy_number : SurfaceInputPolicy → ℕ
policy_number policy.Observe = 0
policy_number policy.Passthrough = 1
policy_number policy.Interactive = 2
policy_number policy.Exclusive = 3

-- a view's visibility
abbrev pub visibilities : List ViewVisibility
visibilities = visibility.Visible ∷ visibility.Hidden ∷ visibility.Suspended ∷ []

unfoldable pub visibility_of : ℕ → ViewVisibility
visibility_of n = get_or visibilities n visibility.Visible

abbrev pub visibility_number : ViewVisibility → ℕ
visibility_number visibility.Visible = 0
visibility_number visibility.Hidden = 1
visibility_number visibility.Suspended = 2

-- a shortcut's scope
abbrev pub scopes : List ShortcutScope
scopes = scope.View ∷ scope.Window ∷ scope.Session ∷ []

unfoldable pub scope_of : ℕ → ShortcutScope
scope_of n = get_or scopes n scope.View

abbrev pub scope_number : ShortcutScope → ℕ
scope_number scope.View = 0
scope_number scope.Window = 1
scope_number scope.Session = 2
