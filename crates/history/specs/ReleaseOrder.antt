-- RULES.md, Release order, claimed of every sound router, whatever its history: what it lists for a panel, a device
-- or a view rises.
use Rattle.std.specs.Prelude.{◌≡◌, Bool, true, List}
use Rattle.lists.specs.Lists.{keep}
use Rattle.lists.specs.Maps.{rising}
use Rattle.lists.specs.Tables.{entries_of}
use Rattle.handles.specs.declared.GenerationalHandle.{GenerationalHandle}
use Rattle.maps.specs.Bindings.{bindings}
use Rattle.maps.specs.declared.bindings.Binding.{Binding}
use Rattle.maps.specs.declared.keys.InputDeviceId.{InputDeviceId}
use Rattle.records.specs.Surfaces.{SurfaceTable}
use Rattle.release_lists.specs.Releases.{releases}
use Rattle.input_router.specs.declared.router.PlatformInputRouter.{PlatformInputRouter}
use Rattle.input_router.specs.Damage.{is_router_sound}
use Rattle.input_router.specs.Releases.{releases_of, release_surface, release_all, device_presses}
use Rattle.input_router.specs.ViewReleases.{listed_presses, release_view}
use Rattle.book.specs.Book.{key_of, is_on_panel}
use Rattle.book.specs.Ids.{press_before}

-- each press comes before the next by the book's own order
abbrev pub in_release_order : List Binding → Bool
in_release_order l = rising key_of press_before l

pub record ReleaseOrder : Type 0 where
  pub panel : (r : PlatformInputRouter) (h : GenerationalHandle) → is_router_sound r ≡ true
      → in_release_order (entries_of releases (releases_of (release_surface r h))) ≡ true
  pub device : (r : PlatformInputRouter) (d : InputDeviceId) → is_router_sound r ≡ true
      → in_release_order (entries_of bindings (device_presses r d)) ≡ true
  pub view : (r : PlatformInputRouter) (t : SurfaceTable) (v : GenerationalHandle) → is_router_sound r ≡ true
      → in_release_order (entries_of bindings (listed_presses (release_view r t v))) ≡ true
  -- of all presses those of each panel
  pub all : (r : PlatformInputRouter) (h : GenerationalHandle) → is_router_sound r ≡ true
      → in_release_order (keep (is_on_panel h) (entries_of releases (releases_of (release_all r)))) ≡ true
