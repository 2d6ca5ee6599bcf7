-- RULES.md, Release order, of the view's panels; What a refusal has written: a view release that meets a closed owner
-- has dropped the kinds before it.
use Rattle.std.specs.Result.{result_and, result_unwrap_or}
use Rattle.records.specs.Errors.{Outcome}
use Rattle.std.specs.Prelude.{ℕ, Bool, true, cond, not, ◌&&◌, List, [], ltb, is_ok, Option, None, Some, Ok}
use Rattle.lists.specs.Lists.{keep, first}
use Rattle.lists.specs.Tables.{packed}
use Rattle.handles.specs.Handles.{same_handle}
use Rattle.handles.specs.declared.GenerationalHandle.{GenerationalHandle}
use Rattle.maps.specs.Bindings.{Bindings, bindings, key_of_binding}
use Rattle.maps.specs.declared.bindings.Binding.{Binding}
use Rattle.records.specs.Surfaces.{descriptor_of, surface_refusal, SurfaceTable}
use Rattle.input_router.specs.declared.router.PlatformInputRouter.{PlatformInputRouter}
use Rattle.input_router.specs.declared.view_releases.ViewReleased.{ViewReleased}
use Rattle.input_router.specs.Router.{with_bindings, presses_of}

-- pointers 0, keys 1, gamepads 2
abbrev pub kind_of : Binding → ℕ
kind_of e = (key_of_binding e).kind

-- the press's panel is not live
abbrev pub is_closed : SurfaceTable → Binding → Bool
is_closed surfaces e = not (is_ok (surface_refusal surfaces e.surface))

-- the first press whose panel is closed: in table order, so of the first kind that has one
abbrev pub first_closed : SurfaceTable → List Binding → Option Binding
first_closed surfaces l = first (is_closed surfaces) l

-- 11/12 of that panel
abbrev pub closed_refusal : SurfaceTable → Option Binding → Outcome
closed_refusal surfaces None = Ok tt
closed_refusal surfaces (Some e) = surface_refusal surfaces e.surface

-- the kinds before that of the closed panel's press are dropped, and all where no panel is closed: the Rust goes kind
-- by kind, looks up the panels of all presses of a kind (`belongs_to_view(*surface)?`) before it removes any of them,
-- and ends at the first that is closed. With a pointer on a live panel and two keys, one on a closed panel, the pointer
-- is dropped and both keys stay.
abbrev pub is_reached : Option Binding → Binding → Bool
is_reached None e = true
is_reached (Some stop) e = ltb (kind_of e) (kind_of stop)

-- a press of the view's panels
abbrev pub is_of_view : SurfaceTable → GenerationalHandle → Binding → Bool
is_of_view surfaces view e = same_handle (descriptor_of surfaces e.surface).view view

abbrev pub is_taken : SurfaceTable → GenerationalHandle → Option Binding → Binding → Bool
is_taken surfaces view stop e = is_reached stop e && is_of_view surfaces view e

abbrev pub release_view_to : PlatformInputRouter → SurfaceTable → GenerationalHandle → Option Binding → ViewReleased
release_view_to r surfaces view stop =
    record {
      outcome =
          result_and (closed_refusal surfaces stop) (Ok (packed bindings (keep (is_taken surfaces view stop)
          (presses_of r))));
      router = with_bindings (packed bindings (keep (λ e. not (is_taken surfaces view stop e)) (presses_of r))) r;
    }

-- whether a release is accepted, or why it is refused, without the presses
abbrev pub view_outcome : ViewReleased → Outcome
view_outcome x = result_and x.outcome (Ok tt)

-- the presses that a release lists: none where it is refused
abbrev pub listed_presses : ViewReleased → Bindings
listed_presses x = result_unwrap_or x.outcome (packed bindings [])

unfoldable pub release_view : PlatformInputRouter → SurfaceTable → GenerationalHandle → ViewReleased
release_view r surfaces view = release_view_to r surfaces view (first_closed surfaces (presses_of r))
