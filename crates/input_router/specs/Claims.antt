-- What holds of the router beyond the equations of its functions.
use Rattle.std.specs.Prelude.{ℕ, ◌≡◌, true, false, not, ◌||◌, List, [], ◌++◌, ltb, length, is_ok, None, Some, Ok, Err}
use Rattle.lists.specs.Lists.{keep, all}
use Rattle.lists.specs.Tables.{entries_of, packed}
use Rattle.handles.specs.Handles.{same_handle}
use Rattle.handles.specs.declared.GenerationalHandle.{GenerationalHandle}
use Rattle.maps.specs.Keys.{binding_key, key_same}
use Rattle.maps.specs.MapTables.{inserted, retained}
use Rattle.maps.specs.Bindings.{bindings}
use Rattle.maps.specs.Sequences.{sequences, sequence_key}
use Rattle.maps.specs.declared.keys.BindingKey.{BindingKey}
use Rattle.maps.specs.declared.keys.InputDeviceId.{InputDeviceId}
use Rattle.maps.specs.declared.bindings.Binding.{Binding}
use Rattle.maps.specs.declared.captures.Capture.{Capture}
use Rattle.records.specs.declared.error.CompositionError.{CompositionError}
use Rattle.records.specs.Surfaces.{SurfaceTable}
use Rattle.input_router.specs.declared.router.PlatformInputRouter.{PlatformInputRouter}
use Rattle.input_router.specs.Router.{start_outcome, started, with_bindings, with_sequences, with_timestamp, presses_of}
use Rattle.input_router.specs.Damage.{is_router_sound}
use Rattle.input_router.specs.Order.{sequence_entry, order_of, recorded}
use Rattle.input_router.specs.Presses.{held_by, has_room, opened, ended}
use Rattle.release_lists.specs.Releases.{releases, is_on, in_panel_order, is_listed, add_captures}
use Rattle.input_router.specs.Releases.{releases_of, release_surface, release_all, without_device_presses, without_device}
use Rattle.input_router.specs.ViewReleases.{kind_of, is_closed, first_closed, is_of_view, view_outcome, listed_presses, release_view}

pub record RouterClaims : Type 0 where
  -- an accepted start makes a sound router, and a refused one a damaged router
  pub start_sound : (limit : ℕ) → is_router_sound (started limit).router ≡ is_ok (start_outcome limit)
  -- a sound router stays sound
  pub recorded_sound : (r : PlatformInputRouter) (d : InputDeviceId) (n time : ℕ) → is_router_sound r ≡ true
      → is_router_sound (recorded r d n time) ≡ true
  pub opened_sound : (r : PlatformInputRouter) (k : BindingKey) (h : GenerationalHandle) → is_router_sound r ≡ true
      → has_room r k ≡ true → is_router_sound (opened r k h) ≡ true
  pub ended_sound : (r : PlatformInputRouter) (k : BindingKey) → is_router_sound r ≡ true → is_router_sound (ended r k)
      ≡ true
  pub surface_sound : (r : PlatformInputRouter) (h : GenerationalHandle) → is_router_sound r ≡ true
      → is_router_sound (release_surface r h).router ≡ true
  pub all_sound : (r : PlatformInputRouter) → is_router_sound r ≡ true → is_router_sound (release_all r).router ≡ true
  pub device_presses_sound : (r : PlatformInputRouter) (d : InputDeviceId) → is_router_sound r ≡ true
      → is_router_sound (without_device_presses r d) ≡ true
  pub device_sound : (r : PlatformInputRouter) (d : InputDeviceId) → is_router_sound r ≡ true
      → is_router_sound (without_device r d) ≡ true
  pub view_sound_lem : (r : PlatformInputRouter) (t : SurfaceTable) (v : GenerationalHandle) → is_router_sound r ≡ true
      → is_router_sound (release_view r t v).router ≡ true
  -- an event in order is recorded
  pub in_order : (r : PlatformInputRouter) (d : InputDeviceId) (n time : ℕ) → order_of r d n time ≡ Ok tt
      → recorded r d n time ≡ with_timestamp time
      (with_sequences (inserted sequences sequence_key (sequence_entry d n) r.device_sequences) r)
  -- RULES.md, Presses: where there is room the press is open at its panel, and the others stay
  pub opened_held : (r : PlatformInputRouter) (k : BindingKey) (h : GenerationalHandle) → is_router_sound r ≡ true
      → has_room r k ≡ true → held_by (opened r k h) k ≡ Some h
  pub opened_others : (r : PlatformInputRouter) (j k : BindingKey) (h : GenerationalHandle)
      → key_same (binding_key j) (binding_key k) ≡ false → held_by (opened r k h) j ≡ held_by r j
  -- an ended press is open nowhere, and the others stay
  pub ended_held : (r : PlatformInputRouter) (k : BindingKey) → held_by (ended r k) k ≡ None
  pub ended_others : (r : PlatformInputRouter) (j k : BindingKey) → key_same (binding_key j) (binding_key k) ≡ false
      → held_by (ended r k) j ≡ held_by r j
  -- a released panel holds no press, and the presses of every other panel stay
  pub none_left : (r : PlatformInputRouter) (h : GenerationalHandle) → is_router_sound r ≡ true
      → keep (is_on h) (presses_of (release_surface r h).router) ≡ []
  pub others_stay : (r : PlatformInputRouter) (h g : GenerationalHandle) → is_router_sound r ≡ true → same_handle h g
      ≡ false
      → keep (is_on g) (presses_of (release_surface r h).router) ≡ keep (is_on g) (presses_of r)
  -- the release of all leaves no press; for every panel it lists what the release of that panel lists, it lists as many
  -- as there are presses, and panels go by handle
  pub all_none_left : (r : PlatformInputRouter) → is_router_sound r ≡ true → presses_of (release_all r).router ≡ []
  pub all_of_panel : (r : PlatformInputRouter) (h : GenerationalHandle) → is_router_sound r ≡ true
      → keep (is_on h) (entries_of releases (releases_of (release_all r)))
      ≡ entries_of releases (releases_of (release_surface r h))
  pub all_listed : (r : PlatformInputRouter) → is_router_sound r ≡ true
      → length (entries_of releases (releases_of (release_all r))) ≡ length (presses_of r)
  pub all_by_handle : (r : PlatformInputRouter) → is_router_sound r ≡ true
      → in_panel_order (entries_of releases (releases_of (release_all r))) ≡ true
  -- an accepted view release takes the presses of the view's panels, and leaves the others
  pub view_accepted : (r : PlatformInputRouter) (t : SurfaceTable) (v : GenerationalHandle)
      → view_outcome (release_view r t v) ≡ Ok tt
      → (listed_presses (release_view r t v) ≡ retained bindings (is_of_view t v) r.bindings)
      × ((release_view r t v).router ≡ with_bindings (retained bindings (λ e. not (is_of_view t v e)) r.bindings) r)
  -- of the kinds before that of the first press whose panel is closed, no press has a closed panel
  pub view_stopped : (r : PlatformInputRouter) (t : SurfaceTable) (stop : Binding) → is_router_sound r ≡ true
      → first_closed t (presses_of r) ≡ Some stop
      → all (λ e. not (ltb (kind_of e) (kind_of stop)) || not (is_closed t e)) (presses_of r) ≡ true
  -- a refused view release lists nothing
  pub view_refused : (r : PlatformInputRouter) (t : SurfaceTable) (v : GenerationalHandle) (e : CompositionError)
      → view_outcome (release_view r t v) ≡ Err e → listed_presses (release_view r t v) ≡ packed bindings []
  -- presses are listed first, and every capture's pair of pointer and panel is listed
  pub presses_first : (l : List Binding) (cs : List Capture) → (more : List Binding) × (add_captures l cs ≡ l ++ more)
  pub captures_listed_lem : (l : List Binding) (cs : List Capture) → all (λ c. is_listed c (add_captures l cs)) cs
      ≡ true
