-- RULES.md, Route, Release order: `release_surface` and `release_all` refuse 42 only; the presses of a device.
use Rattle.std.specs.Result.{result_and, result_unwrap_or}
use Rattle.std.specs.Prelude.{Bool, cond, not, List, [], Ok, Err}
use Rattle.lists.specs.Lists.{keep}
use Rattle.lists.specs.Tables.{packed}
use Rattle.handles.specs.declared.GenerationalHandle.{GenerationalHandle}
use Rattle.maps.specs.Keys.{device_key, device_same}
use Rattle.maps.specs.MapTables.{retained, removed}
use Rattle.maps.specs.Bindings.{bindings, key_of_binding, Bindings}
use Rattle.maps.specs.Sequences.{sequences, sequence_key}
use Rattle.maps.specs.declared.keys.InputDeviceId.{InputDeviceId}
use Rattle.maps.specs.declared.bindings.Binding.{Binding}
use Rattle.input_events.specs.declared.error.PlatformInputError.TheVariants.{Damaged}
use Rattle.input_router.specs.declared.releases.Released.{Released}
use Rattle.input_router.specs.declared.router.PlatformInputRouter.{PlatformInputRouter}
use Rattle.input_router.specs.Router.{empty_router, with_bindings, with_sequences, presses_of}
use Rattle.input_router.specs.Damage.{is_router_sound}
use Rattle.input_events.specs.RouterErrors.{RouterOutcome}
use Rattle.release_lists.specs.Releases.{Releases, releases, is_on, by_panel}

-- an accepted router release: a list of releases, and the router without these presses
abbrev pub released : List Binding → PlatformInputRouter → Released
released l r = record { outcome = Ok (packed releases l); router = r }

-- a damaged router is refused 42: it lists nothing and stays
abbrev pub damaged_release : PlatformInputRouter → Released
damaged_release r = record { outcome = Err Damaged; router = r }

-- whether a release is accepted, or why it is refused, without the list
abbrev pub release_outcome : Released → RouterOutcome
release_outcome x = result_and x.outcome (Ok tt)

-- what a release lists: nothing where it is refused
abbrev pub releases_of : Released → Releases
releases_of x = result_unwrap_or x.outcome (packed releases [])

-- the presses of the panel: pointers, keys, gamepads, each by key
unfoldable pub release_surface : PlatformInputRouter → GenerationalHandle → Released
release_surface r surface =
    cond (is_router_sound r)
    (released (keep (is_on surface) (presses_of r))
    (with_bindings (retained bindings (λ e. not (is_on surface e)) r.bindings) r))
    (damaged_release r)

-- all presses, panel by panel, by handle; then sequences and the time are forgotten
unfoldable pub release_all : PlatformInputRouter → Released
release_all r =
    cond (is_router_sound r)
    (released (by_panel (presses_of r)) (empty_router r.max_active_bindings))
    (damaged_release r)

-- a press of that device id, value and generation
abbrev pub is_of_device : InputDeviceId → Binding → Bool
is_of_device device e = device_same (key_of_binding e) device

abbrev pub device_presses : PlatformInputRouter → InputDeviceId → Bindings
device_presses r device = retained bindings (is_of_device device) r.bindings

abbrev pub without_device_presses : PlatformInputRouter → InputDeviceId → PlatformInputRouter
without_device_presses r device = with_bindings (retained bindings (λ e. not (is_of_device device e)) r.bindings) r

-- a disconnect forgets its device's sequence, not the shared time
abbrev pub without_device : PlatformInputRouter → InputDeviceId → PlatformInputRouter
without_device r device =
    with_sequences (removed sequences sequence_key (device_key device) r.device_sequences)
    (without_device_presses r device)
