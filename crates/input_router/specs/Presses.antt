-- RULES.md, Presses, and 40: a router full of presses opens no other.
use Rattle.std.specs.Prelude.{ℕ, Bool, true, ltb, length, Option, None, Some, unwrap_or}
use Rattle.handles.specs.declared.GenerationalHandle.{GenerationalHandle}
use Rattle.maps.specs.Keys.{binding_key}
use Rattle.maps.specs.MapTables.{found, removed}
use Rattle.maps.specs.Bindings.{bindings, key_of_binding, surface_of, insertion_of}
use Rattle.maps.specs.declared.keys.BindingKey.{BindingKey}
use Rattle.maps.specs.declared.bindings.Binding.{Binding}
use Rattle.input_router.specs.declared.router.PlatformInputRouter.{PlatformInputRouter}
use Rattle.input_router.specs.Router.{with_bindings, presses_of}

abbrev pub press : BindingKey → GenerationalHandle → Binding
press key surface = record { key = key; surface = surface }

-- the panel that holds a press
abbrev pub held_by : PlatformInputRouter → BindingKey → Option GenerationalHandle
held_by r key = surface_of (found bindings key_of_binding (binding_key key) r.bindings)

-- the press is open already, or the open presses are below the limit
abbrev pub has_room_with : Option GenerationalHandle → ℕ → ℕ → Bool
has_room_with None count limit = ltb count limit
has_room_with (Some surface) count limit = true

abbrev pub has_room : PlatformInputRouter → BindingKey → Bool
has_room r key = has_room_with (held_by r key) (length (presses_of r)) r.max_active_bindings

-- a Down opens the press or moves it to the new receiver
abbrev pub opened : PlatformInputRouter → BindingKey → GenerationalHandle → PlatformInputRouter
opened r key surface = with_bindings (unwrap_or (insertion_of (press key surface) r.bindings) r.bindings) r

-- Up, Cancel or a disconnected snapshot ends it
abbrev pub ended : PlatformInputRouter → BindingKey → PlatformInputRouter
ended r key = with_bindings (removed bindings key_of_binding (binding_key key) r.bindings) r
